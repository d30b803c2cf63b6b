use Rattle.std.proofs.Common.{codes}
use Rattle.fb_messages.specs.Replies.{list_of, resource_item}
use Rattle.fb_messages.proofs.Entries.{keyed}
use Rattle.fb_messages.proofs.value_reply.write_resources_member.Goals as goal

pub returns : goal.returns
returns c =
    keyed c.write_resources.result c.args.out.now c.key.new.self c.write_resources.new.out (codes "resources") (list_of resource_item c.args.plan.now.resources)
    c.in_ok-key.ensures.room.0 c.in_ok-key.ensures.ok c.write_resources.ensures
