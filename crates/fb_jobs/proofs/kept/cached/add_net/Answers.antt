-- The net is put under the name of its unit.
use Rattle.std.proofs.Common.{Some, rules}
use Rattle.std.specs.BTreeMap as tree
use Rattle.fb_text.specs.Order.{name_cmp}
use Rattle.fb_jobs.proofs.CachedLemmas.{adds_net}
use Rattle.fb_jobs.proofs.kept.cached.add_net.Goals as goal

pub returns : goal.returns
returns c =
    let put : tree.Updates name_cmp c.args.nets.now c.insert.new.self c.args.hint.now.unit (Some c.in_ok-clone.field-0) = search rules in
    adds_net c.args.hint.now c.in_ok-clone.field-0 c.args.nets.now c.insert.new.self c.in_ok-clone.ensures.cases put.0
