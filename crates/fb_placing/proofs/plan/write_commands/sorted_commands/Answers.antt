-- Two strictly sorted lists with the same members are one.
use Rattle.fb_tree.proofs.Text.OrderLemmas.{in_order-members, in_order-sorted}
use Rattle.fb_network.proofs.SameSorted.{same_sorted}
use Rattle.fb_placing.specs.PlacedCommands.{command_cmp, command_cmp_total}
use Rattle.fb_placing.proofs.PlacedLemmas.{exact_command, command_cmp-IsAntisymmetric}
use Rattle.fb_placing.proofs.plan.write_commands.sorted_commands.Goals as goal

pub sort_once-requires : goal.sort_once-requires
sort_once-requires c = exact_command

pub returns : goal.returns
returns c =
    let xs = c.args.placed.items in
    let members = in_order-members command_cmp command_cmp_total command_cmp-IsAntisymmetric xs in
    same_sorted command_cmp_total _ _ c.in_ok-sort_once.ensures.sorted (in_order-sorted command_cmp command_cmp_total xs)
    (λ z m. (members z).1 (c.in_ok-sort_once.ensures.added z m)) (λ z m. c.in_ok-sort_once.ensures.kept z ((members z).0 m))
