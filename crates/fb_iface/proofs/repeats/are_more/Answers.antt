use Rattle.std.proofs.Common.{◌<◌, length, refl, arith}
use Rattle.fb_tree.specs.declared.interface.Variables.{Variables}
use Rattle.fb_iface.proofs.CountLemmas.{given_within}
use Rattle.fb_iface.proofs.repeats.are_more.Goals as goal

pub returns-then-left-len : goal.returns-then-left-len
returns-then-left-len c =
    let groups = c.args.groups.now in
    let n = c.loop-group.group-index in
    let within : n < length groups = omega arith in
    let more = given_within (λ (v : Variables). v.names.items) groups n c.group-item.result within c.group-item.is in
    (λ _. omega (arith, more, c.loop-group.invariant, c.if-left-len.true, c.len.ensures), λ _. refl)
