use Rattle.std.proofs.{Common.{◌≤◌, ◌∙◌, ap, arith, drop, length, replicate, take}, lemmas.List.{take-append-le}}
use Rattle.fb_text.proofs.StoredLemmas.{stored_wider}
use Rattle.fb_text.proofs.name.Name.of_short.Goals as goal

pub invariant_of-result : goal.invariant_of-result
invariant_of-result c = stored_wider 22 64 c.args.short.now _ c.args.len (omega arith) c.copy_from_slice.ensures.after c.requires

pub returns : goal.returns
returns c =
    let within : c.args.len ≤ length c.copy_from_slice.new.self = omega (arith, c.copy_from_slice.ensures.len, c.requires.within) in
    take-append-le c.args.len c.copy_from_slice.new.self (drop 22 (replicate 64 0)) within ∙ ap (take c.args.len) c.copy_from_slice.ensures.after
