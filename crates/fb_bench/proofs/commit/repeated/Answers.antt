-- What is found with the list of the units before is the first that an earlier change has.
use Rattle.std.proofs.{Common.{◌≡◌, [], map, Some, None, sym, ◌∙◌, arith}, lemmas.Grind.{common_steps}}
use Rattle.fb_entries.specs.{Library.Texts.{unit_of}, Library.Changes.{edits_of}}
use Rattle.fb_entries.proofs.Again.{repeated_after, again}
use Rattle.fb_bench.proofs.commit.repeated.Goals as goal

pub returns-then-is_changed : goal.returns-then-is_changed
returns-then-is_changed c =
    let here : Some c.unit-unit.result ≡ repeated_after [] (map unit_of (edits_of c.args.changes.now)) = grind (arith, common_steps) in
    here ∙ sym (again (map unit_of (edits_of c.args.changes.now)))

pub returns : goal.returns
returns c =
    let none : None ≡ repeated_after [] (map unit_of (edits_of c.args.changes.now)) = grind (arith, common_steps) in
    none ∙ sym (again (map unit_of (edits_of c.args.changes.now)))
