-- What is indexed of each unit before it is replaced, and of the second one at the end.
use Rattle.std.proofs.Common.{◌≡◌, ℕ, List, ◌∙◌}
use Rattle.fb_tree.specs.Mentions.{Mentioned, nothing_mentioned}
use Rattle.fb_index.specs.Indexed.{Indexed, nothing_indexed, IsIndexedAs}
use Rattle.fb_index.proofs.{Lookups.{flips}, Replacing.{indexed_none, still_indexed}}
use Rattle.reading_tests.proofs.index.fill.Goals as goal

-- nothing is indexed of a unit at the beginning
begins : {index : Indexed} {none : Mentioned} → index ≡ nothing_indexed → none ≡ nothing_mentioned → (unit : List ℕ) → IsIndexedAs index unit none
begins empty is unit = rw (empty, is) (indexed_none unit)

pub replace-requires : goal.replace-requires
replace-requires c = record { known = begins c.requires.empty c.nothing-none.ensures _ }

pub replace-requires-2 : goal.replace-requires-2
replace-requires-2 c = record {
  known = still_indexed (c.in_ok-replace.ensures.ok.others _ c.in_ok-refuse_same.ensures) (begins c.requires.empty c.nothing-none.ensures _);
}

pub replace-requires-3 : goal.replace-requires-3
replace-requires-3 c = record {
  known =
      still_indexed (c.in_ok-replace-2.ensures.ok.others _ c.in_ok-refuse_same-4.ensures)
      (still_indexed (c.in_ok-replace.ensures.ok.others _ c.in_ok-refuse_same-2.ensures) (begins c.requires.empty c.nothing-none.ensures _));
}

pub replace-requires-4 : goal.replace-requires-4
replace-requires-4 c = record {
  known =
      still_indexed (c.in_ok-replace-3.ensures.ok.others _ c.in_ok-refuse_same-6.ensures)
      (still_indexed (c.in_ok-replace-2.ensures.ok.others _ c.in_ok-refuse_same-5.ensures)
      (still_indexed (c.in_ok-replace.ensures.ok.others _ c.in_ok-refuse_same-3.ensures) (begins c.requires.empty c.nothing-none.ensures _)));
}

pub returns : goal.returns
returns c =
    still_indexed (c.in_ok-replace-4.ensures.ok.others _ (flips c.args.case.now.fourth.name c.args.case.now.second.name ∙ c.in_ok-refuse_same-5.ensures))
    (still_indexed (c.in_ok-replace-3.ensures.ok.others _ (flips c.args.case.now.third.name c.args.case.now.second.name ∙ c.in_ok-refuse_same-4.ensures))
    c.in_ok-replace-2.ensures.ok.own)
