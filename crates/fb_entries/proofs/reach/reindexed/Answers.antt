-- One more unit is indexed as after the commit.
use Rattle.std.proofs.{Common.{◌≡◌, ◌+◌, ◌++◌, ◌∷◌, [], None, ap, sym, subst, ◌∙◌, arith, take, drop}, lemmas.Grind.{common_steps}}
use Rattle.fb_tree.specs.Mentions.{mentioned}
use Rattle.fb_entries.proofs.Again.{repeated_after, again}
use Rattle.fb_entries.proofs.Indexing.{IsReindexed, reindexed_none, reindexed_more, known_here, indexed_after, not_again, none_again}
use Rattle.fb_entries.proofs.reach.reindexed.Goals as goal

pub loop-unit-init : goal.loop-unit-init
loop-unit-init c = (
  sym (again c.args.units.now) ∙ c.requires.once,
  reindexed_none c.args.before.now c.args.after.now c.args.index.now c.in_ok-index.index c.requires.known c.in_ok-index.ensures,
)

pub update-requires : goal.update-requires
update-requires c =
    let units = c.args.units.now in
    let i = c.loop-unit.unit-index in
    let x = c.unit-item.result in
    let rest : drop i units ≡ x ∷ drop (i + 1) units = grind (arith, common_steps) in
    let once : repeated_after (take i units) (x ∷ drop (i + 1) units) ≡ None = ap (repeated_after (take i units)) (sym rest) ∙ c.loop-unit.invariant.0 in
    record { known = known_here c.args.before.now c.args.after.now (take i units) x c.args.index.now c.loop-unit.index (mentioned c.mentions_or.result.now) c.loop-unit.invariant.1 (not_again (take i units) (drop (i + 1) units) x once) c.mentions_or.ensures }

pub loop-unit-preserved : goal.loop-unit-preserved
loop-unit-preserved c =
    let units = c.args.units.now in
    let i = c.loop-unit.unit-index in
    let x = c.unit-item.result in
    let more : take (i + 1) units ≡ take i units ++ x ∷ [] = grind (arith, common_steps) in
    let rest : drop i units ≡ x ∷ drop (i + 1) units = grind (arith, common_steps) in
    let once : repeated_after (take i units) (x ∷ drop (i + 1) units) ≡ None = ap (repeated_after (take i units)) (sym rest) ∙ c.loop-unit.invariant.0 in (
      ap (λ us. repeated_after us (drop (i + 1) units)) more ∙ none_again (take i units) (drop (i + 1) units) x once,
      reindexed_more c.args.before.now c.args.after.now (take i units) (take (i + 1) units) x c.args.index.now c.loop-unit.index c.update.new.index more (not_again (take i units) (drop (i + 1) units) x once) c.loop-unit.invariant.1 c.in_ok-update.ensures,
    )

pub returns : goal.returns
returns c =
    let all : take c.loop-unit.unit-index c.args.units.now ≡ c.args.units.now = grind (arith, common_steps) in
    indexed_after c.args.before.now c.args.after.now c.args.units.now c.args.index.now c.loop-unit.index c.requires.known c.requires.others
    (subst (λ us. IsReindexed c.args.before.now c.args.after.now us c.args.index.now c.loop-unit.index) all c.loop-unit.invariant.1)
