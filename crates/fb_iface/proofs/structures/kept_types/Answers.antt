use Rattle.std.proofs.{Common.{◌≡◌, ◌+◌, ◌<◌, ℕ, List, ◌∷◌, [], ◌++◌, length, take, sym, ap, ◌∙◌, nat_eq, arith}, lemmas.Grind.{common_steps}}
use Rattle.std.specs.{Cmp.Lexicographic.{pointwise}, HashMap.{get}}
use Rattle.fb_library.specs.View.{tree_at}
use Rattle.fb_iface.specs.{Fields.{fields_among, fields_of_tree}, CachedFields.{kept_fields}}
use Rattle.fb_iface.proofs.FieldLemmas.{kept-more, none-more}
use Rattle.fb_iface.proofs.structures.kept_types.Goals.{in-Some+in_ok-insert+in-Some+in-Known-1, in-Some+in_ok-insert+in-Some+in-NotChecked-1, in-Some+in_ok-insert+in-None-1, in_default}
use Rattle.fb_iface.proofs.structures.kept_types.Goals as goal

pub loop-name-preserved : goal.loop-name-preserved
loop-name-preserved g c =
    let sources = g.V.View.sources c.args.view.now in
    let names = c.args.names.now in
    let i = c.loop-name.name-index in
    let x = c.name-item.result in
    let old = λ (q : List ℕ). get (pointwise nat_eq) c.loop-name.types q in
    let within : i < length names = omega arith in
    let more : take (i + 1) names ≡ take i names ++ x ∷ [] = grind (arith, common_steps) in
    let known : kept_fields c.in_ok-kept.field-0 ≡ fields_of_tree (tree_at sources x) = c.in_ok-kept.ensures in
    λ q.
    (elim c.match-branch-2.branch [
      | in-Some+in_ok-insert+in-Some+in-Known-1 w ↦
          ap (λ t. kept_fields (get (pointwise nat_eq) t q)) w.types-is
          ∙ kept-more sources (take i names) x q (old q) w.in-Some.kept (get (pointwise nat_eq) w.insert.new.self q) (ap kept_fields (sym w.in-Some.is) ∙ known) (c.loop-name.invariant q) (w.in_ok-insert.ensures.updates.0 q)
      | in-Some+in_ok-insert+in-Some+in-NotChecked-1 w ↦
          ap (λ t. kept_fields (get (pointwise nat_eq) t q)) w.types-is
          ∙ kept-more sources (take i names) x q (old q) w.in-Some.kept (get (pointwise nat_eq) w.insert.new.self q) (ap kept_fields (sym w.in-Some.is) ∙ known) (c.loop-name.invariant q) (w.in_ok-insert.ensures.updates.0 q)
      | in-Some+in_ok-insert+in-None-1 w ↦
          ap (λ t. kept_fields (get (pointwise nat_eq) t q)) w.types-is
          ∙ kept-more sources (take i names) x q (old q) w.in-Some.kept (get (pointwise nat_eq) w.insert.new.self q) (ap kept_fields (sym w.in-Some.is) ∙ known) (c.loop-name.invariant q) (w.in_ok-insert.ensures.updates.0 q)
      | in_default w ↦
          ap (λ t. kept_fields (get (pointwise nat_eq) t q)) w.types-is
          ∙ none-more sources (take i names) x q (old q) (ap kept_fields (sym w.in_default.is) ∙ known) (c.loop-name.invariant q)
    ])
    ∙ ap (λ l. fields_among sources l q) (sym more)
