-- A point stands before each name but the first.
use Rattle.std.proofs.Common.{◌≡◌, ℕ, List, [], ◌∷◌, ◌++◌, string_bytes, ◌∙◌, ap, append_assoc, arith}
use Rattle.fb_placing.proofs.{NameLemmas.{joined_first, joined_next}, homes.mappings.joined.Goals.{then-i-gt0+in_ok-push, else-i-gt0}}
use Rattle.fb_placing.proofs.homes.mappings.joined.Goals as goal

pub loop-i-preserved : goal.loop-i-preserved
loop-i-preserved c =
    let x = c.index-names-i.result in
    let old = string_bytes c.loop-i.text in
    let joined : string_bytes c.push_str.new.self ≡ string_bytes c.if-i-gt0.text ++ x.name = c.in_ok-push_str.ensures.bytes ∙ ap (λ (t : List ℕ). string_bytes c.if-i-gt0.text ++ t) c.as_str.ensures.text in
    elim c.if-i-gt0.branch [
      | then-i-gt0+in_ok-push w ↦
          let pointed : string_bytes c.if-i-gt0.text ≡ old ++ 46 ∷ [] = ap string_bytes w.text-is ∙ w.in_ok-push.ensures.bytes ∙ ap (λ (t : List ℕ). old ++ t) (w.in_ok-push.ensures.ascii (omega arith)) in
          joined ∙ ap (λ (t : List ℕ). t ++ x.name) pointed ∙ append_assoc old (46 ∷ []) x.name
          ∙ ap (λ (t : List ℕ). t ++ 46 ∷ x.name) c.loop-i.invariant
          ∙ joined_next c.args.names.now c.loop-i.i x w.if-i-gt0.true c.loop-i-test.true c.index-names-i.is
      | else-i-gt0 w ↦
          let none : c.loop-i.i ≡ 0 = omega arith in
          joined ∙ ap (λ (t : List ℕ). t ++ x.name) (ap string_bytes w.text-is ∙ c.loop-i.invariant)
          ∙ joined_first c.args.names.now c.loop-i.i x none c.loop-i-test.true c.index-names-i.is
    ]
