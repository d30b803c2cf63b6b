-- One more part.
use Rattle.std.proofs.{Common.{◌≡◌, ◌+◌, ◌||◌, ℕ, List, ◌∷◌, [], ◌++◌, arith, take, sym, ap, ◌∙◌}, lemmas.Grind.{common_steps}}
use Rattle.fb_types.proofs.{Text.Tests.{or_assoc, or_false}, Library.SeenLemmas.{same}, Library.WalkLemmas.{has-push, has-updates}}
use Rattle.fb_types.specs.Library.Seen.{has_name}
use Rattle.fb_flatten.proofs.suspects.insert_all.Goals as goal

pub loop-name-init : goal.loop-name-init
loop-name-init c = λ v. sym (or_false (has_name c.args.parts.now.keys v))

pub loop-name-preserved : goal.loop-name-preserved
loop-name-preserved c =
    let names = c.args.names.now in
    let i = c.loop-name.name-index in
    let x = c.name-item.result in
    let more : take (i + 1) names ≡ take i names ++ x ∷ [] = grind (arith, common_steps) in
    let known : (v : List ℕ) → has_name (take (i + 1) names) v ≡ (has_name (take i names) v || same v x) = λ v. ap (λ l. has_name l v) more ∙ has-push (take i names) x v in
    λ v. has-updates c.loop-name.parts c.insert.new.self x c.in_ok-insert.ensures.updates v
    ∙ ap (λ b. b || same v x) (c.loop-name.invariant v)
    ∙ sym (or_assoc (has_name c.args.parts.now.keys v) (has_name (take i names) v) (same v x))
    ∙ sym (ap (λ b. has_name c.args.parts.now.keys v || b) (known v))
