use Rattle.std.proofs.{Common.{◌≡◌, ◌+◌, ◌||◌, cond, ℕ, List, ◌∷◌, [], ◌++◌, false, arith, take, sym, ap, ◌∙◌}, lemmas.Grind.{common_steps}}
use Rattle.fb_tree.proofs.Text.Tests.{or_assoc, or_false}
use Rattle.fb_iface.proofs.{Library.SeenLemmas.{same}, Library.WalkLemmas.{has-push, has-updates}}
use Rattle.fb_iface.specs.Library.Seen.{has_name}
use Rattle.fb_types.proofs.{NameLemmas.{same_swap}, DecidedLemmas.{gone_twice}}
use Rattle.fb_types.proofs.cycles.settle.Goals as goal

pub loop-other-init : goal.loop-other-init
loop-other-init c =
    let name = c.args.name.now in
    record {
      undecided = λ u. c.remove.ensures.updates.0 u ∙ ap (λ b. cond b false (has_name c.args.undecided.now.keys u)) (same_swap name u);
      found = λ u. sym (or_false (has_name c.args.found.now.keys u));
    }

pub loop-other-preserved : goal.loop-other-preserved
loop-other-preserved c =
    let name = c.args.name.now in
    let round = c.args.round.now in
    let i = c.loop-other.other-index in
    let x = c.other-item.result in
    let more : take (i + 1) round ≡ take i round ++ x ∷ [] = grind (arith, common_steps) in
    let known : (u : List ℕ) → has_name (take (i + 1) round) u ≡ (has_name (take i round) u || same u x) = λ u. ap (λ l. has_name l u) more ∙ has-push (take i round) x u in
    record {
      undecided = λ u. c.remove-in-loop-other.ensures.updates.0 u
          ∙ ap (λ b. cond b false (has_name c.loop-other.undecided.keys u)) (same_swap x u)
          ∙ ap (cond (same u x) false) (c.loop-other.invariant.undecided u)
          ∙ gone_twice (same u x) (has_name (take i round) u) (same u name) (has_name c.args.undecided.now.keys u)
          ∙ sym (ap (λ b. cond (b || same u name) false (has_name c.args.undecided.now.keys u)) (known u));
      found = λ u. has-updates c.loop-other.found c.insert.new.self x c.in_ok-insert.ensures.updates u
          ∙ ap (λ b. b || same u x) (c.loop-other.invariant.found u)
          ∙ sym (or_assoc (has_name c.args.found.now.keys u) (has_name (take i round) u) (same u x))
          ∙ sym (ap (λ b. has_name c.args.found.now.keys u || b) (known u));
    }
