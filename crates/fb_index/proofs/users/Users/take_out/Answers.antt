-- One more name, which is kept or not.
use Rattle.std.proofs.{Common.{◌≡◌, ◌+◌, ◌++◌, ◌∷◌, [], true, false, ◌||◌, ◌&&◌, not, ap, sym, ◌∙◌, arith, take}, lemmas.Grind.{common_steps}}
use Rattle.std.specs.BTreeMap.{is_at}
use Rattle.std.specs.BTreeSet as set
use Rattle.fb_text.specs.Order.{name_cmp}
use Rattle.fb_library.specs.Seen.{has_name}
use Rattle.fb_library.proofs.SeenLemmas.{has-push, same_is}
use Rattle.fb_index.specs.Users.{uses}
use Rattle.fb_index.proofs.{Bits.{one_less, one_kept}, Lookups.{flips}, users.Users.take_out.Goals.{then-not-contains+in_ok-leave, else-not-contains}}
use Rattle.fb_index.proofs.users.Users.take_out.Goals as goal

pub loop-name-preserved : goal.loop-name-preserved
loop-name-preserved c = λ other at.
    let names = c.args.names.now in
    let i = c.loop-name.name-index in
    let x = c.name-item.result in
    let o = uses c.args.self.now other at in
    let u = is_at (name_cmp c.args.unit.now) other in
    let f = has_name (take i names) at in
    let s = is_at (name_cmp x) at in
    let k = set.contains name_cmp c.args.kept.now at in
    let more : take (i + 1) names ≡ take i names ++ x ∷ [] = grind (arith, common_steps) in
    let now : has_name (take (i + 1) names) at ≡ (f || s) = ap (λ l. has_name l at) more ∙ has-push (take i names) x at ∙ ap (λ b. f || b) (flips at x) in
    let whole : (o && not (u && ((f || s) && not k))) ≡ (o && not (u && (has_name (take (i + 1) names) at && not k))) = ap (λ b. o && not (u && (b && not k))) (sym now) in
    elim c.if-not-contains.branch [
      | then-not-contains+in_ok-leave w ↦
          let out : s ≡ true → k ≡ false = λ is. ap (set.contains name_cmp c.args.kept.now) (sym (same_is x at is)) ∙ sym c.contains.ensures ∙ w.if-not-contains.true in
          ap (λ us. uses us other at) w.self-is
          ∙ w.in_ok-leave.ensures other at
          ∙ ap (λ b. b && not (u && s)) (c.loop-name.invariant other at)
          ∙ one_less o u f s k out
          ∙ whole
      | else-not-contains w ↦
          let in_it : s ≡ true → k ≡ true = λ is. ap (set.contains name_cmp c.args.kept.now) (sym (same_is x at is)) ∙ sym c.contains.ensures ∙ w.if-not-contains.false in
          ap (λ us. uses us other at) w.self-is ∙ c.loop-name.invariant other at ∙ one_kept o u f s k in_it ∙ whole
    ]
