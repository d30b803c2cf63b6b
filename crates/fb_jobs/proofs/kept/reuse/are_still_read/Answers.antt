-- One place more.
use Rattle.std.proofs.Common.{◌≡◌, ◌+◌, ◌<◌, length, List, ◌∷◌, ◌++◌, [], take, true, sym, ap, subst, ◌∙◌, arith}
use Rattle.std.proofs.{lemmas.List.{get_or-map, length-map, take_more}, lemmas.List.Elements.{all_zip_more}}
use Rattle.std.specs.List.{AllZip}
use Rattle.fb_jobs.specs.{Cached.{is_flagged}, Reuse.{IsStillRead}, Reads.{Seen}, Values.{all_seen, seen_of}}
use Rattle.fb_jobs.proofs.CachedLemmas.{flagged_there}
use Rattle.fb_jobs.proofs.kept.reuse.are_still_read.Goals as goal

pub loop-place-preserved : goal.loop-place-preserved
loop-place-preserved c =
    let k = c.loop-place.place in
    let before = c.args.before.now in
    let now = c.args.now.now in
    let flags = c.args.faultless.now in
    let faultless = is_flagged (all_seen now) flags in
    let still = IsStillRead c.args.unit.now faultless in
    let x : Seen = seen_of c.index-before-place.result in
    let y : Seen = seen_of c.index-now-place.result in
    let x_is = get_or-map seen_of before k c.index-before-place.result x (omega arith) ∙ ap seen_of (sym c.index-before-place.is) in
    let y_is = get_or-map seen_of now k c.index-now-place.result y c.loop-place-test.true ∙ ap seen_of (sym c.index-now-place.is) in
    let within : k < length (all_seen now) = omega (arith, length-map now seen_of) in
    let known = λ (e : c.flag_at-is_faultless.result ≡ true). subst (λ (s : Seen). faultless s.name ≡ true) y_is (flagged_there (all_seen now) flags k y within (sym c.flag_at-is_faultless.ensures ∙ e)) in
    subst (λ (ys : List Seen). AllZip still (take (k + 1) (all_seen before)) ys) (sym (take_more (all_seen now) k y within ∙ ap (λ z. take k (all_seen now) ++ z ∷ []) y_is))
    (all_zip_more still (all_seen before) (take k (all_seen now)) k x y (omega (arith, length-map before seen_of)) (sym x_is) c.loop-place.invariant (c.in_ok-is_still_read.ensures c.if-not-branch.false faultless known))
