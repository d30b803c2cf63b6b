-- One place more.
use Rattle.std.proofs.Common.{◌+◌, ◌<◌, length, List, ◌∷◌, ◌++◌, [], take, sym, ap, subst, ◌∙◌, arith}
use Rattle.std.proofs.{lemmas.List.{get_or-map, length-map, take_more}, lemmas.List.Elements.{all_zip_more}, lemmas.Option.{get_or_from_slice_get}}
use Rattle.std.specs.{List.{AllZip}, Option.{option_map}}
use Rattle.fb_jobs.specs.{Reuse.{MentionsTheSame}, Reads.{Seen}, Values.{all_seen, seen_of, text_seen}}
use Rattle.fb_jobs.proofs.kept.reuse.all_mention_the_same.Goals as goal

pub loop-place-preserved : goal.loop-place-preserved
loop-place-preserved c =
    let k = c.loop-place.place in
    let before = c.args.before.now in
    let now = c.args.now.now in
    let x : Seen = text_seen c.in-Some.read in
    let y : Seen = seen_of c.index-now-place.result in
    let x_is = get_or_from_slice_get before k x x (sym c.get.ensures ∙ ap (option_map text_seen) c.in-Some.is) in
    let y_is = get_or-map seen_of now k c.index-now-place.result y c.loop-place-test.true ∙ ap seen_of (sym c.index-now-place.is) in
    let within : k < length (all_seen now) = omega (arith, length-map now seen_of) in
    subst (λ (ys : List Seen). AllZip MentionsTheSame (take (k + 1) before) ys) (sym (take_more (all_seen now) k y within ∙ ap (λ z. take k (all_seen now) ++ z ∷ []) y_is))
    (all_zip_more MentionsTheSame before (take k (all_seen now)) k x y (omega (arith, c.len.ensures, c.if-len-now.false)) (sym x_is) c.loop-place.invariant (c.mentions_the_same.ensures c.if-not-mentions_the_same.false))
