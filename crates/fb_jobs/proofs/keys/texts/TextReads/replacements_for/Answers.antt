-- One more text is that of the list: the one that was read, or the one that replaces it.
use Rattle.std.proofs.Common.{◌≡◌, ◌+◌, ◌<◌, ◌++◌, [], ◌∷◌, length, length-take-le, take, drop, get_or, slice_get, Some, arith, ap, sym, subst, ◌∙◌, IfSome}
use Rattle.std.proofs.{lemmas.List.{drop_more, take_more}, lemmas.Option.{slice_get-get_or, get_or_from_slice_get}}
use Rattle.fb_jobs.specs.{Library.Filed.{filed_text}, Replaced.{all_replaced}, Texts.{there}}
use Rattle.fb_jobs.proofs.ReplacedLemmas.{replaced_once_more}
use Rattle.fb_jobs.proofs.keys.texts.TextReads.replacements_for.Goals as goal

pub loop-place-preserved : goal.loop-place-preserved
loop-place-preserved c =
    let before = c.args.self.now in
    let list = c.args.list.now in
    let i = c.loop-place.place in
    let now = there (filed_text c.in-Some.version.now.value) in
    let was = get_or before i now in
    let rest = drop (i + 1) before in
    let long : length before ≡ length list = omega (arith, c.len.ensures, c.len-2.ensures, c.if-len.false) in
    let below : i < length list = omega (arith, c.loop-place-test.true, c.len-place-end.ensures) in
    let below_before : i < length before = omega (arith, below, long) in
    let here : get_or list i now ≡ now = get_or_from_slice_get list i now now (subst (λ o. IfSome o (λ it. slice_get list i ≡ Some (there (filed_text it.now.value)))) c.in-Some.is c.version.ensures) in
    let left : drop i before ≡ was ∷ rest = drop_more before i now below_before in
    let more : take (i + 1) list ≡ take i list ++ now ∷ [] = take_more list i now below ∙ ap (λ x. take i list ++ x ∷ []) here in
    let is = c.in_ok-instead.ensures was (c.get.ensures ∙ slice_get-get_or before i now below_before) in
    ap (all_replaced before) c.in_ok-add_replacement.ensures
    ∙ replaced_once_more before (take i list) rest c.loop-place.later.items was now (c.loop-place.invariant ∙ ap (λ l. take i list ++ l) left) c.in_ok-instead.instead i
    (length-take-le i list (omega (arith, below))) is
    ∙ ap (λ l. l ++ rest) (sym more)
