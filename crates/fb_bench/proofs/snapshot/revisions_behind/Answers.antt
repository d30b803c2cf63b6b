use Rattle.std.proofs.{Common.{◌-◌, ◌≡◌, ◌∙◌, ◌∷◌, [], ◌++◌, ap, arith, drop, length, map, min, sym, take}, lemmas.List.{length-drop}}
use Rattle.fb_history.specs.Reads.{revision_of_entry}
use Rattle.fb_bench.proofs.Behind.{map_more, take_at_most}
use Rattle.fb_bench.proofs.snapshot.revisions_behind.Goals as goal

pub loop-place-preserved : goal.loop-place-preserved
loop-place-preserved c =
    let first = c.first_behind-first.result in
    c.in_ok-push.ensures.items
    ∙ ap (λ l. l ++ c.revision_at.result ∷ []) c.loop-place.invariant
    ∙ sym (map_more revision_of_entry c.args.library.now first c.loop-place.place c.revision_at.result (omega arith) (omega (arith, c.first_behind-first.ensures.within)) c.revision_at.ensures)

pub returns : goal.returns
returns c =
    let first = c.first_behind-first.result in
    let rest = drop first c.args.library.now in
    let count : c.loop-place.place - first ≡ c.min-count.result = omega arith in
    let most : c.min-count.result ≡ min (length rest) 1000 = omega (arith, c.min-count.ensures, c.len.ensures, length-drop first c.args.library.now) in
    c.loop-place.invariant
    ∙ ap (λ k. map revision_of_entry (take k rest)) count
    ∙ ap (map revision_of_entry) (take_at_most rest 1000 c.min-count.result most)
    ∙ ap (λ l. map revision_of_entry (take 1000 l)) c.first_behind-first.ensures.behind
