-- One more name.
use Rattle.std.proofs.{Common.{◌≡◌, ◌+◌, ◌<◌, ◌++◌, [], ◌∷◌, length, take, arith, ap, sym, ◌∙◌}, lemmas.List.{map-append, take_more}, lemmas.Option.{get_or_from_slice_get}}
use Rattle.std.specs.Option.{option_map}
use Rattle.fb_jobs.specs.{Reads.{Seen, read_names}, Values.{text_seen}}
use Rattle.fb_jobs.proofs.keys.reads.names_of.Goals as goal

pub loop-place-preserved : goal.loop-place-preserved
loop-place-preserved c =
    let i = c.loop-place.place in
    let texts = c.args.texts.now in
    let read : Seen = text_seen c.in-Some.read in
    let within : i < length texts = omega (arith, c.loop-place-test.true, c.len-place-end.ensures) in
    let here = get_or_from_slice_get texts i read read (sym c.get.ensures ∙ ap (option_map text_seen) c.in-Some.is) in
    let more : take (i + 1) texts ≡ take i texts ++ read ∷ [] = take_more texts i read within ∙ ap (λ z. take i texts ++ z ∷ []) here in
    c.in_ok-push-in-Some.ensures.items
    ∙ (λ k. c.loop-place.invariant k ++ read.name ∷ [])
    ∙ sym (map-append (λ (it : Seen). it.name) (take i texts) (read ∷ []))
    ∙ ap read_names (sym more)
