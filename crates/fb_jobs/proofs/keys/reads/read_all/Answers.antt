-- One more read, and its text.
use Rattle.std.proofs.{Common.{◌≡◌, ◌+◌, ◌++◌, [], ◌∷◌, take, arith, ap, sym, subst, ◌∙◌, All}, lemmas.Grind.{common_steps}, lemmas.List.{map-append}}
use Rattle.std.proofs.lemmas.List.Elements.{All-push}
use Rattle.fb_deploy.specs.Library.Texts.{held}
use Rattle.fb_jobs.specs.{Reads.{reads_under}, Values.{seen_of, all_seen, IsOwn}}
use Rattle.fb_jobs.proofs.keys.reads.read_all.Goals as goal

pub loop-name-preserved : goal.loop-name-preserved
loop-name-preserved c =
    let library = c.args.library.now in
    let names = c.args.names.now in
    let i = c.loop-name.name-index in
    let name = c.name-item.result in
    let read = c.in_ok-read.read in
    let more : take (i + 1) names ≡ take i names ++ name ∷ [] = grind (arith, common_steps) in
    let pushed = ap all_seen c.in_ok-push.ensures.items ∙ map-append seen_of c.loop-name.reads.items (read ∷ []) in (
      pushed
          ∙ (λ k. c.loop-name.invariant.0 k ++ c.in_ok-read.ensures.seen k ∷ [])
          ∙ sym (map-append (λ n. record { name = n; found = held library n }) (take i names) (name ∷ []))
          ∙ sym (ap (reads_under library) more),
      subst (All IsOwn) (sym c.in_ok-push.ensures.items)
          (All-push IsOwn c.loop-name.reads.items read c.loop-name.invariant.1 c.in_ok-read.ensures.own),
      c.in_ok-texts-2.ensures ∙ (λ k. c.loop-name.invariant.2 k ++ c.in_ok-read.ensures.kept k ∷ []) ∙ sym pushed,
    )
