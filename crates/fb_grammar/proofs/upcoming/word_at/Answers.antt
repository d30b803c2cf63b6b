use Rattle.std.proofs.Common.{length, drop, take, ◌+◌, ◌-◌, subst, refl, sym, ap, ◌∙◌, arith}
use Rattle.fb_tree.proofs.Text.ScanLemmas.{rest_is}
use Rattle.fb_grammar.specs.Pulled.{IsFront}
use Rattle.fb_grammar.proofs.PullLemmas.{typed-front, word-front}
use Rattle.fb_grammar.proofs.upcoming.word_at.Goals as goal

pub returns-then-typed-eq0-clause-front : goal.returns-then-typed-eq0-clause-front
returns-then-typed-eq0-clause-front c =
    let text = c.args.text.now in
    let place = c.args.place in
    let bytes = c.as_bytes.result.now in
    let rest = take (length bytes - place) (drop place bytes) in
    let word = c.word_run-word.result in
    let is_rest = rest_is bytes place ∙ ap (drop place) c.as_bytes.ensures.value in
    let found = word-front text place c.utf8.text c.requires.boundary c.requires.place c.requires.word rest word (take word rest) is_rest c.word_run-word.ensures.value (sym c.typed_run-typed.ensures.value ∙ c.if-typed-eq0.true) refl in
    subst (λ f. IsFront text f.kind f.place) (sym c.front_at.ensures) (subst (λ k. IsFront text k (record { start = place; end = place + word })) (sym c.word_kind.ensures) found)

pub returns-clause-front : goal.returns-clause-front
returns-clause-front c =
    let text = c.args.text.now in
    let place = c.args.place in
    let bytes = c.as_bytes.result.now in
    let rest = take (length bytes - place) (drop place bytes) in
    let word = c.word_run-word.result in
    let len = c.typed_run-typed.result in
    let is_rest = rest_is bytes place ∙ ap (drop place) c.as_bytes.ensures.value in
    let found = typed-front text place c.utf8.text c.requires.boundary c.requires.place c.requires.word rest word len (take (word + len) rest) is_rest c.word_run-word.ensures.value c.typed_run-typed.ensures.value (omega arith) refl in
    subst (λ f. IsFront text f.kind f.place) (sym c.front_at-2.ensures) (subst (λ k. IsFront text k (record { start = place; end = place + (word + len) })) (sym c.kind_of-kind.ensures) found)
