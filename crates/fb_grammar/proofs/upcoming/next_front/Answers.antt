use Rattle.std.proofs.Common.{◌≡◌, ◌+◌, ◌-◌, ◌<◌, ◌≤◌, get_or, length, drop, take, sym, subst, ◌∙◌, arith, Some}
use Rattle.fb_tree.specs.Text.Bytes.{is_blank}
use Rattle.fb_grammar.specs.{Pulled.{IsNext}, Upcoming.{lone_symbol}, declared.kind.Kind.TheVariants.{NeverClosed, End}}
use Rattle.fb_grammar.proofs.PullLemmas.{next-end, next-found, next-symbol, next-unclosed, passed-blank, passed-gap}
use Rattle.fb_grammar.proofs.upcoming.next_front.Goals as goal

pub loop-place-preserved-then-is_blank : goal.loop-place-preserved-then-is_blank
loop-place-preserved-then-is_blank c =
    let place = c.loop-place.place in
    let whole = c.as_bytes-bytes.ensures.value in
    passed-blank c.args.text.now c.args.from place c.loop-place.quotes c.utf8.text (subst (λ bs. place < length bs) whole c.loop-place-test.true) c.loop-place.invariant
    (subst (λ bs. is_blank (get_or bs place 0) ≡ _) whole (sym c.is_blank.ensures ∙ c.if-is_blank.true))

pub returns-in-Some : goal.returns-in-Some
returns-in-Some c =
    let place = c.loop-place.place in
    let whole = c.as_bytes-bytes.ensures.value in
    let found =
    next-symbol c.args.text.now c.args.from place c.loop-place.quotes c.loop-place.quotes c.loop-place.invariant c.loop-place.invariant.are_open c.in-Some.kind c.utf8.text (subst (λ bs. place < length bs) whole c.loop-place-test.true)
    (subst (λ bs. lone_symbol (get_or bs place 0) ≡ Some c.in-Some.kind) whole (sym c.in-Some.ensures)) in
    subst (λ f. IsNext c.args.text.now c.args.from f.kind f.place c.loop-place.quotes) (sym c.front_at.ensures) found

pub loop-place-preserved : goal.loop-place-preserved
loop-place-preserved c =
    let place = c.loop-place.place in
    passed-gap c.args.text.now c.args.from place c.loop-place.quotes c.next_piece.new.quotes c.loop-place.invariant c.in-Gap.ensures.quotes c.in-Gap.len c.utf8.text
    (subst (λ bs. place < length bs) c.as_bytes-bytes.ensures.value c.loop-place-test.true) (sym c.in-Gap.ensures.value)

pub returns-in-Unclosed : goal.returns-in-Unclosed
returns-in-Unclosed c =
    let place = c.loop-place.place in
    let whole = c.as_bytes-bytes.ensures.value in
    let found =
    next-unclosed c.args.text.now c.args.from place c.loop-place.quotes c.next_piece.new.quotes c.loop-place.invariant c.in-Unclosed.ensures.quotes c.utf8.text (subst (λ bs. place < length bs) whole c.loop-place-test.true) (sym c.in-Unclosed.ensures.value) in
    subst (λ f. IsNext c.args.text.now c.args.from f.kind f.place c.next_piece.new.quotes) (sym c.front_at-in-Unclosed.ensures)
    (subst (λ bs. IsNext c.args.text.now c.args.from NeverClosed (record { start = place; end = length bs }) c.next_piece.new.quotes) (sym whole) found)

pub returns-in-Found : goal.returns-in-Found
returns-in-Found c =
    let place = c.loop-place.place in
    let whole = c.as_bytes-bytes.ensures.value in
    let bytes = c.as_bytes-bytes.result.now in
    let len = c.in-Found.len in
    let size : place + len - place ≡ len = omega arith in
    let found =
    next-found c.args.text.now c.args.from place c.loop-place.quotes c.next_piece.new.quotes c.loop-place.invariant c.in-Found.ensures.quotes c.in-Found.kind len (take (place + len - place) (drop place bytes)) c.utf8.text
    (subst (λ bs. place < length bs) whole c.loop-place-test.true) (sym c.in-Found.ensures.value) (λ i. take (size i) (drop place (whole i))) in
    subst (λ f. IsNext c.args.text.now c.args.from f.kind f.place c.next_piece.new.quotes) (sym c.front_at-in-Found.ensures)
    (subst (λ k. IsNext c.args.text.now c.args.from k (record { start = place; end = place + len }) c.next_piece.new.quotes) (sym c.kind_of.ensures) found)

pub returns : goal.returns
returns c =
    let whole = c.as_bytes-bytes.ensures.value in
    let found = next-end c.args.text.now c.args.from c.loop-place.place c.loop-place.quotes c.loop-place.quotes c.loop-place.invariant c.loop-place.invariant.are_open (subst (λ bs. length bs ≤ c.loop-place.place) whole c.loop-place-test.false) in
    subst (λ f. IsNext c.args.text.now c.args.from f.kind f.place c.loop-place.quotes) (sym c.front_at-2.ensures)
    (subst (λ bs. IsNext c.args.text.now c.args.from End (record { start = length bs; end = length bs }) c.loop-place.quotes) (sym whole) found)
