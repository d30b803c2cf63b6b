use Rattle.std.proofs.Common.{◌≡◌, ◌+◌, drop, get_or, sym, ap, subst, ◌∙◌, arith}
use Rattle.fb_text.specs.{Bytes.{is_quote, first}, Scan.{AreOpen, extended, line_rest, string_len}}
use Rattle.std.proofs.lemmas.Grind.{common_steps}
use Rattle.fb_text.proofs.OpenLines.{AreOpen-extended, first-at, known-open, open-line, open-piece, string-piece}
use Rattle.fb_text.proofs.quotes.quoted.Goals as goal

pub returns-then-place-reach-clause-value : goal.returns-then-place-reach-clause-value
returns-then-place-reach-clause-value c =
    let text = c.args.text.now in
    let place = c.args.place in
    grind (arith, common_steps, known-open text place c.args.quotes.now, first-at text place, open-piece (drop place text))

pub returns-then-len-gt0-clause-value : goal.returns-then-len-gt0-clause-value
returns-then-len-gt0-clause-value c =
    grind (arith, common_steps, first-at c.args.text.now c.args.place, string-piece (drop c.args.place c.args.text.now))

pub returns : goal.returns
returns c =
    let text = c.args.text.now in
    let place = c.args.place in
    let rest = c.as_bytes-rest.ensures.value ∙ c.range_from.ensures.value in
    let none : string_len (drop place text) ≡ 0 = omega (arith, c.string_len-len.ensures.value ∙ ap string_len rest, c.if-len-gt0.false) in
    let here = ap first rest ∙ first-at text place in
    record {
      value = sym (open-piece (drop place text) (ap is_quote (first-at text place) ∙ c.requires.quote) none);
      quotes = subst (AreOpen text place)
          (sym (c.extend.ensures ∙ (λ i. extended c.args.quotes.now (here i) (place + (c.line_rest.ensures.value ∙ ap line_rest rest) i))))
          (AreOpen-extended text place c.args.quotes.now (get_or text place 0) (place + line_rest (drop place text)) c.requires.quote c.requires.quotes (open-line text place c.requires.quote none));
    }
