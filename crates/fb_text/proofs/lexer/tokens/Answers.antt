use Rattle.std.proofs.{Common.{sym, ap, ◌∙◌, Ok, arith}, lemmas.Grind.{common_steps}}
use Rattle.fb_text.proofs.Reading.{all-scanned, nothing-scanned, open-comment, past-gap, past-token}
use Rattle.fb_text.proofs.lexer.tokens.Goals as goal

pub loop-place-init : goal.loop-place-init
loop-place-init c = nothing-scanned c.args.text.now c.new-tokens.result.items c.new-quotes.result c.utf8.text c.new-tokens.ensures.items c.new-quotes.ensures

pub loop-place-preserved-in-Gap : goal.loop-place-preserved-in-Gap
loop-place-preserved-in-Gap c =
    past-gap _ _ _ _ _ _ c.loop-place.invariant c.loop-place-test.true c.in-Gap.ensures.quotes c.in-Gap.len (sym c.in-Gap.ensures.value) c.in-Gap.ensures.fits

pub returns-in-Unclosed-clause-exact : goal.returns-in-Unclosed-clause-exact
returns-in-Unclosed-clause-exact c =
    open-comment _ _ _ _ _ _ c.loop-place.invariant c.loop-place-test.true c.in-Unclosed.ensures.quotes (sym c.in-Unclosed.ensures.value)

pub loop-place-preserved : goal.loop-place-preserved
loop-place-preserved c =
    past-token _ _ _ _ _ _ c.loop-place.invariant c.loop-place-test.true c.in-Found.ensures.quotes c.in-Found.kind c.in-Found.len c.if-not-refused.tokens.items c.if-not-refused.refused (sym c.in-Found.ensures.value) c.in-Found.ensures.fits
    (λ f. grind (arith, common_steps))

pub returns-then-refused-clause-exact : goal.returns-then-refused-clause-exact
returns-then-refused-clause-exact c =
    rw (all-scanned _ _ _ _ _ c.loop-place.invariant c.loop-place-test.false)

pub returns-clause-exact : goal.returns-clause-exact
returns-clause-exact c =
    all-scanned _ _ _ _ _ c.loop-place.invariant c.loop-place-test.false ∙ ap Ok (sym (c.loop-place.invariant.all_kept c.if-refused.false))
