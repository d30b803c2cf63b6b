use Rattle.std.proofs.Common.{refl, sym, ◌∙◌}
use Rattle.fb_grammar.specs.{Words.{further}, Reading.{read}}
use Rattle.fb_grammar.proofs.Loops.{shorter}
use Rattle.fb_structured_text.specs.Statement.{label, labels}
use Rattle.fb_structured_text.proofs.Bodies.{labels_more}
use Rattle.fb_structured_text.proofs.labels.labels.Goals as goal

pub loop-tokens-smaller : goal.loop-tokens-smaller
loop-tokens-smaller c = shorter (further label) c.loop-tokens.tokens tt c.further_label.new.tokens refl c.in_ok-further_label.ensures

pub loop-tokens-preserved : goal.loop-tokens-preserved
loop-tokens-preserved c =
    labels_more c.loop-tokens.tokens c.further_label.new.tokens (read labels c.args.tokens.now) (sym c.is_next.ensures ∙ c.loop-tokens-test.true) c.in_ok-further_label.ensures c.loop-tokens.invariant
