use Rattle.fb_grammar.proofs.Forms.{one_spelled}
use Rattle.fb_structured_text.specs.Expression.{expression}
use Rattle.fb_structured_text.proofs.ExpressionLevels.{shape-expression}
use Rattle.fb_structured_text.proofs.laws.one_expression.Goals as goal

pub returns : goal.returns
returns c = λ level tokens a b s t. one_spelled (expression level) (shape-expression level).predictive tokens a b s t
