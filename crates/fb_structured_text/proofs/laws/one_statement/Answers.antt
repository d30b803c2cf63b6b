use Rattle.fb_grammar.specs.Form.{many}
use Rattle.fb_grammar.proofs.Forms.{one_spelled}
use Rattle.fb_structured_text.specs.Statement.{statement}
use Rattle.fb_structured_text.proofs.StatementLevels.{closed-statement, predictive-statements}
use Rattle.fb_structured_text.proofs.laws.one_statement.Goals as goal

pub returns : goal.returns
returns c = record {
  single = λ level tokens a b s t. one_spelled (statement level) (closed-statement level).predictive tokens a b s t;
  several = λ level tokens a b s t. one_spelled (many (statement level)) (predictive-statements level) tokens a b s t;
}
