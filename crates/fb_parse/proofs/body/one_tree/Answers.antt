use Rattle.fb_parse.specs.Grammar.{unit}
use Rattle.fb_structured_text.proofs.Forms.Forms.{one_spelled}
use Rattle.fb_parse.proofs.Predictive.{predictive_unit}
use Rattle.fb_parse.proofs.body.one_tree.Goals as goal

pub returns : goal.returns
returns c = λ tokens a b s t. one_spelled unit predictive_unit tokens a b s t
