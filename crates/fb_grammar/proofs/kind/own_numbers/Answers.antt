use Rattle.fb_grammar.proofs.Numbering.{same_code, among-members}
use Rattle.fb_grammar.proofs.kind.own_numbers.Goals as goal

pub returns : goal.returns
returns c = record {
  own = same_code;
  members = among-members;
}
