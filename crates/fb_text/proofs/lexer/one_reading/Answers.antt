use Rattle.fb_text.proofs.Relation.{reads-one, reads-tokens}
use Rattle.fb_text.proofs.lexer.one_reading.Goals as goal

pub returns : goal.returns
returns c = record {
  reads = reads-tokens;
  one = reads-one;
}
