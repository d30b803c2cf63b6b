use Rattle.fb_grammar.proofs.{Ending.{unended_pulled}, Pulls.{pulled-within}}
use Rattle.fb_grammar.proofs.upcoming.tokens_are_pulled.Goals as goal

pub returns : goal.returns
returns c = record {
  tokens = unended_pulled;
  within = pulled-within;
}
