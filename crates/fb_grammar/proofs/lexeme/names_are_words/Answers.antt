use Rattle.fb_grammar.proofs.NameWords.{names}
use Rattle.fb_grammar.proofs.lexeme.names_are_words.Goals as goal

pub returns : goal.returns
returns c = names
