use Rattle.std.proofs.Common.{◌≡◌, map, take}
use Rattle.fb_grammar.specs.Lexemes.{lexeme_of}
use Rattle.fb_grammar.proofs.lexeme.lexemes.Given as goal

abbrev pub invariant-loop-token : goal.invariant-loop-token
invariant-loop-token l = l.lexemes.items ≡ map (lexeme_of l.text) (take l.token-index l.token-items)
