-- Names of references as the reader keeps them.
use Rattle.std.specs.Prelude.{List, map}
use Rattle.fb_tree.specs.{Text.declared.token.Span.{Span}, Expression.{Expression, expression_tree}}
use Rattle.fb_grammar.specs.declared.lexeme.Lexeme.{Lexeme}
use Rattle.fb_structured_text.specs.{Expression.{PartTree}, declared.references.Part.{Part}}

-- a name with its subscripts, without their place in memory
abbrev pub part_tree : Part → PartTree
part_tree p = record { name = p.name; subscripts = map expression_tree p.subscripts.items; end = p.end }

-- subscripts, and the place of the bracket that closes them
abbrev pub closed_at : List Expression × Lexeme → List Expression × Span
closed_at s = (s.0, s.1.span)
