-- What the tokens within the span of a part spell.
use Rattle.fb_laws.specs.Common.{Span, Form, one, as_value, Spells, Kind, Lexeme, constant, type_use, constant_span, BinaryUse, UnaryUse}
use Rattle.std.specs.{Prelude.{◌≡◌, ℕ, ◌≤◌, List, [], ◌∷◌, ◌++◌}, List.{flat_map}}
use Rattle.fb_laws.specs.SpanParts.{Part, name_part, constant_part, type_part, expression_part, sign_part, operator_part, mark_part}
use Rattle.fb_structured_text.specs.{Forms.Words.{key, name}, Expression.{levels, expression}, Operators.{signs, strengths, unary_use, binary_use}}
pub use Rattle.fb_expr.specs.Spans.{span_of as expression_span, span_through}

-- the place of a part; that of an expression includes the parentheses and the subscripts that belong to it
abbrev pub part_span : Part → Span
part_span (name_part name) = name.span
part_span (constant_part c) = constant_span c
part_span (type_part t) = t.span
part_span (expression_part e) = expression_span e
part_span (sign_part sign) = sign.span
part_span (operator_part operator) = operator.span
part_span (mark_part kind span) = span

-- What spells it

-- an operator before an operand
unfoldable pub sign : Form UnaryUse
sign = as_value unary_use (one signs)

-- an operator between two operands
unfoldable pub operator : Form BinaryUse
operator = as_value binary_use (one (flat_map (λ kinds. kinds) strengths))

-- a word or symbol of a kind
unfoldable pub mark : Kind → Form Span
mark kind = as_value (λ token. token.span) (key kind)

-- the tokens spell the part, an expression at one of the levels
abbrev pub SpellsPart : List Lexeme → Part → Type 0
SpellsPart tokens (name_part n) = Spells name tokens n
SpellsPart tokens (constant_part c) = Spells constant tokens c
SpellsPart tokens (type_part t) = Spells type_use tokens t
SpellsPart tokens (expression_part e) = (level : ℕ) × (level ≤ levels) × Spells (expression level) tokens e
SpellsPart tokens (sign_part s) = Spells sign tokens s
SpellsPart tokens (operator_part o) = Spells operator tokens o
SpellsPart tokens (mark_part kind span) = Spells (mark kind) tokens span

-- the first token begins there
abbrev pub BeginsAt : List Lexeme → ℕ → Type 0
BeginsAt [] place = ⊥
BeginsAt (token ∷ tokens) place = place ≡ token.span.start

-- the last token ends there
abbrev pub EndsAt : List Lexeme → ℕ → Type 0
EndsAt [] place = ⊥
EndsAt (token ∷ []) place = place ≡ token.span.end
EndsAt (token ∷ next ∷ tokens) place = EndsAt (next ∷ tokens) place

-- Consecutive tokens among these, from the start of the part's span to its end, spell the part.
pub record IsWritten (tokens : List Lexeme) (part : Part) : Type 0 where
  pub before : List Lexeme
  pub inside : List Lexeme
  pub behind : List Lexeme
  pub parts : tokens ≡ before ++ (inside ++ behind)
  pub begins : BeginsAt inside (part_span part).start
  pub ends : EndsAt inside (part_span part).end
  pub spells : SpellsPart inside part
