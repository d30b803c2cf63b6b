-- The parts of trees that keep their place in the text: their places among the tokens, how they read alone, and their laws.
use Rattle.fb_laws.specs.Common.{NameUse, Span, Token, Spells, lexemes_of, Lexeme, constant, ConstantTree, constant_span, one_value, value_list, Simple, body_of, Whole, ReferenceTree, reference_expression, Expressions, no_expressions, expression_then, DeclTree}
use Rattle.std.specs.{Prelude.{◌≡◌, ℕ, List, ◌∷◌, ◌++◌, slice_range, Contains, ◌-◌, map, Ok, suc, ◌+◌, ◌<◌, All, IsUtf8}, Str.{str_to_ascii_uppercase}, List.{sum_by}}
use Rattle.fb_text.specs.{declared.token.TokenKind.TheVariants.{Word}, Tokens.{tokens_of, spans_of, LiesIn}}
use Rattle.fb_laws.specs.{SpanParts.{Part, name_part, constant_part, expression_part, tree_parts}, Written.{part_span, SpellsPart, IsWritten}}
use Rattle.fb_tree.specs.declared.constant.Simple.TheVariants as simple

-- the span has the start of one of the tokens, and the end of that token or of a later one
pub record Covers (tokens : List Span) (span : Span) : Type 0 where
  pub before : List Span
  pub first : Span
  pub behind : List Span
  pub last : Span
  pub parts : tokens ≡ before ++ first ∷ behind
  pub from_first : Contains (first ∷ behind) last
  pub start : span.start ≡ first.start
  pub end : span.end ≡ last.end

-- one of the tokens is a word at the place of the name, and the name is that word in upper case
pub record IsWord (text : List ℕ) (tokens : List Token) (name : NameUse) : Type 0 where
  pub token : Token
  pub among : Contains tokens token
  pub word : token.kind ≡ Word
  pub span : name.span ≡ token.span
  pub spelling : name.name ≡ str_to_ascii_uppercase (slice_range text token.span.start token.span.end)

-- The same, moved by this number of bytes towards the beginning of the text

abbrev pub nearer_span : ℕ → Span → Span
nearer_span bytes span = record { start = span.start - bytes; end = span.end - bytes }

abbrev pub nearer : ℕ → Lexeme → Lexeme
nearer bytes token = record { span = nearer_span bytes token.span; kind = token.kind; name = token.name }

abbrev pub nearer_simple : ℕ → Simple → Simple
nearer_simple bytes (simple.Literal literal) =
    simple.Literal (record { form = literal.form; span = nearer_span bytes literal.span })
nearer_simple bytes (simple.Name name) =
    simple.Name (record { name = name.name; span = nearer_span bytes name.span })

abbrev pub nearer_constant : ℕ → ConstantTree → ConstantTree
nearer_constant bytes (one_value value) = one_value (nearer_simple bytes value)
nearer_constant bytes (value_list values span) =
    value_list (map (nearer_simple bytes) values) (nearer_span bytes span)

-- these are the tokens of the text from the start of the span to its end
abbrev pub CutIs : List ℕ → Span → List Lexeme → Type 0
CutIs text span tokens = lexemes_of (slice_range text span.start span.end) ≡ Ok tokens

-- Tokens spell the part; moved towards the beginning by the start of the part, they are the tokens of its text alone.
pub record ReadsAlone (text : List ℕ) (part : Part) : Type 0 where
  pub inside : List Lexeme
  pub spells : SpellsPart inside part
  pub alone : CutIs text (part_span part) (map (nearer (part_span part).start) inside)

-- The text of the constant alone spells that constant, nearer to the begin.
abbrev pub ConstantReadsAlone : List ℕ → ConstantTree → Type 0
ConstantReadsAlone text c = (tokens : List Lexeme) × CutIs text (constant_span c) tokens
    × Spells constant tokens (nearer_constant (constant_span c).start c)

-- Each part of the tree of a text is what the tokens from its begin to its end spell.
abbrev pub PartsAreWritten : Type 0
PartsAreWritten =
    (text : List ℕ) (tree : DeclTree) → body_of text ≡ Whole tree
    → (lexemes : List Lexeme) × (lexemes_of text ≡ Ok lexemes) × All (IsWritten lexemes) (tree_parts tree)

-- The span of each part covers tokens of the text.
abbrev pub SpansCoverTokens : Type 0
SpansCoverTokens =
    (text : List ℕ) (tree : DeclTree) → body_of text ≡ Whole tree
    → (tokens : List Token) × (tokens_of text ≡ Ok tokens)
    × All (λ p. Covers (spans_of tokens) (part_span p)) (tree_parts tree)

-- The span of each part is a part of the text that is not empty, between characters.
abbrev pub SpansLieInText : Type 0
SpansLieInText =
    (text : List ℕ) (tree : DeclTree) → IsUtf8 text → body_of text ≡ Whole tree
    → All (λ p. LiesIn text (part_span p) × ((part_span p).start < (part_span p).end)) (tree_parts tree)

-- Each name of the tree is a word of the text.
abbrev pub NamesAreWords : Type 0
NamesAreWords =
    (text : List ℕ) (tree : DeclTree) → IsUtf8 text → body_of text ≡ Whole tree
    → (tokens : List Token) × (tokens_of text ≡ Ok tokens)
    × ((name : NameUse) → Contains (tree_parts tree) (name_part name) → IsWord text tokens name)

-- Each part reads alone as it does in the text.
abbrev pub PartsReadAlone : Type 0
PartsReadAlone = (text : List ℕ) (tree : DeclTree) → IsUtf8 text → body_of text ≡ Whole tree
    → All (ReadsAlone text) (tree_parts tree)

-- The text of each constant alone reads as that constant.
abbrev pub ConstantsReadAlone : Type 0
ConstantsReadAlone =
    (text : List ℕ) (tree : DeclTree) → IsUtf8 text → body_of text ≡ Whole tree
    → (c : ConstantTree) → Contains (tree_parts tree) (constant_part c) → ConstantReadsAlone text c

abbrev pub number_of : Expressions → ℕ
number_of no_expressions = 0
number_of (expression_then e others) = suc (number_of others)

-- the number of subscripts that the names of a reference have after them
abbrev pub counted_by : ReferenceTree → ℕ
counted_by r = r.subscripts + sum_by (λ m. m.subscripts) r.members

-- The names of each reference count its subscripts.
abbrev pub SubscriptsAreCounted : Type 0
SubscriptsAreCounted =
    (text : List ℕ) (tree : DeclTree) → body_of text ≡ Whole tree
    → (r : ReferenceTree) (subscripts : Expressions) → Contains (tree_parts tree) (expression_part (reference_expression r subscripts))
    → counted_by r ≡ number_of subscripts
