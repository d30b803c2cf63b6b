-- Forms of a grammar, what spells them, and their prefixes.
use Rattle.std.specs.Prelude.{◌≡◌, true, ◌⊎◌, List, [], ◌∷◌, ◌++◌, Option, Some, None}
use Rattle.fb_grammar.specs.{declared.kind.Kind.{Kind}, declared.lexeme.Lexeme.{Lexeme}, Kind.{is_among}}

-- A form, each of whose spellings has a value of A.
pub data Form : Type 0 → Type 1 where
  -- one token of one of these kinds
  one : List Kind → Form Lexeme
  -- x y
  both : {A B : Type 0} → Form A → Form B → Form (A × B)
  -- x | y
  either : {A : Type 0} → Form A → Form A → Form A
  -- [x]
  option : {A : Type 0} → Form A → Form (Option A)
  -- {x}
  many : {A : Type 0} → Form A → Form (List A)
  -- x, whose values a function changes
  as_value : {A B : Type 0} → (A → B) → Form A → Form B

abbrev pub SpellsOption : {A : Type 0} → (List Lexeme → A → Type 0) → List Lexeme → Option A → Type 0
SpellsOption P tokens None = tokens ≡ []
SpellsOption P tokens (Some value) = P tokens value

abbrev pub SpellsEach : {A : Type 0} → (List Lexeme → A → Type 0) → List Lexeme → List A → Type 0
SpellsEach P tokens [] = tokens ≡ []
SpellsEach P tokens (value ∷ values) = (prefix rest : List Lexeme) × (tokens ≡ prefix ++ rest) × P prefix value × SpellsEach P rest values

-- The tokens spell the value.
abbrev pub Spells : {A : Type 0} → Form A → List Lexeme → A → Type 0
Spells (one kinds) tokens value = (tokens ≡ value ∷ []) × (is_among kinds value.kind ≡ true)
Spells (both x y) tokens value = (prefix rest : List Lexeme) × (tokens ≡ prefix ++ rest) × Spells x prefix value.0 × Spells y rest value.1
Spells (either x y) tokens value = Spells x tokens value ⊎ Spells y tokens value
Spells (option x) tokens value = SpellsOption (Spells x) tokens value
Spells (many x) tokens values = SpellsEach (Spells x) tokens values
Spells (as_value {A} f x) tokens value = (read : A) × Spells x tokens read × (value ≡ f read)

-- The tokens are a prefix of the form.
abbrev pub Prefix : {A : Type 0} → Form A → List Lexeme → Type 0
-- of one token, nothing or that token
Prefix (one kinds) tokens = (tokens ≡ []) ⊎ ((token : Lexeme) × (tokens ≡ token ∷ []) × (is_among kinds token.kind ≡ true))
-- of x y, a prefix of x, or a spelling of x followed by a prefix of y
Prefix (both {A} x y) tokens = Prefix x tokens ⊎ ((prefix rest : List Lexeme) × (value : A) × (tokens ≡ prefix ++ rest) × Spells x prefix value × Prefix y rest)
-- of x | y, a prefix of either
Prefix (either x y) tokens = Prefix x tokens ⊎ Prefix y tokens
-- of [x], a prefix of x
Prefix (option x) tokens = Prefix x tokens
-- of {x}, none or more spellings of x followed by a prefix of x
Prefix (many {A} x) tokens = (prefix rest : List Lexeme) × (values : List A) × (tokens ≡ prefix ++ rest) × SpellsEach (Spells x) prefix values × Prefix x rest
Prefix (as_value f x) tokens = Prefix x tokens
