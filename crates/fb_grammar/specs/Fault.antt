-- The first token at which tokens are no prefix of a form.
use Rattle.std.specs.Prelude.{◌≡◌, List, [], ◌∷◌, ◌++◌}
use Rattle.fb_grammar.specs.{declared.lexeme.Lexeme.{Lexeme}, Form.{Form, Prefix}}

-- The prefix with the next token is no prefix of the form.
abbrev pub IsStuck : {A : Type 0} → Form A → List Lexeme → List Lexeme → Type 0
IsStuck x prefix [] = Unit {0}
IsStuck x prefix (token ∷ rest) = Prefix x (prefix ++ token ∷ []) → ⊥

-- The rest begins at the first token such that the tokens up to it are no prefix of the form; it is empty if there is no such token.
abbrev pub IsFault : {A : Type 0} → Form A → List Lexeme → List Lexeme → Type 0
IsFault x tokens rest = (prefix : List Lexeme) × (tokens ≡ prefix ++ rest) × ((us vs : List Lexeme) → prefix ≡ us ++ vs → Prefix x us) × IsStuck x prefix rest
