-- Reading by a form from left to right, with one token of lookahead.
use Rattle.std.specs.Prelude.{ℕ, zero, suc, Bool, true, false, ◌&&◌, ◌||◌, not, List, [], ◌∷◌, ◌++◌, length, Some, None, Result, Ok, Err, if◌then◌else◌}
use Rattle.std.specs.List.{list_all}
use Rattle.fb_grammar.specs.{declared.kind.Kind.{Kind}, declared.lexeme.Lexeme.{Lexeme}, Kind.{is_among}}
use Rattle.fb_grammar.specs.Form.{Form, one, both, either, option, many, as_value}

-- the empty list of tokens spells the form
abbrev pub is_nullable : {A : Type 0} → Form A → Bool
is_nullable (one kinds) = false
is_nullable (both x y) = is_nullable x && is_nullable y
is_nullable (either x y) = is_nullable x || is_nullable y
is_nullable (option x) = true
is_nullable (many x) = true
is_nullable (as_value f x) = is_nullable x

-- the kinds of token that a prefix of the form begins with
abbrev pub first : {A : Type 0} → Form A → List Kind
first (one kinds) = kinds
first (both x y) = if is_nullable x then first x ++ first y else first x
first (either x y) = first x ++ first y
first (option x) = first x
first (many x) = first x
first (as_value f x) = first x

-- the kinds of token that may continue a spelling of the form, as a prefix of it
abbrev pub after : {A : Type 0} → Form A → List Kind
after (one kinds) = []
after (both x y) = if is_nullable y then after x ++ after y else after y
after (either x y) = after x ++ after y
after (option x) = first x ++ after x
after (many x) = first x ++ after x
after (as_value f x) = after x

abbrev pub are_apart : List Kind → List Kind → Bool
are_apart kinds others = list_all (λ kind. not (is_among others kind)) kinds

-- One token decides how reading continues.
abbrev pub is_predictive : {A : Type 0} → Form A → Bool
is_predictive (one kinds) = true
is_predictive (both x y) = is_predictive x && (is_predictive y && are_apart (after x) (first y))
is_predictive (either x y) = is_predictive x && (is_predictive y && (are_apart (first x) (first y) && (not (is_nullable x) && not (is_nullable y))))
is_predictive (option x) = is_predictive x && not (is_nullable x)
is_predictive (many x) = is_predictive x && (not (is_nullable x) && are_apart (after x) (first x))
is_predictive (as_value f x) = is_predictive x

-- a value and the tokens after it, or the tokens from the first that does not continue the form
abbrev pub Outcome : Type 0 → Type 0
Outcome A = Result (A × List Lexeme) (List Lexeme)

infixl 10 ◌>>=◌
abbrev pub ◌>>=◌ : {A B : Type 0} → Outcome A → (A × List Lexeme → Outcome B) → Outcome B
(Ok x) >>= f = f x
(Err rest) >>= f = Err rest

-- the next token is of one of these kinds
abbrev pub is_next : List Kind → List Lexeme → Bool
is_next kinds [] = false
is_next kinds (token ∷ tokens) = is_among kinds token.kind

abbrev pub read_one : List Kind → List Lexeme → Outcome Lexeme
read_one kinds [] = Err []
read_one kinds (token ∷ tokens) = if is_among kinds token.kind then Ok (token, tokens) else Err (token ∷ tokens)

-- at most this number of values, as long as the next token begins one
abbrev pub read_each : {A : Type 0} → (List Lexeme → Outcome A) → List Kind → ℕ → List Lexeme → Outcome (List A)
read_each read kinds zero tokens = Ok ([], tokens)
read_each read kinds (suc n) tokens =
    if is_next kinds tokens
    then (read tokens >>= λ value. read_each read kinds n value.1 >>= λ values. Ok (value.0 ∷ values.0, values.1))
    else Ok ([], tokens)

abbrev pub read : {A : Type 0} → Form A → List Lexeme → Outcome A
read (one kinds) tokens = read_one kinds tokens
read (both x y) tokens = read x tokens >>= λ a. read y a.1 >>= λ b. Ok ((a.0, b.0), b.1)
read (either x y) tokens = if is_next (first x) tokens then read x tokens else read y tokens
read (option x) tokens = if is_next (first x) tokens then (read x tokens >>= λ a. Ok (Some a.0, a.1)) else Ok (None, tokens)
read (many x) tokens = read_each (read x) (first x) (length tokens) tokens
read (as_value f x) tokens = read x tokens >>= λ a. Ok (f a.0, a.1)
