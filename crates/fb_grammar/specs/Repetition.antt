-- Reading values one after the other, by what reads one of them.
use Rattle.std.specs.Prelude.{List, [], ◌∷◌, ◌++◌, length, Ok}
use Rattle.fb_grammar.specs.{declared.kind.Kind.{Kind}, declared.lexeme.Lexeme.{Lexeme}, Reading.{Outcome, ◌>>=◌, read_one, read_each}, Words.{cons}}

-- what was read before, and what is still read
abbrev pub with_prefix : {A : Type 0} → List A → Outcome (List A) → Outcome (List A)
with_prefix prefix outcome = outcome >>= λ x. Ok (prefix ++ x.0, x.1)

-- one after the other
abbrev pub read_both : {A B : Type 0} → (List Lexeme → Outcome A) → (List Lexeme → Outcome B) → List Lexeme → Outcome (A × B)
read_both reads then_reads tokens = reads tokens >>= λ a. then_reads a.1 >>= λ b. Ok ((a.0, b.0), b.1)

abbrev pub read_as : {A B : Type 0} → (A → B) → (List Lexeme → Outcome A) → List Lexeme → Outcome B
read_as f reads tokens = reads tokens >>= λ a. Ok (f a.0, a.1)

-- a token and x, as reading by `behind (key kind) x` gives it
abbrev pub read_behind : {A : Type 0} → Kind → (List Lexeme → Outcome A) → List Lexeme → Outcome A
read_behind kind reads tokens = read_as (λ v. v.1) (read_both (read_one (kind ∷ [])) reads) tokens

-- x {KIND x}, as reading by `separated kind x` gives it
abbrev pub read_separated : {A : Type 0} → Kind → (List Lexeme → Outcome A) → List Lexeme → Outcome (List A)
read_separated kind reads tokens = read_as cons (read_both reads (λ rest. read_each (read_behind kind reads) (kind ∷ []) (length rest) rest)) tokens
