-- Forms that the grammar is written in.
use Rattle.std.specs.Prelude.{List, [], ◌∷◌, Option, Some, None}
use Rattle.fb_grammar.specs.{declared.kind.Kind.{Kind}, declared.kind.Kind.TheVariants.{Comma}, declared.lexeme.Lexeme.{Lexeme}, Kind.{name_kinds}}
use Rattle.fb_grammar.specs.{Lexemes.{name_use}, Form.{Form, one, both, option, many, as_value}}
use Rattle.fb_tree.specs.Text.declared.name.NameUse.{NameUse}

-- a reserved word or a symbol
abbrev pub key : Kind → Form Lexeme
key kind = one (kind ∷ [])

-- x y, of which x is kept
abbrev pub before : {A B : Type 0} → Form A → Form B → Form A
before x y = as_value (λ v. v.0) (both x y)

-- x y, of which y is kept
abbrev pub behind : {A B : Type 0} → Form A → Form B → Form B
behind x y = as_value (λ v. v.1) (both x y)

-- x, which is read and not kept
abbrev pub passed : {A : Type 0} → Form A → Form (Unit {0})
passed x = as_value (λ _. tt) x

abbrev pub or_none : {A : Type 0} → Option (List A) → List A
or_none None = []
or_none (Some values) = values

-- [x], which gives no values if it is not written
abbrev pub optional_list : {A : Type 0} → Form (List A) → Form (List A)
optional_list x = as_value or_none (option x)

abbrev pub cons : {A : Type 0} → A × List A → List A
cons v = v.0 ∷ v.1

-- x {KIND x}
abbrev pub separated : {A : Type 0} → Kind → Form A → Form (List A)
separated kind x = as_value cons (both x (many (behind (key kind) x)))

-- ',' x
abbrev pub further : {A : Type 0} → Form A → Form A
further x = behind (key Comma) x

-- x {',' x}
abbrev pub list : {A : Type 0} → Form A → Form (List A)
list x = separated Comma x

unfoldable pub name : Form NameUse
name = as_value name_use (one name_kinds)

-- name {',' name}
unfoldable pub names : Form (List NameUse)
names = list name
