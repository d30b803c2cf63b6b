-- What sections have in common.
use Rattle.std.specs.Prelude.{List, [], ◌∷◌, length, Option}
use Rattle.fb_tree.specs.Text.declared.name.NameUse.{NameUse}
use Rattle.fb_grammar.specs.{Kind.{name_kinds}, declared.kind.Kind.{Kind}, declared.lexeme.Lexeme.{Lexeme}, Form.{Form, option, many}}
use Rattle.fb_grammar.specs.{Reading.{Outcome, read_one, read_each}, Repetition.{read_both, read_as}, Words.{key, before, behind, name}}

-- [KIND name]
unfoldable pub optional_name : Kind → Form (Option NameUse)
optional_name kind = option (behind (key kind) name)

-- a word, {x} and another word
abbrev pub section : {A : Type 0} → Kind → Form A → Kind → Form (List A)
section start x end = behind (key start) (before (many x) (key end))

-- reading such a section of what begins with a name
abbrev pub read_section : {A : Type 0} → Kind → (List Lexeme → Outcome A) → Kind → List Lexeme → Outcome (List A)
read_section start reads end tokens =
    read_as (λ v. v.1) (read_both (read_one (start ∷ []))
    (read_as (λ v. v.0) (read_both (λ rest. read_each reads name_kinds (length rest) rest) (read_one (end ∷ []))))) tokens
