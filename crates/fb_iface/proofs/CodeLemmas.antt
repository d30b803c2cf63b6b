-- Each code has a number of its own.
use Rattle.std.specs.Prelude.{◌≡◌, List, [], ◌∷◌, slice_index_or, refl}
use Rattle.std.proofs.Common.{ap, sym, ◌∙◌}
use Rattle.fb_iface.specs.{Code.{code_number}, declared.code.Code.{Code}}
use Rattle.fb_iface.specs.declared.code.Code.TheVariants.{Syntax, NameDiffers, Duplicate, MixedKind, UnknownType, WrongKind, WithUnknown, StateUnknown, EventUnknown, AlgorithmUnknown, VariableUnknown, Class, PortUnknown, PortSide, DataType, SecondSource, SecondAdapter, PassThrough, ParameterUnknown, Literal, MappedTwice, NoSuchResource, MemberUnknown, StructRecursive}

all_codes : List Code
all_codes =
    Syntax ∷ Syntax ∷ NameDiffers ∷ Duplicate ∷ MixedKind ∷ UnknownType ∷ WrongKind ∷ WithUnknown ∷ StateUnknown ∷ EventUnknown ∷ AlgorithmUnknown ∷ VariableUnknown ∷ Class ∷ PortUnknown ∷ PortSide ∷ DataType ∷ SecondSource ∷ SecondAdapter ∷ PassThrough ∷ ParameterUnknown ∷ Literal ∷ MappedTwice ∷ NoSuchResource ∷ MemberUnknown ∷ StructRecursive ∷ []

code_at-number : (c : Code) → slice_index_or all_codes (code_number c) Syntax ≡ c
unfolding all_codes
code_at-number Syntax = refl
code_at-number NameDiffers = refl
code_at-number Duplicate = refl
code_at-number MixedKind = refl
code_at-number UnknownType = refl
code_at-number WrongKind = refl
code_at-number WithUnknown = refl
code_at-number StateUnknown = refl
code_at-number EventUnknown = refl
code_at-number AlgorithmUnknown = refl
code_at-number VariableUnknown = refl
code_at-number Class = refl
code_at-number PortUnknown = refl
code_at-number PortSide = refl
code_at-number DataType = refl
code_at-number SecondSource = refl
code_at-number SecondAdapter = refl
code_at-number PassThrough = refl
code_at-number ParameterUnknown = refl
code_at-number Literal = refl
code_at-number MappedTwice = refl
code_at-number NoSuchResource = refl
code_at-number MemberUnknown = refl
code_at-number StructRecursive = refl

pub code_number-exact : (a b : Code) → code_number a ≡ code_number b → a ≡ b
code_number-exact a b e = sym (code_at-number a) ∙ ap (λ n. slice_index_or all_codes n Syntax) e ∙ code_at-number b
