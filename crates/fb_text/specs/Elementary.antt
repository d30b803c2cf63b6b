-- Classes of types, by their names in any case.
use Rattle.std.specs.{Prelude.{ℕ, Bool, true, false, ◌&&◌, ◌||◌, nat_le, length, if◌then◌else◌, List, [], ◌∷◌, take, codes}, List.{list_any}}
use Rattle.fb_text.specs.{Forms.{same_word}, declared.elementary.TypeClass.{TypeClass}}
use Rattle.fb_text.specs.declared.elementary.TypeClass.TheVariants as class

-- the types of truth values
abbrev pub truth_types : List (List ℕ)
truth_types = codes "BOOL" ∷ []

-- the types of whole numbers
abbrev pub integer_types : List (List ℕ)
integer_types =
    codes "SINT" ∷ codes "INT" ∷ codes "DINT" ∷ codes "LINT" ∷ codes "USINT" ∷ codes "UINT" ∷ codes "UDINT" ∷ codes "ULINT" ∷ []

-- the types of strings of bits
abbrev pub bit_types : List (List ℕ)
bit_types = codes "BYTE" ∷ codes "WORD" ∷ codes "DWORD" ∷ codes "LWORD" ∷ []

-- the types of durations, dates and times of day
abbrev pub time_types : List (List ℕ)
time_types = codes "TIME" ∷ codes "DATE" ∷ codes "TOD" ∷ codes "TIME_OF_DAY" ∷ codes "DT" ∷ codes "DATE_AND_TIME" ∷ []

-- the other elementary types of the class `Other`: real numbers and strings
abbrev pub other_types : List (List ℕ)
other_types = codes "REAL" ∷ codes "LREAL" ∷ codes "STRING" ∷ codes "WSTRING" ∷ []

-- the word is one of these, in any case
abbrev pub is_one_of : List (List ℕ) → List ℕ → Bool
is_one_of words word = list_any (same_word word) words

-- `ANY`, and a name that begins with `ANY_`; a word of more than 64 bytes is no name
unfoldable pub is_generic_type : List ℕ → Bool
is_generic_type word = same_word word (codes "ANY") || (nat_le (length word) 64 && same_word (take 4 word) (codes "ANY_"))

-- the class of the type with this name
unfoldable pub type_class_of : List ℕ → TypeClass
type_class_of word =
    if is_one_of truth_types word then class.Truth
    else if is_one_of integer_types word then class.Integer
    else if is_one_of bit_types word then class.Bits
    else if is_generic_type word then class.Free
    else class.Other

-- only elementary and generic types have the class
abbrev pub has_own_class : TypeClass → Bool
has_own_class class.Truth = true
has_own_class class.Integer = true
has_own_class class.Bits = true
has_own_class class.Free = true
has_own_class class.Other = false

-- whether values of the type with this name need no declaration of it, by its name in any case
unfoldable pub is_elementary : List ℕ → Bool
is_elementary word = has_own_class (type_class_of word) || (is_one_of time_types word || is_one_of other_types word)
