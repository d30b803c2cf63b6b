-- The numbers and the words of the codes.
use Rattle.std.specs.Prelude.{ℕ, List, codes}
use Rattle.fb_iface.specs.declared.code.Code.{Code}
use Rattle.fb_iface.specs.declared.code.Code.TheVariants.{Syntax, NameDiffers, Duplicate, MixedKind, UnknownType, WrongKind, WithUnknown, StateUnknown, EventUnknown, AlgorithmUnknown, VariableUnknown, Class, PortUnknown, PortSide, DataType, SecondSource, SecondAdapter, PassThrough, ParameterUnknown, Literal, MappedTwice, NoSuchResource, MemberUnknown, StructRecursive}

-- the number of a code
abbrev pub code_number : Code → ℕ
code_number Syntax = 1
code_number NameDiffers = 2
code_number Duplicate = 3
code_number MixedKind = 4
code_number UnknownType = 5
code_number WrongKind = 6
code_number WithUnknown = 7
code_number StateUnknown = 8
code_number EventUnknown = 9
code_number AlgorithmUnknown = 10
code_number VariableUnknown = 11
code_number Class = 12
code_number PortUnknown = 13
code_number PortSide = 14
code_number DataType = 15
code_number SecondSource = 16
code_number SecondAdapter = 17
code_number PassThrough = 18
code_number ParameterUnknown = 19
code_number Literal = 20
code_number MappedTwice = 21
code_number NoSuchResource = 22
code_number MemberUnknown = 23
code_number StructRecursive = 24

-- the word of a code
abbrev pub code_word : Code → List ℕ
code_word Syntax = codes "SYNTAX"
code_word NameDiffers = codes "NAME_DIFFERS"
code_word Duplicate = codes "DUPLICATE"
code_word MixedKind = codes "MIXED_KIND"
code_word UnknownType = codes "UNKNOWN_TYPE"
code_word WrongKind = codes "WRONG_KIND"
code_word WithUnknown = codes "WITH_UNKNOWN"
code_word StateUnknown = codes "STATE_UNKNOWN"
code_word EventUnknown = codes "EVENT_UNKNOWN"
code_word AlgorithmUnknown = codes "ALGORITHM_UNKNOWN"
code_word VariableUnknown = codes "VARIABLE_UNKNOWN"
code_word Class = codes "CLASS"
code_word PortUnknown = codes "PORT_UNKNOWN"
code_word PortSide = codes "PORT_SIDE"
code_word DataType = codes "DATA_TYPE"
code_word SecondSource = codes "SECOND_SOURCE"
code_word SecondAdapter = codes "SECOND_ADAPTER"
code_word PassThrough = codes "PASS_THROUGH"
code_word ParameterUnknown = codes "PARAMETER_UNKNOWN"
code_word Literal = codes "LITERAL"
code_word MappedTwice = codes "MAPPED_TWICE"
code_word NoSuchResource = codes "NO_SUCH_RESOURCE"
code_word MemberUnknown = codes "MEMBER_UNKNOWN"
code_word StructRecursive = codes "STRUCT_RECURSIVE"
