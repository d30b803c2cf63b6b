-- The kinds of tokens that the grammar distinguishes, each with its own number.
use Rattle.std.specs.{Prelude.{ℕ, Bool, List, [], ◌∷◌, nat_eq}, List.{list_any}}
use Rattle.fb_grammar.specs.declared.kind.Kind.{Kind}
use Rattle.fb_grammar.specs.declared.kind.Kind.TheVariants.{FunctionBlock, EndFunctionBlock, Adapter, EndAdapter, Subapplication, EndSubapplication, System, EndSystem, Application, EndApplication, Device, EndDevice, Resource, EndResource, Mappings, EndMappings, EventInput, EventOutput, EndEvent, Var, VarInput, VarOutput, EndVar, Plugs, EndPlugs, Sockets, EndSockets, Fbs, EndFbs, Subapps, EndSubapps, EventConnections, DataConnections, AdapterConnections, EndConnections, EcStates, EndStates, EcTransitions, EndTransitions, Algorithm, EndAlgorithm, Service, EndService, With, To, Array, Of, If, Then, Elsif, Else, EndIf, Case, EndCase, For, By, Do, EndFor, While, EndWhile, Repeat, Until, EndRepeat, Exit, Return, And, Or, Xor, Not, Mod, True, False, NameIn, NameOn, NameSt, Name, Zero, One, Number, RealNumber, TypedTruth, TypedInteger, TypedBits, TypedFree, TypedOther, Text, Assign, LessEqual, GreaterEqual, NotEqual, Power, Arrow, Range, Semicolon, Colon, Comma, Point, OpenParenthesis, CloseParenthesis, OpenBracket, CloseBracket, Equal, Less, Greater, Plus, Minus, Times, Divide, Ampersand, Other, TypeWord, EndType, Struct, EndStruct, End, NeverClosed}

abbrev pub code_of : Kind → ℕ
code_of FunctionBlock = 0
code_of EndFunctionBlock = 1
code_of Adapter = 2
code_of EndAdapter = 3
code_of Subapplication = 4
code_of EndSubapplication = 5
code_of System = 6
code_of EndSystem = 7
code_of Application = 8
code_of EndApplication = 9
code_of Device = 10
code_of EndDevice = 11
code_of Resource = 12
code_of EndResource = 13
code_of Mappings = 14
code_of EndMappings = 15
code_of EventInput = 16
code_of EventOutput = 17
code_of EndEvent = 18
code_of Var = 19
code_of VarInput = 20
code_of VarOutput = 21
code_of EndVar = 22
code_of Plugs = 23
code_of EndPlugs = 24
code_of Sockets = 25
code_of EndSockets = 26
code_of Fbs = 27
code_of EndFbs = 28
code_of Subapps = 29
code_of EndSubapps = 30
code_of EventConnections = 31
code_of DataConnections = 32
code_of AdapterConnections = 33
code_of EndConnections = 34
code_of EcStates = 35
code_of EndStates = 36
code_of EcTransitions = 37
code_of EndTransitions = 38
code_of Algorithm = 39
code_of EndAlgorithm = 40
code_of Service = 41
code_of EndService = 42
code_of With = 43
code_of To = 44
code_of Array = 45
code_of Of = 46
code_of If = 47
code_of Then = 48
code_of Elsif = 49
code_of Else = 50
code_of EndIf = 51
code_of Case = 52
code_of EndCase = 53
code_of For = 54
code_of By = 55
code_of Do = 56
code_of EndFor = 57
code_of While = 58
code_of EndWhile = 59
code_of Repeat = 60
code_of Until = 61
code_of EndRepeat = 62
code_of Exit = 63
code_of Return = 64
code_of And = 65
code_of Or = 66
code_of Xor = 67
code_of Not = 68
code_of Mod = 69
code_of True = 70
code_of False = 71
code_of NameIn = 72
code_of NameOn = 73
code_of NameSt = 74
code_of Name = 75
code_of Zero = 76
code_of One = 77
code_of Number = 78
code_of RealNumber = 79
code_of TypedTruth = 80
code_of TypedInteger = 81
code_of TypedBits = 82
code_of TypedFree = 83
code_of TypedOther = 84
code_of Text = 85
code_of Assign = 86
code_of LessEqual = 87
code_of GreaterEqual = 88
code_of NotEqual = 89
code_of Power = 90
code_of Arrow = 91
code_of Range = 92
code_of Semicolon = 93
code_of Colon = 94
code_of Comma = 95
code_of Point = 96
code_of OpenParenthesis = 97
code_of CloseParenthesis = 98
code_of OpenBracket = 99
code_of CloseBracket = 100
code_of Equal = 101
code_of Less = 102
code_of Greater = 103
code_of Plus = 104
code_of Minus = 105
code_of Times = 106
code_of Divide = 107
code_of Ampersand = 108
code_of Other = 109
code_of TypeWord = 110
code_of EndType = 111
code_of Struct = 112
code_of EndStruct = 113
code_of End = 114
code_of NeverClosed = 115

abbrev pub same_kind : Kind → Kind → Bool
same_kind a b = nat_eq (code_of a) (code_of b)

-- whether a kind is one of these
abbrev pub is_among : List Kind → Kind → Bool
is_among kinds kind = list_any (λ k. same_kind k kind) kinds

-- the kinds of names
abbrev pub name_kinds : List Kind
name_kinds = Name ∷ NameIn ∷ NameOn ∷ NameSt ∷ []
