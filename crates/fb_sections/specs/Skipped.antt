-- The forms of what is skipped token by token.
use Rattle.std.specs.Prelude.{List, [], ◌∷◌, not, filter}
use Rattle.fb_grammar.specs.{Kind.{same_kind}, declared.kind.Kind.{Kind}}
use Rattle.fb_grammar.specs.declared.kind.Kind.TheVariants.{FunctionBlock, EndFunctionBlock, Adapter, EndAdapter, Subapplication, EndSubapplication, System, EndSystem, Application, EndApplication, Device, EndDevice, Resource, EndResource, Mappings, EndMappings, EventInput, EventOutput, EndEvent, Var, VarInput, VarOutput, EndVar, Plugs, EndPlugs, Sockets, EndSockets, Fbs, EndFbs, Subapps, EndSubapps, EventConnections, DataConnections, AdapterConnections, EndConnections, EcStates, EndStates, EcTransitions, EndTransitions, Algorithm, EndAlgorithm, Service, EndService, With, To, Array, Of, If, Then, Elsif, Else, EndIf, Case, EndCase, For, By, Do, EndFor, While, EndWhile, Repeat, Until, EndRepeat, Exit, Return, And, Or, Xor, Not, Mod, True, False, NameIn, NameOn, NameSt, Name, Zero, One, Number, RealNumber, TypedTruth, TypedInteger, TypedBits, TypedFree, TypedOther, Text, Assign, LessEqual, GreaterEqual, NotEqual, Power, Arrow, Range, Semicolon, Colon, Comma, Point, OpenParenthesis, CloseParenthesis, OpenBracket, CloseBracket, Equal, Less, Greater, Plus, Minus, Times, Divide, Ampersand, Other, TypeWord, EndType, Struct, EndStruct}
use Rattle.fb_grammar.specs.{Form.{Form, one, many}, Words.{key, before, behind, passed}}

unfoldable pub all_kinds : List Kind
all_kinds =
    FunctionBlock ∷ EndFunctionBlock ∷ Adapter ∷ EndAdapter ∷ Subapplication ∷ EndSubapplication ∷ System ∷
    EndSystem ∷ Application ∷ EndApplication ∷ Device ∷ EndDevice ∷ Resource ∷ EndResource ∷ Mappings ∷ EndMappings ∷
    EventInput ∷ EventOutput ∷ EndEvent ∷ Var ∷ VarInput ∷ VarOutput ∷ EndVar ∷ Plugs ∷ EndPlugs ∷ Sockets ∷
    EndSockets ∷ Fbs ∷ EndFbs ∷ Subapps ∷ EndSubapps ∷ EventConnections ∷ DataConnections ∷ AdapterConnections ∷
    EndConnections ∷ EcStates ∷ EndStates ∷ EcTransitions ∷ EndTransitions ∷ Algorithm ∷ EndAlgorithm ∷ Service ∷
    EndService ∷ With ∷ To ∷ Array ∷ Of ∷ If ∷ Then ∷ Elsif ∷ Else ∷ EndIf ∷ Case ∷ EndCase ∷ For ∷ By ∷ Do ∷ EndFor ∷
    While ∷ EndWhile ∷ Repeat ∷ Until ∷ EndRepeat ∷ Exit ∷ Return ∷ And ∷ Or ∷ Xor ∷ Not ∷ Mod ∷ True ∷ False ∷
    NameIn ∷ NameOn ∷ NameSt ∷ Name ∷ Zero ∷ One ∷ Number ∷ RealNumber ∷ TypedTruth ∷ TypedInteger ∷ TypedBits ∷
    TypedFree ∷ TypedOther ∷ Text ∷ Assign ∷ LessEqual ∷ GreaterEqual ∷ NotEqual ∷ Power ∷ Arrow ∷ Range ∷ Semicolon ∷
    Colon ∷ Comma ∷ Point ∷ OpenParenthesis ∷ CloseParenthesis ∷ OpenBracket ∷ CloseBracket ∷ Equal ∷ Less ∷ Greater ∷
    Plus ∷ Minus ∷ Times ∷ Divide ∷ Ampersand ∷ Other ∷ TypeWord ∷ EndType ∷ Struct ∷ EndStruct ∷ []

-- all kinds but this one
unfoldable pub others : Kind → List Kind
others kind = filter (λ k. not (same_kind kind k)) all_kinds

-- any tokens but those of this kind
unfoldable pub skipped : Kind → Form (Unit {0})
skipped kind = passed (many (one (others kind)))

-- 'SERVICE' any tokens but 'END_SERVICE' 'END_SERVICE'
unfoldable pub service : Form (Unit {0})
service = behind (key Service) (before (skipped EndService) (key EndService))
