-- Each kind has a number of its own.
use Rattle.std.proofs.Common.{◌≡◌, ◌↔◌, ◌<◌, ℕ, zero, suc, true, ◌||◌, nat_eq, List, [], ◌∷◌, length, slice_index_or, refl, sym, ap, ◌∙◌, get_or, arith, true≢false}
use Rattle.std.proofs.{Math.Bool.{or-true}, lemmas.Bool.{eqb-true}, lemmas.Bool.Decides.{nat_tests}}
use Rattle.std.specs.List.{Contains}
use Rattle.fb_tree.proofs.Text.Longest.{by_test}
use Rattle.fb_grammar.specs.declared.kind.Kind.{Kind}
use Rattle.fb_grammar.specs.declared.kind.Kind.TheVariants.{FunctionBlock, EndFunctionBlock, Adapter, EndAdapter, Subapplication, EndSubapplication, System, EndSystem, Application, EndApplication, Device, EndDevice, Resource, EndResource, Mappings, EndMappings, EventInput, EventOutput, EndEvent, Var, VarInput, VarOutput, EndVar, Plugs, EndPlugs, Sockets, EndSockets, Fbs, EndFbs, Subapps, EndSubapps, EventConnections, DataConnections, AdapterConnections, EndConnections, EcStates, EndStates, EcTransitions, EndTransitions, Algorithm, EndAlgorithm, Service, EndService, With, To, Array, Of, If, Then, Elsif, Else, EndIf, Case, EndCase, For, By, Do, EndFor, While, EndWhile, Repeat, Until, EndRepeat, Exit, Return, And, Or, Xor, Not, Mod, True, False, NameIn, NameOn, NameSt, Name, Zero, One, Number, RealNumber, TypedTruth, TypedInteger, TypedBits, TypedFree, TypedOther, Text, Assign, LessEqual, GreaterEqual, NotEqual, Power, Arrow, Range, Semicolon, Colon, Comma, Point, OpenParenthesis, CloseParenthesis, OpenBracket, CloseBracket, Equal, Less, Greater, Plus, Minus, Times, Divide, Ampersand, Other, TypeWord, EndType, Struct, EndStruct, End, NeverClosed}
use Rattle.fb_grammar.specs.Kind.{code_of, same_kind, is_among}

-- all kinds, by their numbers
abbrev all_kinds : List Kind
all_kinds =
    FunctionBlock ∷ EndFunctionBlock ∷ Adapter ∷ EndAdapter ∷ Subapplication ∷ EndSubapplication ∷ System ∷
    EndSystem ∷ Application ∷ EndApplication ∷ Device ∷ EndDevice ∷ Resource ∷ EndResource ∷ Mappings ∷
    EndMappings ∷ EventInput ∷ EventOutput ∷ EndEvent ∷ Var ∷ VarInput ∷ VarOutput ∷ EndVar ∷ Plugs ∷ EndPlugs ∷
    Sockets ∷ EndSockets ∷ Fbs ∷ EndFbs ∷ Subapps ∷ EndSubapps ∷ EventConnections ∷ DataConnections ∷
    AdapterConnections ∷ EndConnections ∷ EcStates ∷ EndStates ∷ EcTransitions ∷ EndTransitions ∷ Algorithm ∷
    EndAlgorithm ∷ Service ∷ EndService ∷ With ∷ To ∷ Array ∷ Of ∷ If ∷ Then ∷ Elsif ∷ Else ∷ EndIf ∷ Case ∷
    EndCase ∷ For ∷ By ∷ Do ∷ EndFor ∷ While ∷ EndWhile ∷ Repeat ∷ Until ∷ EndRepeat ∷ Exit ∷ Return ∷ And ∷ Or ∷
    Xor ∷ Not ∷ Mod ∷ True ∷ False ∷ NameIn ∷ NameOn ∷ NameSt ∷ Name ∷ Zero ∷ One ∷ Number ∷ RealNumber ∷
    TypedTruth ∷ TypedInteger ∷ TypedBits ∷ TypedFree ∷ TypedOther ∷ Text ∷ Assign ∷ LessEqual ∷ GreaterEqual ∷
    NotEqual ∷ Power ∷ Arrow ∷ Range ∷ Semicolon ∷ Colon ∷ Comma ∷ Point ∷ OpenParenthesis ∷ CloseParenthesis ∷
    OpenBracket ∷ CloseBracket ∷ Equal ∷ Less ∷ Greater ∷ Plus ∷ Minus ∷ Times ∷ Divide ∷ Ampersand ∷ Other ∷
    TypeWord ∷ EndType ∷ Struct ∷ EndStruct ∷ End ∷ NeverClosed ∷ []

kind_at : (kind : Kind) → get_or all_kinds (code_of kind) Other ≡ kind
kind_at FunctionBlock = refl
kind_at EndFunctionBlock = refl
kind_at Adapter = refl
kind_at EndAdapter = refl
kind_at Subapplication = refl
kind_at EndSubapplication = refl
kind_at System = refl
kind_at EndSystem = refl
kind_at Application = refl
kind_at EndApplication = refl
kind_at Device = refl
kind_at EndDevice = refl
kind_at Resource = refl
kind_at EndResource = refl
kind_at Mappings = refl
kind_at EndMappings = refl
kind_at EventInput = refl
kind_at EventOutput = refl
kind_at EndEvent = refl
kind_at Var = refl
kind_at VarInput = refl
kind_at VarOutput = refl
kind_at EndVar = refl
kind_at Plugs = refl
kind_at EndPlugs = refl
kind_at Sockets = refl
kind_at EndSockets = refl
kind_at Fbs = refl
kind_at EndFbs = refl
kind_at Subapps = refl
kind_at EndSubapps = refl
kind_at EventConnections = refl
kind_at DataConnections = refl
kind_at AdapterConnections = refl
kind_at EndConnections = refl
kind_at EcStates = refl
kind_at EndStates = refl
kind_at EcTransitions = refl
kind_at EndTransitions = refl
kind_at Algorithm = refl
kind_at EndAlgorithm = refl
kind_at Service = refl
kind_at EndService = refl
kind_at With = refl
kind_at To = refl
kind_at Array = refl
kind_at Of = refl
kind_at If = refl
kind_at Then = refl
kind_at Elsif = refl
kind_at Else = refl
kind_at EndIf = refl
kind_at Case = refl
kind_at EndCase = refl
kind_at For = refl
kind_at By = refl
kind_at Do = refl
kind_at EndFor = refl
kind_at While = refl
kind_at EndWhile = refl
kind_at Repeat = refl
kind_at Until = refl
kind_at EndRepeat = refl
kind_at Exit = refl
kind_at Return = refl
kind_at And = refl
kind_at Or = refl
kind_at Xor = refl
kind_at Not = refl
kind_at Mod = refl
kind_at True = refl
kind_at False = refl
kind_at NameIn = refl
kind_at NameOn = refl
kind_at NameSt = refl
kind_at Name = refl
kind_at Zero = refl
kind_at One = refl
kind_at Number = refl
kind_at RealNumber = refl
kind_at TypedTruth = refl
kind_at TypedInteger = refl
kind_at TypedBits = refl
kind_at TypedFree = refl
kind_at TypedOther = refl
kind_at Text = refl
kind_at Assign = refl
kind_at LessEqual = refl
kind_at GreaterEqual = refl
kind_at NotEqual = refl
kind_at Power = refl
kind_at Arrow = refl
kind_at Range = refl
kind_at Semicolon = refl
kind_at Colon = refl
kind_at Comma = refl
kind_at Point = refl
kind_at OpenParenthesis = refl
kind_at CloseParenthesis = refl
kind_at OpenBracket = refl
kind_at CloseBracket = refl
kind_at Equal = refl
kind_at Less = refl
kind_at Greater = refl
kind_at Plus = refl
kind_at Minus = refl
kind_at Times = refl
kind_at Divide = refl
kind_at Ampersand = refl
kind_at Other = refl
kind_at TypeWord = refl
kind_at EndType = refl
kind_at Struct = refl
kind_at EndStruct = refl
kind_at End = refl
kind_at NeverClosed = refl

pub same_code : (a b : Kind) → code_of a ≡ code_of b → a ≡ b
same_code a b e = sym (kind_at a) ∙ ap (λ n. get_or all_kinds n Other) e ∙ kind_at b

pub among-members : (kinds : List Kind) (kind : Kind) → (is_among kinds kind ≡ true) ↔ Contains kinds kind
among-members kinds kind = (member kinds kind, among kinds kind)
  where
    member : (kinds : List Kind) (kind : Kind) → is_among kinds kind ≡ true → Contains kinds kind
    member [] kind h = absurd (true≢false (sym h))
    member (k ∷ ks) kind h = by_test (same_kind k kind)
        (λ e. (0, omega arith, same_code k kind (eqb-true (code_of k) (code_of kind) e)))
        (λ e. let r = member ks kind (sym (ap (λ b. b || is_among ks kind) e) ∙ h) in (suc r.0, omega (arith, r.1), r.2))

    among_at : (kinds : List Kind) (kind : Kind) (n : ℕ) → n < length kinds → slice_index_or kinds n kind ≡ kind → is_among kinds kind ≡ true
    among_at [] kind n a e = absurd (omega arith)
    among_at (k ∷ ks) kind zero a e = ap (λ c. nat_eq (code_of c) (code_of kind) || is_among ks kind) e ∙ (let r : nat_eq (code_of kind) (code_of kind) ≡ true = grind (arith, nat_tests) in ap (λ b. b || is_among ks kind) r)
    among_at (k ∷ ks) kind (suc n) a e = ap (λ b. same_kind k kind || b) (among_at ks kind n (omega arith) e) ∙ or-true (same_kind k kind)

    among : (kinds : List Kind) (kind : Kind) → Contains kinds kind → is_among kinds kind ≡ true
    among kinds kind h = among_at kinds kind h.0 h.1 h.2
