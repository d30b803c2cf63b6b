-- Skipping tokens up to one of a kind.
use Rattle.std.proofs.Common.{◌≡◌, Bool, true, false, not, ◌&&◌, ◌||◌, nat_eq, cond, List, [], ◌∷◌, length, drop, Ok, Err, refl, sym, ap, ap₂, ◌∙◌}
use Rattle.std.proofs.lemmas.Bool.{eqb-true}
use Rattle.std.specs.Prelude.{filter}
use Rattle.fb_tree.proofs.Text.Tests.{and_false, or_false}
use Rattle.fb_grammar.specs.{Kind.{is_among, same_kind, code_of}, declared.kind.Kind.{Kind}}
use Rattle.fb_grammar.specs.declared.kind.Kind.TheVariants.{FunctionBlock, EndFunctionBlock, Adapter, EndAdapter, Subapplication, EndSubapplication, System, EndSystem, Application, EndApplication, Device, EndDevice, Resource, EndResource, Mappings, EndMappings, EventInput, EventOutput, EndEvent, Var, VarInput, VarOutput, EndVar, Plugs, EndPlugs, Sockets, EndSockets, Fbs, EndFbs, Subapps, EndSubapps, EventConnections, DataConnections, AdapterConnections, EndConnections, EcStates, EndStates, EcTransitions, EndTransitions, Algorithm, EndAlgorithm, Service, EndService, With, To, Array, Of, If, Then, Elsif, Else, EndIf, Case, EndCase, For, By, Do, EndFor, While, EndWhile, Repeat, Until, EndRepeat, Exit, Return, And, Or, Xor, Not, Mod, True, False, NameIn, NameOn, NameSt, Name, Zero, One, Number, RealNumber, TypedTruth, TypedInteger, TypedBits, TypedFree, TypedOther, Text, Assign, LessEqual, GreaterEqual, NotEqual, Power, Arrow, Range, Semicolon, Colon, Comma, Point, OpenParenthesis, CloseParenthesis, OpenBracket, CloseBracket, Equal, Less, Greater, Plus, Minus, Times, Divide, Ampersand, Other, TypeWord, EndType, Struct, EndStruct, End, NeverClosed}
use Rattle.fb_grammar.specs.{declared.lexeme.Lexeme.{Lexeme}, Reading.{Outcome, ◌>>=◌, read_one, read_each, read}, Upcoming.{are_over, front}}
use Rattle.fb_sections.specs.Skipped.{all_kinds, others, skipped}

-- what stands behind all tokens
abbrev pub behind_all : List Kind
behind_all = End ∷ NeverClosed ∷ []

is_a_kind : (kind : Kind) → is_among all_kinds kind ≡ not (is_among behind_all kind)
unfolding all_kinds
is_a_kind FunctionBlock = refl
is_a_kind EndFunctionBlock = refl
is_a_kind Adapter = refl
is_a_kind EndAdapter = refl
is_a_kind Subapplication = refl
is_a_kind EndSubapplication = refl
is_a_kind System = refl
is_a_kind EndSystem = refl
is_a_kind Application = refl
is_a_kind EndApplication = refl
is_a_kind Device = refl
is_a_kind EndDevice = refl
is_a_kind Resource = refl
is_a_kind EndResource = refl
is_a_kind Mappings = refl
is_a_kind EndMappings = refl
is_a_kind EventInput = refl
is_a_kind EventOutput = refl
is_a_kind EndEvent = refl
is_a_kind Var = refl
is_a_kind VarInput = refl
is_a_kind VarOutput = refl
is_a_kind EndVar = refl
is_a_kind Plugs = refl
is_a_kind EndPlugs = refl
is_a_kind Sockets = refl
is_a_kind EndSockets = refl
is_a_kind Fbs = refl
is_a_kind EndFbs = refl
is_a_kind Subapps = refl
is_a_kind EndSubapps = refl
is_a_kind EventConnections = refl
is_a_kind DataConnections = refl
is_a_kind AdapterConnections = refl
is_a_kind EndConnections = refl
is_a_kind EcStates = refl
is_a_kind EndStates = refl
is_a_kind EcTransitions = refl
is_a_kind EndTransitions = refl
is_a_kind Algorithm = refl
is_a_kind EndAlgorithm = refl
is_a_kind Service = refl
is_a_kind EndService = refl
is_a_kind With = refl
is_a_kind To = refl
is_a_kind Array = refl
is_a_kind Of = refl
is_a_kind If = refl
is_a_kind Then = refl
is_a_kind Elsif = refl
is_a_kind Else = refl
is_a_kind EndIf = refl
is_a_kind Case = refl
is_a_kind EndCase = refl
is_a_kind For = refl
is_a_kind By = refl
is_a_kind Do = refl
is_a_kind EndFor = refl
is_a_kind While = refl
is_a_kind EndWhile = refl
is_a_kind Repeat = refl
is_a_kind Until = refl
is_a_kind EndRepeat = refl
is_a_kind Exit = refl
is_a_kind Return = refl
is_a_kind And = refl
is_a_kind Or = refl
is_a_kind Xor = refl
is_a_kind Not = refl
is_a_kind Mod = refl
is_a_kind True = refl
is_a_kind False = refl
is_a_kind NameIn = refl
is_a_kind NameOn = refl
is_a_kind NameSt = refl
is_a_kind Name = refl
is_a_kind Zero = refl
is_a_kind One = refl
is_a_kind Number = refl
is_a_kind RealNumber = refl
is_a_kind TypedTruth = refl
is_a_kind TypedInteger = refl
is_a_kind TypedBits = refl
is_a_kind TypedFree = refl
is_a_kind TypedOther = refl
is_a_kind Text = refl
is_a_kind Assign = refl
is_a_kind LessEqual = refl
is_a_kind GreaterEqual = refl
is_a_kind NotEqual = refl
is_a_kind Power = refl
is_a_kind Arrow = refl
is_a_kind Range = refl
is_a_kind Semicolon = refl
is_a_kind Colon = refl
is_a_kind Comma = refl
is_a_kind Point = refl
is_a_kind OpenParenthesis = refl
is_a_kind CloseParenthesis = refl
is_a_kind OpenBracket = refl
is_a_kind CloseBracket = refl
is_a_kind Equal = refl
is_a_kind Less = refl
is_a_kind Greater = refl
is_a_kind Plus = refl
is_a_kind Minus = refl
is_a_kind Times = refl
is_a_kind Divide = refl
is_a_kind Ampersand = refl
is_a_kind Other = refl
is_a_kind TypeWord = refl
is_a_kind EndType = refl
is_a_kind Struct = refl
is_a_kind EndStruct = refl
is_a_kind End = refl
is_a_kind NeverClosed = refl

step : (t u s r : Bool) → (s ≡ true → t ≡ u) → cond (not t) (s || (not u && r)) (not u && r) ≡ (not u && (s || r))
step true true s r h = refl
step true false true r h = cc (h refl)
step true false false r h = refl
step false true true r h = cc (h refl)
step false true false r h = refl
step false false s r h = refl

among_cond : (t : Bool) (x : Kind) (kinds : List Kind) (kind : Kind) → is_among (cond t (x ∷ kinds) kinds) kind ≡ cond t (same_kind x kind || is_among kinds kind) (is_among kinds kind)
among_cond true x kinds kind = refl
among_cond false x kinds kind = refl

same_as : (end x kind : Kind) → same_kind x kind ≡ true → same_kind end x ≡ same_kind end kind
same_as end x kind h = ap (λ n. nat_eq (code_of end) n) (eqb-true (code_of x) (code_of kind) h)

among_filtered : (end : Kind) (kinds : List Kind) (kind : Kind) → is_among (filter (λ k. not (same_kind end k)) kinds) kind ≡ (not (same_kind end kind) && is_among kinds kind)
among_filtered end [] kind = sym (and_false (not (same_kind end kind)))
among_filtered end (x ∷ kinds) kind =
    among_cond (not (same_kind end x)) x (filter (λ k. not (same_kind end k)) kinds) kind
    ∙ ap (λ b. cond (not (same_kind end x)) (same_kind x kind || b) b) (among_filtered end kinds kind)
    ∙ step (same_kind end x) (same_kind end kind) (same_kind x kind) (is_among kinds kind) (same_as end x kind)

among_others : (end kind : Kind) → is_among (others end) kind ≡ (not (same_kind end kind) && not (is_among behind_all kind))
unfolding others
among_others end kind = among_filtered end all_kinds kind ∙ ap (λ b. not (same_kind end kind) && b) (is_a_kind kind)

abbrev passing : Outcome (List Lexeme) → Outcome (Unit {0})
passing outcome = outcome >>= λ v. Ok (tt, v.1)

passing_more : (t : Lexeme) (r : Outcome (List Lexeme)) → passing (r >>= λ vs. Ok (t ∷ vs.0, vs.1)) ≡ passing r
passing_more t (Ok vs) = refl
passing_more t (Err rest) = refl

single : (end kind : Kind) → is_among (end ∷ []) kind ≡ same_kind end kind
single end kind = or_false (same_kind end kind)

others_but : (end kind : Kind) → is_among (others end) kind ≡ (not (is_among (end ∷ []) kind) && not (is_among behind_all kind))
others_but end kind = among_others end kind ∙ ap (λ b. not b && not (is_among behind_all kind)) (sym (single end kind))

pub skip_more : (end : Kind) (ts : List Lexeme) → are_over ts ≡ false → is_among (end ∷ []) (front ts).kind ≡ false → read (skipped end) ts ≡ read (skipped end) (drop 1 ts)
unfolding skipped
skip_more end [] more other = cc
skip_more end (t ∷ ts) more other =
    let goes_on : is_among (others end) t.kind ≡ true = others_but end t.kind ∙ ap₂ (λ a b. not a && not b) other more in
    rw goes_on (passing_more t (read_each (read_one (others end)) (others end) (length ts) ts))

pub skip_done : (end : Kind) (ts : List Lexeme) → is_among (end ∷ []) (front ts).kind ≡ true → read (skipped end) ts ≡ Ok (tt, ts)
unfolding skipped
skip_done end [] same = refl
skip_done end (t ∷ ts) same =
    let stops : is_among (others end) t.kind ≡ false = others_but end t.kind ∙ ap (λ a. not a && not (is_among behind_all t.kind)) same in
    rw stops refl

pub skip_over : (end : Kind) (ts : List Lexeme) → are_over ts ≡ true → read (skipped end) ts ≡ Ok (tt, ts)
unfolding skipped
skip_over end [] over = refl
skip_over end (t ∷ ts) over =
    let stops : is_among (others end) t.kind ≡ false = others_but end t.kind ∙ ap (λ a. not (is_among (end ∷ []) t.kind) && not a) over ∙ and_false (not (is_among (end ∷ []) t.kind)) in
    rw stops refl
