-- What a function returned and the tokens that it left, compared with what reading gives.
use Rattle.std.specs.{Prelude.{◌≡◌, List, Vec, map, Result, Ok, Err}, declared.alloc.Global.{Global}}
use Rattle.fb_grammar.specs.{declared.lexeme.Lexeme.{Lexeme}, declared.stop.Stop.{Stop}, declared.stop.Stop.TheVariants.{Memory, Broken}, Reading.{Outcome}}

-- Reading fails at the tokens that are left, unless memory ran out.
abbrev pub Fails : {A : Type 0} → Stop → List Lexeme → Outcome A → Type 0
Fails Memory rest outcome = Unit {0}
Fails Broken rest outcome = outcome ≡ Err rest

-- What was returned, as view sees it, and the tokens that are left are what reading gives, unless memory ran out.
abbrev pub Gives : {X A : Type 0} → (X → A) → Result X Stop → List Lexeme → Outcome A → Type 0
Gives view (Ok x) rest outcome = outcome ≡ Ok (view x, rest)
Gives view (Err stop) rest outcome = Fails stop rest outcome

-- As `Gives`, for several values, each as view sees it.
abbrev pub GivesEach : {X A : Type 0} → (X → A) → Result (Vec X Global) Stop → List Lexeme → Outcome (List A) → Type 0
GivesEach view result rest outcome = Gives (λ values. map view values.items) result rest outcome

-- As `Gives`, if no value is kept.
abbrev pub Passes : Result (Unit {0}) Stop → List Lexeme → Outcome (Unit {0}) → Type 0
Passes result rest outcome = Gives (λ nothing. tt) result rest outcome
