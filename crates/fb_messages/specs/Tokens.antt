-- For private clauses: values of JSON that say data, and data as the tokens that are written of it.
use Rattle.std.specs.Prelude.{◌≡◌, ◌∷◌, ◌++◌, ℕ, IfOk, List, OnOk, Result, false}
use Rattle.json.specs.{Token.{Token, key}, Tree.{json_tokens}, Written.{Written}}
use Rattle.serde_json.specs.{Data.{Data}, View.{view}, Written.{has_float, outline}, declared.value.Value.{Value}}

-- unless memory ran out, the value is these data, of which none is a float
abbrev pub Says : {E : Type 0} → Result Value E → Data → Type 0
Says made said = IfOk made (λ value. (view value ≡ said) × (has_float said ≡ false))

abbrev pub tokens_of : Data → List Token
tokens_of d = json_tokens (outline d)

-- after what was there the writer has these tokens, unless memory ran out
abbrev pub Adds : {E : Type 0} → Result (Unit {0}) E → Written → Written → List Token → Type 0
Adds result old new tokens = OnOk result ((new.before ≡ old.before) × (new.tokens ≡ old.tokens ++ tokens))

abbrev pub IsSaid : {E : Type 0} → Result (Unit {0}) E → Written → Written → Data → Type 0
IsSaid result old new d = Adds result old new (tokens_of d)

-- a member of an object
abbrev pub IsMember : {E : Type 0} → Result (Unit {0}) E → Written → Written → List ℕ → Data → Type 0
IsMember result old new name d = Adds result old new (key name ∷ tokens_of d)
