-- The entries of a list that are written one by one.
use Rattle.std.proofs.{Common.{ℕ, ◌≡◌, ◌+◌, [], ◌∷◌, ◌++◌, ◌∙◌, Err, List, None, Ok, Option, Result, Some, ap, append_assoc, arith, drop, inl, inr, map, refl}}
use Rattle.std.proofs.lemmas.{List.{drop_all, drop_more}, Option.{slice_get_cases}}
use Rattle.std.specs.Prelude.{slice_get}
use Rattle.json.specs.{Token.{Token, key}, Tree.{items_tokens}, Written.{Written}}
use Rattle.serde_json.specs.{Data.{Data, array}, View.{items_of}, Written.{items_outline}}
use Rattle.fb_messages.specs.Tokens.{IsMember, IsSaid, tokens_of}

-- the tokens of the entries that are left, with the bracket
abbrev pub tokens_left : {X : Type 0} → (X → Data) → List X → ℕ → List Token
tokens_left said xs k = items_tokens (items_outline (items_of (map said (drop k xs))))

-- the tokens of an entry, if there is one, before others
abbrev pub entry_before : {X : Type 0} → (X → Data) → Option X → List Token → List Token
entry_before said None ts = ts
entry_before said (Some x) ts = tokens_of (said x) ++ ts

pub first_left : {X : Type 0} (said : X → Data) (xs : List X) (k : ℕ) → tokens_left said xs k ≡ entry_before said (slice_get xs k) (tokens_left said xs (k + 1))
first_left {X = X} said xs k =
    elim (slice_get_cases xs k).1 [
      | inl w ↦ rw (w.2, drop_more xs k w.0 w.1, w.3) refl
      | inr w ↦ rw (w.1, drop_all k xs w.0, drop_all (k + 1) xs (omega (arith, w.0))) refl
    ]

pub ruleset entries = (first_left, append_assoc)

-- with the entries that are left, and the bracket, it will be the list
abbrev pub WillBeList : {X : Type 0} → (X → Data) → List X → ℕ → Written → Written → Type 0
WillBeList said xs k start out = (out.before ≡ start.before) × (out.tokens ++ tokens_left said xs k ≡ start.tokens ++ tokens_of (array (items_of (map said xs))))

-- a key, and what is written behind it
pub keyed : {E : Type 0} (r : Result (Unit {0}) E) (old mid new : Written) (name : List ℕ) (d : Data) → mid.before ≡ old.before → mid.tokens ≡ old.tokens ++ key name ∷ [] → IsSaid r mid new d → IsMember r old new name d
keyed (Ok done) old mid new name d before tokens said = (said.0 ∙ before, said.1 ∙ ap (λ ts. ts ++ tokens_of d) tokens ∙ append_assoc old.tokens (key name ∷ []) (tokens_of d))
keyed (Err e) old mid new name d before tokens said = tt
