-- Reading values one after the other, as a loop does.
use Rattle.std.proofs.Common.{◌≡◌, ℕ, zero, suc, ◌≤◌, ◌<◌, true, false, List, [], ◌∷◌, ◌++◌, length, map, Result, Ok, Err, IfOk, refl, sym, ap, ◌∙◌, append_assoc, arith}
use Rattle.std.proofs.lemmas.List.{append-nil, map_push, map-id}
use Rattle.fb_grammar.specs.{declared.kind.Kind.{Kind}, declared.lexeme.Lexeme.{Lexeme}, Reading.{Outcome, ◌>>=◌, is_next, read_each}, Repetition.{with_prefix}}

-- values that are seen as they are
pub as_they_are : {A : Type 0} (xs : List A) → map (λ x. x) xs ≡ xs
as_they_are xs = map-id xs

-- What was read and the tokens that are left give the whole, in any number of turns that is enough for these.
pub record IsSoFar {A : Type 0} (reads : List Lexeme → Outcome A) (kinds : List Kind) (prefix : List A) (ts : List Lexeme) (whole : Outcome (List A)) : Type 0 where
  pub turns : ℕ
  pub enough : length ts ≤ turns
  pub gives : with_prefix prefix (read_each reads kinds turns ts) ≡ whole

pub regroup : {A : Type 0} (prefix : List A) (v : A) (r : Outcome (List A)) → with_prefix prefix (r >>= λ b. Ok (v ∷ b.0, b.1)) ≡ with_prefix (prefix ++ v ∷ []) r
regroup prefix v (Ok b) = ap (λ z. Ok (z, b.1)) (sym (append_assoc prefix (v ∷ []) b.0))
regroup prefix v (Err rest) = refl

each_step : {A : Type 0} (reads : List Lexeme → Outcome A) (kinds : List Kind) (n : ℕ) (ts : List Lexeme) (v : A) (mid : List Lexeme) → is_next kinds ts ≡ true → reads ts ≡ Ok (v, mid)
    → read_each reads kinds (suc n) ts ≡ (read_each reads kinds n mid >>= λ b. Ok (v ∷ b.0, b.1))
each_step reads kinds n ts v mid next e = rw (next, e) refl

one_more : {A : Type 0} (reads : List Lexeme → Outcome A) (kinds : List Kind) (prefix : List A) (v : A) (n : ℕ) (ts mid : List Lexeme) (whole : Outcome (List A))
    → is_next kinds ts ≡ true → reads ts ≡ Ok (v, mid) → length mid < length ts → length ts ≤ n → with_prefix prefix (read_each reads kinds n ts) ≡ whole → IsSoFar reads kinds (prefix ++ v ∷ []) mid whole
one_more reads kinds prefix v zero ts mid whole next e shorter enough so_far = absurd (omega arith)
one_more reads kinds prefix v (suc n) ts mid whole next e shorter enough so_far = record {
  turns = n;
  enough = omega arith;
  gives = sym (regroup prefix v (read_each reads kinds n mid)) ∙ ap (with_prefix prefix) (sym (each_step reads kinds n ts v mid next e)) ∙ so_far;
}

-- a value is read
pub each_more : {X A : Type 0} (view : X → A) (reads : List Lexeme → Outcome A) (kinds : List Kind) (items new : List X) (v : X) (ts mid : List Lexeme) (whole : Outcome (List A))
    → is_next kinds ts ≡ true → reads ts ≡ Ok (view v, mid) → length mid < length ts → new ≡ items ++ v ∷ []
    → IsSoFar reads kinds (map view items) ts whole → IsSoFar reads kinds (map view new) mid whole
each_more view reads kinds items new v ts mid whole next e shorter pushed so_far =
    let viewed : map view new ≡ map view items ++ view v ∷ [] = ap (map view) pushed ∙ map_push view items v in
    rw viewed (one_more reads kinds (map view items) (view v) so_far.turns ts mid whole next e shorter so_far.enough so_far.gives)

none_step : {A : Type 0} (reads : List Lexeme → Outcome A) (kinds : List Kind) (n : ℕ) (ts : List Lexeme) → is_next kinds ts ≡ false → read_each reads kinds n ts ≡ Ok ([], ts)
none_step reads kinds zero ts next = refl
none_step reads kinds (suc n) ts next = rw next refl

-- no value comes
pub each_done : {A : Type 0} (reads : List Lexeme → Outcome A) (kinds : List Kind) (prefix : List A) (ts : List Lexeme) (whole : Outcome (List A))
    → is_next kinds ts ≡ false → IsSoFar reads kinds prefix ts whole → whole ≡ Ok (prefix, ts)
each_done reads kinds prefix ts whole next so_far = sym so_far.gives ∙ ap (with_prefix prefix) (none_step reads kinds so_far.turns ts next) ∙ ap (λ z. Ok (z, ts)) (append-nil prefix)

pub none_in_prefix : {A : Type 0} (r : Outcome (List A)) → with_prefix [] r ≡ r
none_in_prefix (Ok b) = refl
none_in_prefix (Err rest) = refl

-- what takes a token more than what takes one takes one
pub takes_more : {X E : Type 0} (result : Result X E) (a b c : ℕ) → b < c → IfOk result (λ _. a < b) → IfOk result (λ _. a < c)
takes_more (Ok x) a b c h s = omega arith
takes_more (Err e) a b c h s = tt
