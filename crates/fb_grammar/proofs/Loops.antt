-- Reading several values one after the other, as a loop does.
use Rattle.std.proofs.Common.{◌≡◌, ℕ, zero, suc, ◌≤◌, ◌<◌, Bool, true, false, cond, List, [], ◌∷◌, ◌++◌, length, map, Result, Ok, Err, IfOk, refl, sym, ap, ◌∙◌, subst, length-append, arith}
use Rattle.std.proofs.lemmas.List.{append-nil, map_push}
use Rattle.fb_grammar.specs.{declared.kind.Kind.{Kind}, declared.lexeme.Lexeme.{Lexeme}, declared.stop.Stop.{Stop}}
use Rattle.fb_grammar.specs.{declared.stop.Stop.TheVariants.{Memory, Broken}, Form.{Form, many, Spells, Prefix}}
use Rattle.fb_grammar.specs.{Reading.{Outcome, ◌>>=◌, is_nullable, first, is_next, read_each, read}, Repetition.{with_prefix}, Gives.{Fails, Gives}}
use Rattle.fb_grammar.proofs.{Forms.{Right, right_read, length_of_spelling}, Repeating.{regroup}}

-- reading takes a token at least
pub shorter : {A : Type 0} (x : Form A) (ts : List Lexeme) (v : A) (mid : List Lexeme) → is_nullable x ≡ false → read x ts ≡ Ok (v, mid) → length mid < length ts
shorter x ts v mid filled e =
    let right : Right (Spells x) (Prefix x) ts (Ok (v, mid)) = subst (Right (Spells x) (Prefix x) ts) e (right_read x ts) in
    let more = length_of_spelling x right.0 v filled right.2 in
    omega (arith, ap length right.1, length-append right.0 mid)

-- what a reader returned takes a token at least
pub gives_shorter : {X A : Type 0} (view : X → A) (x : Form A) (result : Result X Stop) (ts rest : List Lexeme) → is_nullable x ≡ false → Gives view result rest (read x ts) → IfOk result (λ _. length rest < length ts)
gives_shorter view x (Ok value) ts rest filled e = shorter x ts (view value) rest filled e
gives_shorter view x (Err stop) ts rest filled e = tt

bind_same : {A B : Type 0} (r : Outcome A) (f g : A × List Lexeme → Outcome B) → ((v : A) (mid : List Lexeme) → r ≡ Ok (v, mid) → f (v, mid) ≡ g (v, mid)) → (r >>= f) ≡ (r >>= g)
bind_same (Ok a) f g h = h a.0 a.1 refl
bind_same (Err rest) f g h = refl

same_if : {X : Type 0} (t : Bool) (a b c : X) → a ≡ b → cond t a c ≡ cond t b c
same_if t a b c e = ap (λ z. cond t z c) e

-- as many turns as there are tokens are enough
pub enough : {A : Type 0} (x : Form A) → is_nullable x ≡ false → (m n : ℕ) (ts : List Lexeme) → length ts ≤ m → length ts ≤ n → read_each (read x) (first x) m ts ≡ read_each (read x) (first x) n ts
enough x filled zero zero ts h k = refl
enough x filled zero (suc n) [] h k = refl
enough x filled zero (suc n) (t ∷ ts) h k = absurd (omega arith)
enough x filled (suc m) zero [] h k = refl
enough x filled (suc m) zero (t ∷ ts) h k = absurd (omega arith)
enough {A} x filled (suc m) (suc n) ts h k =
    same_if (is_next (first x) ts) _ _ _ (bind_same (read x ts) _ _ (λ v mid e.
    let less = shorter x ts v mid filled e in
    ap (λ (r : Outcome (List A)). r >>= λ b. Ok (v ∷ b.0, b.1)) (enough x filled m n mid (omega arith) (omega arith))))

pub many_more : {A : Type 0} (x : Form A) (ts : List Lexeme) (v : A) (mid : List Lexeme) → is_nullable x ≡ false → is_next (first x) ts ≡ true → read x ts ≡ Ok (v, mid) → read (many x) ts ≡ (read (many x) mid >>= λ b. Ok (v ∷ b.0, b.1))
many_more x [] v mid filled next e = absurd (omega (arith, shorter x [] v mid filled e))
many_more x (t ∷ ts) v mid filled next e =
    let less : length mid ≤ length ts = omega (arith, shorter x (t ∷ ts) v mid filled e) in
    rw (next, e) (ap (λ r. r >>= λ b. Ok (v ∷ b.0, b.1)) (enough x filled (length ts) (length mid) mid less (omega arith)))

pub loop_more : {A : Type 0} (x : Form A) (prefix : List A) (ts : List Lexeme) (v : A) (mid : List Lexeme) (total : Outcome (List A)) → is_nullable x ≡ false → is_next (first x) ts ≡ true → read x ts ≡ Ok (v, mid)
    → with_prefix prefix (read (many x) ts) ≡ total → with_prefix (prefix ++ v ∷ []) (read (many x) mid) ≡ total
loop_more x prefix ts v mid total filled next e so_far = sym (regroup prefix v (read (many x) mid)) ∙ ap (with_prefix prefix) (sym (many_more x ts v mid filled next e)) ∙ so_far

pub many_fails : {A : Type 0} (x : Form A) (ts rest : List Lexeme) → is_next (first x) ts ≡ true → read x ts ≡ Err rest → read (many x) ts ≡ Err rest
many_fails x [] rest next e = cc next
many_fails x (t ∷ ts) rest next e = rw (next, e) refl

pub loop_fails : {A : Type 0} (x : Form A) (prefix : List A) (ts rest : List Lexeme) (stop : Stop) (total : Outcome (List A)) → is_next (first x) ts ≡ true → Fails stop rest (read x ts)
    → with_prefix prefix (read (many x) ts) ≡ total → Fails stop rest total
loop_fails x prefix ts rest Memory total next e so_far = tt
loop_fails x prefix ts rest Broken total next e so_far = sym so_far ∙ ap (with_prefix prefix) (many_fails x ts rest next e)

pub many_none : {A : Type 0} (x : Form A) (ts : List Lexeme) → is_next (first x) ts ≡ false → read (many x) ts ≡ Ok ([], ts)
many_none x [] next = refl
many_none x (t ∷ ts) next = rw next refl

pub loop_done : {A : Type 0} (x : Form A) (prefix : List A) (ts : List Lexeme) (total : Outcome (List A)) → is_next (first x) ts ≡ false → with_prefix prefix (read (many x) ts) ≡ total → total ≡ Ok (prefix, ts)
loop_done x prefix ts total next so_far = sym so_far ∙ ap (with_prefix prefix) (many_none x ts next) ∙ ap (λ z. Ok (z, ts)) (append-nil prefix)

-- what a loop over a form needs to know of it
pub record Begins {A : Type 0} (x : Form A) (kinds : List Kind) : Type 0 where
  pub filled : is_nullable x ≡ false
  pub first : first x ≡ kinds

pub begins_next : {A : Type 0} (x : Form A) (kinds : List Kind) (ts : List Lexeme) (t : Bool) → Begins x kinds → is_next kinds ts ≡ t → is_next (first x) ts ≡ t
begins_next x kinds ts t b h = ap (λ (k : List Kind). is_next k ts) b.first ∙ h

pub push_more : {X A : Type 0} (view : X → A) (x : Form A) (kinds : List Kind) (items : List X) (new : List X) (v : X) (ts mid : List Lexeme) (total : Outcome (List A)) → Begins x kinds → is_next kinds ts ≡ true → read x ts ≡ Ok (view v, mid)
    → new ≡ items ++ v ∷ [] → with_prefix (map view items) (read (many x) ts) ≡ total → with_prefix (map view new) (read (many x) mid) ≡ total
push_more view x kinds items new v ts mid total b next e pushed so_far =
    let viewed : map view new ≡ map view items ++ view v ∷ [] = ap (map view) pushed ∙ map_push view items v in
    ap (λ prefix. with_prefix prefix (read (many x) mid)) viewed ∙ loop_more x (map view items) ts (view v) mid total b.filled (begins_next x kinds ts true b next) e so_far

pub push_fails : {A : Type 0} (x : Form A) (kinds : List Kind) (prefix : List A) (ts rest : List Lexeme) (stop : Stop) (total : Outcome (List A)) → Begins x kinds → is_next kinds ts ≡ true → Fails stop rest (read x ts)
    → with_prefix prefix (read (many x) ts) ≡ total → Fails stop rest total
push_fails x kinds prefix ts rest stop total b next e so_far = loop_fails x prefix ts rest stop total (begins_next x kinds ts true b next) e so_far

pub push_done : {A : Type 0} (x : Form A) (kinds : List Kind) (prefix : List A) (ts : List Lexeme) (total : Outcome (List A)) → Begins x kinds → is_next kinds ts ≡ false → with_prefix prefix (read (many x) ts) ≡ total → total ≡ Ok (prefix, ts)
push_done x kinds prefix ts total b next so_far = loop_done x prefix ts total (begins_next x kinds ts false b next) so_far
