-- One more name in a name space.
use Rattle.std.proofs.Common.{◌≡◌, ℕ, ◌+◌, ◌<◌, Bool, true, false, cond, ◌||◌, List, [], ◌∷◌, ◌++◌, length, get_or, take, refl, sym, ap, ◌∙◌, append-nil, nat_eq, arith}
use Rattle.std.proofs.{Math.Bool.{or-false, or_assoc}, lemmas.List.{map-append}}
use Rattle.std.specs.{Cmp.Lexicographic.{pointwise}, HashSet.{HashSet, contains, Updates}}
use Rattle.fb_tree.proofs.Text.OrderLemmas.{same_name}
use Rattle.fb_tree.specs.Text.declared.name.NameUse.{NameUse}
use Rattle.fb_iface.specs.{declared.code.Code.{Code}, Fault.{fault_at, faults_at}, Names.{has_name, is_repeated, is_same, repeated}}
use Rattle.fb_iface.proofs.PlaceLemmas.{passing, passing-all, passing-more}

has_name-push : (xs : List NameUse) (x : NameUse) (q : List ℕ) → has_name (xs ++ x ∷ []) q ≡ (has_name xs q || is_same x.name q)
has_name-push [] x q = or-false (is_same x.name q)
has_name-push (y ∷ xs) x q = ap (λ b. is_same y.name q || b) (has_name-push xs x q) ∙ sym (or_assoc (is_same y.name q) (has_name xs q) (is_same x.name q))

pub true_or : (b c : Bool) → cond b true c ≡ (c || b)
true_or true true = refl
true_or true false = refl
true_or false true = refl
true_or false false = refl

-- a set that holds the names so far holds them with one more
pub noted-push : {S : Type 0} (xs : List NameUse) (x : NameUse) (old new : HashSet (List ℕ) S) → ((q : List ℕ) → contains (pointwise nat_eq) old q ≡ has_name xs q) → Updates (pointwise nat_eq) old new x.name true → (q : List ℕ) → contains (pointwise nat_eq) new q ≡ has_name (xs ++ x ∷ []) q
noted-push xs x old new noted updates q =
    updates.0 q
    ∙ (λ i. cond (same_name x.name q i) true (noted q i))
    ∙ true_or (is_same x.name q) (has_name xs q)
    ∙ sym (has_name-push xs x q)

-- second and later declarations among the first n of the names
abbrev pub repeated_among : ℕ → List NameUse → List NameUse
repeated_among n names = passing (is_repeated names) n names

pub repeated_all : (names : List NameUse) → repeated_among (length names) names ≡ repeated names
repeated_all names = passing-all (is_repeated names) names

-- a name that stands before is reported
pub reported-again : (code : Code) (names : List NameUse) (n : ℕ) (x : NameUse) → n < length names → x ≡ get_or names n x → has_name (take n names) x.name ≡ true → faults_at code (repeated_among (n + 1) names) ≡ faults_at code (repeated_among n names) ++ fault_at code x ∷ []
reported-again code names n x within here e =
    ap (faults_at code) (passing-more (is_repeated names) names n x true within here e) ∙ map-append (fault_at code) (repeated_among n names) (x ∷ [])

-- and no other
pub reported-first : (code : Code) (names : List NameUse) (n : ℕ) (x : NameUse) → n < length names → x ≡ get_or names n x → has_name (take n names) x.name ≡ false → faults_at code (repeated_among (n + 1) names) ≡ faults_at code (repeated_among n names)
reported-first code names n x within here e =
    ap (faults_at code) (passing-more (is_repeated names) names n x false within here e ∙ append-nil (repeated_among n names))

-- fewer than two names do not repeat
pub none_repeated : (names : List NameUse) → length names < 2 → repeated names ≡ []
none_repeated [] few = refl
none_repeated (x ∷ []) few = refl
none_repeated (x ∷ y ∷ names) few = absurd (omega arith)
