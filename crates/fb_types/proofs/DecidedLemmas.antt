-- Deciding which names reach themselves, one round after another.
use Rattle.std.proofs.Common.{◌≡◌, ℕ, Bool, true, false, cond, ◌||◌, List, [], ◌∷◌, ◌++◌, sym, ap, subst, ◌∙◌, arith}
use Rattle.std.proofs.lemmas.Bool.{false≢true, or_left, or_right}
use Rattle.std.specs.List.{Contains}
use Rattle.fb_tree.proofs.Text.Tests.{by_bool, or_cases, no_both}
use Rattle.fb_iface.proofs.{Library.SeenLemmas.{same, same_is}, Library.WalkLemmas.{Contains-has, has-Contains, has-push}}
use Rattle.fb_iface.specs.Library.Seen.{has_name}
use Rattle.fb_types.specs.Graph.{Follows, IsDecided, AreDecided}
use Rattle.fb_types.proofs.{NameLemmas.{or_none, or_none_left}, GraphLemmas.{follow_both, no_follow}}

gone : (b x : Bool) → b ≡ true → cond b false x ≡ false
gone b x t = ap (λ c. cond c false x) t

stays : (b x : Bool) → b ≡ false → cond b false x ≡ x
stays b x f = ap (λ c. cond c false x) f

left_over : (b x : Bool) → cond b false x ≡ true → (b ≡ false) × (x ≡ true)
left_over b x h = grind arith

still_false : (b x : Bool) → x ≡ false → cond b false x ≡ false
still_false b x h = grind arith

pub gone_twice : (a b c x : Bool) → cond a false (cond (b || c) false x) ≡ cond ((b || a) || c) false x
gone_twice a b c x = grind arith

pub IsDecided-begin : (next : List ℕ → List (List ℕ)) (undecided found : List (List ℕ)) → ((u : List ℕ) → has_name undecided u ≡ false → next u ≡ []) → found ≡ [] → IsDecided next undecided found
IsDecided-begin next undecided found outside none =
    let begins : (u v : List ℕ) → Follows next u v → has_name undecided u ≡ true = λ u v r. by_bool (has_name undecided u) (λ t. t) (λ f. absurd (no_follow next (outside u f) r)) in
    record {
      whole = λ u v h r s. begins v u s;
      sound = λ u h. absurd (false≢true (sym (ap (λ l. has_name l u) none) ∙ h));
      complete = λ u r. or_left (has_name undecided u) _ (begins u u r);
    }

module _ (next : List ℕ → List (List ℕ)) (undecided found undecided' found' round : List (List ℕ)) (name : List ℕ) (left : (u : List ℕ) → has_name undecided' u ≡ cond (has_name round u || same u name) false (has_name undecided u)) where
  module _ (decided : IsDecided next undecided found) (is_round : (v : List ℕ) → (Contains round v → Follows next name v × Follows next v name) × (Follows next name v × Follows next v name → Contains round v)) (adds : (u : List ℕ) → has_name found' u ≡ (has_name found u || has_name round u)) where
    in_round : (u : List ℕ) → Follows next name u → Follows next u name → has_name round u ≡ true
    in_round u to from = has-Contains u round ((is_round u).1 (to, from))

    of_round : (u : List ℕ) → has_name round u ≡ true → Follows next name u × Follows next u name
    of_round u h = (is_round u).0 (Contains-has u round h)

    pub IsDecided-step : IsDecided next undecided' found'
    IsDecided-step = record {
      whole = λ u v h r s.
          let old = left_over (has_name round u || same u name) (has_name undecided u) (sym (left u) ∙ h) in
          let apart : has_name round u ≡ false = or_none_left (has_name round u) (same u name) old.0 in
          by_bool (has_name round v)
          (λ t. let both = of_round v t in no_both (has_name round u) (in_round u (follow_both next both.0 s) (follow_both next r both.1)) apart)
          (λ f. by_bool (same v name)
          (λ t.
          let is = same_is v name t in
          no_both (has_name round u) (in_round u (subst (λ (n : List ℕ). Follows next n u) is s) (subst (λ (n : List ℕ). Follows next u n) is r)) apart)
          (λ g. left v ∙ stays (has_name round v || same v name) _ (or_none (has_name round v) (same v name) f g) ∙ decided.whole u v old.1 r s));
      sound = λ u h. or_cases (has_name found u) (has_name round u) (sym (adds u) ∙ h)
          (decided.sound u)
          (λ t. let both = of_round u t in follow_both next both.1 both.0);
      complete = λ u r.
          let own : same u name ≡ true → has_name round u ≡ true = λ s. let is = same_is u name s in in_round u (subst (λ (n : List ℕ). Follows next n u) is r) (subst (λ (n : List ℕ). Follows next u n) is r) in
          let was = decided.complete u r in
          grind (arith, adds u, left u, own);
    }

  pub AreDecided-step : (names before : List (List ℕ)) → AreDecided names before undecided → AreDecided (names ++ name ∷ []) before undecided'
  AreDecided-step names before these = (
    λ u h. these.0 u (left_over (has_name round u || same u name) (has_name undecided u) (sym (left u) ∙ h)).1,
    λ u h. left u ∙ or_cases (has_name names u) (same u name) (sym (has-push names name u) ∙ h)
        (λ t. still_false (has_name round u || same u name) _ (these.1 u t))
        (λ s. gone (has_name round u || same u name) _ (or_right (has_name round u) _ s)),
  )

-- a name that is decided already
pub AreDecided-skip : (names before undecided : List (List ℕ)) (name : List ℕ) → has_name undecided name ≡ false → AreDecided names before undecided → AreDecided (names ++ name ∷ []) before undecided
AreDecided-skip names before undecided name old these = (
  these.0,
  λ u h. or_cases (has_name names u) (same u name) (sym (has-push names name u) ∙ h) (these.1 u) (λ s. ap (has_name undecided) (same_is u name s) ∙ old),
)

-- the names that are decided are found where they reach themselves
pub found_of_decided : (next : List ℕ → List (List ℕ)) (names before undecided found : List (List ℕ)) → IsDecided next undecided found → AreDecided names before undecided → (u : List ℕ) → Contains names u → (Contains found u → Follows next u u) × (Follows next u u → Contains found u)
found_of_decided next names before undecided found decided these u there = (
  λ h. decided.sound u (has-Contains u found h),
  λ r. or_cases (has_name undecided u) (has_name found u) (decided.complete u r)
      (λ t. no_both (has_name undecided u) t (these.1 u (has-Contains u names there)))
      (λ t. Contains-has u found t),
)
