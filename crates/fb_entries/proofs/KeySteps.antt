-- One more of some keys, in a map or in a set.
use Rattle.std.proofs.Common.{◌≡◌, ℕ, Bool, true, false, ◌||◌, List, [], ◌∷◌, ◌++◌, take, drop, refl, sym, ap, ◌∙◌, Option, Some, None, cond, is_none}
use Rattle.std.proofs.lemmas.List.{take-append-drop}
use Rattle.fb_jobs.specs.{declared.keys.key.Key.{Key}, KeyOrder.{same_key}}
use Rattle.fb_entries.specs.{declared.entry.Entry.{Entry}, Marking.{is_of, waiting_if}}
use Rattle.fb_jobs.proofs.Members.{of_more, of_both}

pub of_now : (q k : Key) (before now : List Key) → now ≡ before ++ k ∷ [] → is_of q now ≡ (is_of q before || same_key k q)
of_now q k before now more = ap (λ ks. is_of q ks) more ∙ of_more q k before

or_prefix : (a b : Bool) → (a || b) ≡ false → a ≡ false
or_prefix true b none = cc
or_prefix false b none = refl

-- a key that is not of these is not of the first of them
pub of_prefix : (q : Key) (i : ℕ) (ks : List Key) → is_of q ks ≡ false → is_of q (take i ks) ≡ false
of_prefix q i ks none = or_prefix (is_of q (take i ks)) (is_of q (drop i ks)) (sym (of_both q (take i ks) (drop i ks)) ∙ ap (λ l. is_of q l) (take-append-drop i ks) ∙ none)

module _ {V : Type 0} (none v0 v1 v2 : V) where
  -- taken out, one by one
  pub out_more : (a same : Bool) → v2 ≡ cond same none v1 → v1 ≡ cond a none v0 → v2 ≡ cond (a || same) none v0
  out_more true true left so_far = left
  out_more true false left so_far = left ∙ so_far
  out_more false true left so_far = left
  out_more false false left so_far = left ∙ so_far

  -- put in, one by one
  pub others_more : (a same : Bool) → (a || same) ≡ false → v2 ≡ cond same none v1 → (a ≡ false → v1 ≡ v0) → v2 ≡ v0
  others_more true same apart put so_far = cc
  others_more false true apart put so_far = cc
  others_more false false apart put so_far = put ∙ so_far refl

pub member_more : (v1 v2 a same : Bool) → (a || same) ≡ true → v2 ≡ cond same true v1 → (a ≡ true → v1 ≡ true) → v2 ≡ true
member_more v1 v2 a true some put so_far = put
member_more v1 v2 true false some put so_far = put ∙ so_far refl
member_more v1 v2 false false some put so_far = cc

pub entry_more : (v1 v2 : Option Entry) (it : Entry) (a same : Bool) → (a || same) ≡ true → v2 ≡ cond same (Some it) v1 → (a ≡ true → is_none v1 ≡ false) → is_none v2 ≡ false
entry_more v1 v2 it a true some put so_far = ap (λ (o : Option Entry). is_none o) put
entry_more v1 v2 it true false some put so_far = ap (λ (o : Option Entry). is_none o) put ∙ so_far refl
entry_more v1 v2 it false false some put so_far = cc

-- ---- entries of keys that are to wait

-- to wait, one by one
pub waiting_more : (v0 v1 v2 : Option Entry) (a same : Bool) → v2 ≡ waiting_if same v1 → v1 ≡ waiting_if a v0 → v2 ≡ waiting_if (a || same) v0
waiting_more v0 v1 v2 true true now so_far = now ∙ ap (waiting_if true) so_far ∙ twice v0
  where
    twice : (v : Option Entry) → waiting_if true (waiting_if true v) ≡ waiting_if true v
    twice None = refl
    twice (Some it) = refl
waiting_more v0 v1 v2 true false now so_far = now ∙ so_far
waiting_more v0 v1 v2 false true now so_far = now ∙ ap (waiting_if true) so_far
waiting_more v0 v1 v2 false false now so_far = now ∙ so_far
