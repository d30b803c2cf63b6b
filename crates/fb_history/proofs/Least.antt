-- The least of the keys that pass a test.
use Rattle.std.proofs.Common.{◌≡◌, ℕ, Bool, true, false, ◌||◌, ◌&&◌, List, [], ◌∷◌, filter, refl, sym, ap, ◌∙◌, subst, Option, Some, None, cond}
use Rattle.std.proofs.lemmas.Bool.{or_left, or_right}
use Rattle.std.specs.{List.{list_any}, BTreeMap.{is_at}, Ordering.{is_eq, is_lt, is_gt, ordering_reverse}, declared.cmp.Ordering.{Ordering}}
use Rattle.std.specs.{declared.cmp.Ordering.TheVariants.{Less, Equal, Greater}, Option.{option_map}}
use Rattle.fb_jobs.specs.{Library.Texts.{Texts, held, names_of, text_in}, Reads.{is_among}, declared.keys.key.Key.{Key}, Keys.{has_key, has_kind_at}}
use Rattle.fb_jobs.specs.{KeyOrder.{key_cmp, key_cmp_total, same_key}, Kinds.{all_keys}}
use Rattle.fb_text.specs.Order.{name_cmp}
use Rattle.fb_history.specs.Machine.{State, is_ready, keys_of, least, lesser, next}
use Rattle.fb_jobs.proofs.{KindLemmas.{in_all_keys, no_kind}, Members.{of_filtered}, Order.{keys_equal}}

-- ---- the keys of texts

held_named : (T : Texts) (name : List ℕ) (b : Bool) → is_among name (names_of T) ≡ b → b ≡ false → held T name ≡ None
held_named [] name b is none = refl
held_named (e ∷ es) name b is none =
    elim (is_at (name_cmp name) e.0) as (λ t. (t || is_among name (names_of es)) ≡ false → cond t (Some e.1) (held es name) ≡ None) [
      | true ↦ λ h. cc
      | false ↦ λ h. held_named es name (is_among name (names_of es)) refl h
    ] (is ∙ none)

-- a name that is not there has no key
pub no_key_unnamed : (T : Texts) (key : Key) → is_among key.unit (names_of T) ≡ false → has_key T key ≡ false
unfolding has_key
no_key_unnamed T key none = ap (λ o. has_kind_at key.kind (option_map text_in o)) (held_named T key.unit false none refl) ∙ no_kind key.kind

filtered : (p : Key → Bool) (k : Key) (ks : List Key) → p k ≡ true → list_any (same_key k) ks ≡ true → list_any (same_key k) (filter p ks) ≡ true
filtered p k [] here among = among
filtered p k (x ∷ xs) here among =
    elim (same_key k x) as (λ s. same_key k x ≡ s → (s || list_any (same_key k) xs) ≡ true → list_any (same_key k) (cond (p x) (x ∷ filter p xs) (filter p xs)) ≡ true) [
      | true ↦ λ same _. subst (λ b. list_any (same_key k) (cond b (x ∷ filter p xs) (filter p xs)) ≡ true) (sym (subst (λ y. p y ≡ true) (keys_equal k x same) here)) (or_left _ _ same)
      | false ↦ λ _ rest. elim (p x) as (λ b. list_any (same_key k) (cond b (x ∷ filter p xs) (filter p xs)) ≡ true) [ true ↦ or_right _ _ (filtered p k xs here rest) | false ↦ filtered p k xs here rest ]
    ] refl among

-- a key of the texts is among the keys by name
pub key_named : (T : Texts) (key : Key) → has_key T key ≡ true → list_any (same_key key) (all_keys (names_of T)) ≡ true
key_named T key has =
    elim (is_among key.unit (names_of T)) as (λ b. is_among key.unit (names_of T) ≡ b → list_any (same_key key) (all_keys (names_of T)) ≡ true) [
      | true ↦ λ among. in_all_keys (names_of T) key ∙ among
      | false ↦ λ none. let not : has_key T key ≡ false = no_key_unnamed T key none in cc
    ] refl

pub key_in_keys : (T : Texts) (key : Key) → has_key T key ≡ true → list_any (same_key key) (keys_of T) ≡ true
key_in_keys T key has = filtered (has_key T) key (all_keys (names_of T)) has (key_named T key has)

and_named : (b h : Bool) → (h ≡ true → b ≡ true) → (b && h) ≡ h
and_named true h named = refl
and_named false true named = named refl
and_named false false named = refl

-- the keys of the texts are those that the texts have
pub of_keys : (T : Texts) (key : Key) → list_any (same_key key) (keys_of T) ≡ has_key T key
of_keys T key = of_filtered (has_key T) key (all_keys (names_of T)) ∙ and_named (list_any (same_key key) (all_keys (names_of T))) (has_key T key) (key_named T key)

-- ---- the least

module _ (p : Key → Bool) where
  least_none : ((q : Key) → p q ≡ false) → (ks : List Key) → least (filter p ks) ≡ None
  least_none none [] = refl
  least_none none (x ∷ xs) = subst (λ b. least (cond b (x ∷ filter p xs) (filter p xs)) ≡ None) (sym (none x)) (least_none none xs)

  abbrev Passes : Option Key → Type 0
  Passes None = Unit {0}
  Passes (Some m) = p m ≡ true

  lesser_passes : (x : Key) (o : Option Key) → p x ≡ true → Passes o → Passes (lesser x o)
  lesser_passes x None here rest = here
  lesser_passes x (Some m) here rest = elim (is_lt (key_cmp m x)) as (λ b. p (cond b m x) ≡ true) [ true ↦ rest | false ↦ here ]

  least_passes : (ks : List Key) → Passes (least (filter p ks))
  least_passes [] = tt
  least_passes (x ∷ xs) = elim (p x) as (λ b. p x ≡ b → Passes (least (cond b (x ∷ filter p xs) (filter p xs)))) [
    | true ↦ λ here. lesser_passes x (least (filter p xs)) here (least_passes xs)
    | false ↦ λ here. least_passes xs
  ] refl

  reversed : (o : Ordering) → is_gt o ≡ false → is_lt (ordering_reverse o) ≡ false
  reversed Less e = refl
  reversed Equal e = refl
  reversed Greater e = cc

  less : (o : Ordering) → is_gt o ≡ false → is_eq o ≡ false → is_lt o ≡ true
  less Less e f = refl
  less Equal e f = cc
  less Greater e f = cc

  module _ (k : Key) (here : p k ≡ true) (low : (q : Key) → p q ≡ true → is_gt (key_cmp k q) ≡ false) where
    first : (o : Option Key) → Passes o → lesser k o ≡ Some k
    first None rest = refl
    first (Some m) rest = ap (λ b. Some (cond b m k)) (ap is_lt (key_cmp_total.antisymm m k) ∙ reversed (key_cmp k m) (low m rest))

    later : (x : Key) → p x ≡ true → same_key k x ≡ false → lesser x (Some k) ≡ Some k
    later x passes apart = ap (λ b. Some (cond b k x)) (less (key_cmp k x) (low x passes) apart)

    least_some : (ks : List Key) → list_any (same_key k) ks ≡ true → least (filter p ks) ≡ Some k
    least_some [] among = cc
    least_some (x ∷ xs) among =
        elim (same_key k x) as (λ s. same_key k x ≡ s → (s || list_any (same_key k) xs) ≡ true → least (cond (p x) (x ∷ filter p xs) (filter p xs)) ≡ Some k) [
          | true ↦ λ same _. let at : k ≡ x = keys_equal k x same in
              subst (λ y. least (cond (p y) (y ∷ filter p xs) (filter p xs)) ≡ Some k) at
              (subst (λ b. least (cond b (k ∷ filter p xs) (filter p xs)) ≡ Some k) (sym here) (first (least (filter p xs)) (least_passes xs)))
          | false ↦ λ apart rest.
              elim (p x) as (λ b. p x ≡ b → least (cond b (x ∷ filter p xs) (filter p xs)) ≡ Some k) [
                | true ↦ λ passes. ap (λ o. lesser x o) (least_some xs rest) ∙ later x passes apart
                | false ↦ λ _. least_some xs rest
              ] refl
        ] refl among

pub next_none : (s : State) → ((q : Key) → is_ready s q ≡ false) → next s ≡ None
unfolding next
next_none s none = least_none (is_ready s) none (keys_of s.units)

pub next_some : (s : State) (k : Key) → is_ready s k ≡ true → has_key s.units k ≡ true → ((q : Key) → is_ready s q ≡ true → is_gt (key_cmp k q) ≡ false) → next s ≡ Some k
unfolding next
next_some s k here has low = least_some (is_ready s) k here low (keys_of s.units) (key_in_keys s.units k has)

pub next_passes : (s : State) (k : Key) → Some k ≡ next s → is_ready s k ≡ true
unfolding next
next_passes s k e = subst (λ o. Passes (is_ready s) o) (sym e) (least_passes (is_ready s) (keys_of s.units))
