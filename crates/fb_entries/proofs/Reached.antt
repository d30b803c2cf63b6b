-- What is reached by the index is what the machine says.
use Rattle.std.proofs.Common.{◌≡◌, ◌↔◌, ℕ, Bool, true, false, ◌||◌, List, [], ◌∷◌, ◌⊎◌, inl, inr, refl, sym, ap, subst, ◌∙◌, Option, Some, None, is_some, cond}
use Rattle.std.proofs.lemmas.Bool.{false≢true}
use Rattle.std.specs.{List.{Contains, list_any}, BTreeMap.{is_at}}
use Rattle.fb_text.proofs.Tests.{or_cases}
use Rattle.fb_text.specs.Order.{name_cmp}
use Rattle.fb_index.specs.{Users.{uses}, Indexed.{Indexed, is_indexed}}
use Rattle.fb_index.specs.Near.{Carries, directly, onward, IsNear, own, part, carried, carried_by_part, mentions, Reaches, itself, mention, through, OneOf, NearSome, ReachesSome}
use Rattle.fb_index.specs.Library.Near.{near_of, Carries as CarriesIn, directly as by_value, onward as by_structure, IsNear as IsNearIn, own as is_unit, part as is_part, carried as is_carried, carried_by_part as is_carried_by_part}
use Rattle.fb_index.specs.Library.Rests.{Rests, itself as on_itself, through as on}
use Rattle.fb_index.specs.{Library.Texts.{Texts, sources_of, text_at}, Library.View.{Sources, mentions_at, parts_at, values_at}}
use Rattle.fb_index.proofs.Library.SeenLemmas.{or_left, or_right, same_is, same_self, has-append, Contains-has, has-Contains}
use Rattle.fb_index.proofs.Library.CarriedLemmas.{near_is_all}
use Rattle.fb_jobs.proofs.{Flatten.FarNames.{far_is_all}, KindLemmas.{in_near_and_far, needs_by, no_kind}}
use Rattle.fb_jobs.specs.{Flatten.Far.{far_of}, declared.keys.key.Kind.{Kind}, Kinds.{keys_near_and_far, needs_all}, declared.keys.key.Key.{Key}}
use Rattle.fb_jobs.specs.{Keys.{has_key, has_kind_at, needs}, Reads.{is_among}, Reach.{reaches}}
use Rattle.fb_entries.specs.{Indexed.{IsIndexOf, IsReached, IsReachedFrom}, Marking.{is_of}}

-- ---- a unit of the texts

present_kind : (kind : Kind) (text : Option (List ℕ)) → has_kind_at kind text ≡ true → is_some text ≡ true
present_kind kind None has = absurd (false≢true (sym (no_kind kind) ∙ has))
present_kind kind (Some text) has = refl

present : (texts : Texts) (key : Key) → has_key texts key ≡ true → is_some (text_at texts key.unit) ≡ true
unfolding has_key
present texts key has = present_kind key.kind (text_at texts key.unit) has

-- ---- one of the names

some_of : (test : List ℕ → Bool) (stands : List ℕ → Type 0) → ((n : List ℕ) → test n ≡ true → stands n) → (names : List (List ℕ)) → list_any test names ≡ true → OneOf names stands
some_of test stands are [] any = absurd (false≢true any)
some_of test stands are (n ∷ ns) any = or_cases (test n) (list_any test ns) any
    (λ here. record { name = n; among = or_left (is_at (name_cmp n) n) _ (same_self n); is = are n here })
    (λ later. let some = some_of test stands are ns later in record { name = some.name; among = or_right (is_at (name_cmp some.name) n) _ some.among; is = some.is })

any_of : (test : List ℕ → Bool) (name : List ℕ) (names : List (List ℕ)) → is_among name names ≡ true → test name ≡ true → list_any test names ≡ true
any_of test name [] among is = absurd (false≢true among)
any_of test name (n ∷ ns) among is = or_cases (is_at (name_cmp name) n) (is_among name ns) among
    (λ at. or_left (test n) _ (sym (ap test (same_is name n at)) ∙ is))
    (λ later. or_right (test n) _ (any_of test name ns later is))

one_of : (listed : List (List ℕ)) (stands : List ℕ → Type 0) → ((n : List ℕ) → Contains listed n ↔ stands n) → (names : List (List ℕ)) → (list_any (λ n. is_among n listed) names ≡ true) ↔ OneOf names stands
one_of listed stands are names = (
  some_of (λ n. is_among n listed) stands (λ n h. (are n).0 (Contains-has n listed h)) names,
  λ some. any_of (λ n. is_among n listed) some.name names some.among (has-Contains some.name listed ((are some.name).1 some.is)),
)

-- ---- what is indexed is what the texts mention

module _ (texts : Texts) (index : Indexed) (is : IsIndexOf texts index) where
  abbrev sources : Sources
  sources = sources_of texts

  part_there : (u v : List ℕ) → uses index.parts u v ≡ true → Contains (parts_at sources u) v
  part_there u v m = Contains-has v (parts_at sources u) (sym ((is.mentions u).parts v) ∙ m)

  part_here : (u v : List ℕ) → Contains (parts_at sources u) v → uses index.parts u v ≡ true
  part_here u v m = (is.mentions u).parts v ∙ has-Contains v (parts_at sources u) m

  value_there : (u v : List ℕ) → uses index.of_values u v ≡ true → Contains (values_at sources u) v
  value_there u v m = Contains-has v (values_at sources u) (sym ((is.mentions u).of_values v) ∙ m)

  value_here : (u v : List ℕ) → Contains (values_at sources u) v → uses index.of_values u v ≡ true
  value_here u v m = (is.mentions u).of_values v ∙ has-Contains v (values_at sources u) m

  mentions_are : (u v : List ℕ) → mentions index u v ≡ is_among v (mentions_at sources u)
  mentions_are u v =
      ap (λ b. b || uses index.of_values u v) ((is.mentions u).parts v)
      ∙ ap (λ b. is_among v (parts_at sources u) || b) ((is.mentions u).of_values v)
      ∙ sym (has-append (parts_at sources u) (values_at sources u) v)

  mention_there : (u v : List ℕ) → mentions index u v ≡ true → Contains (mentions_at sources u) v
  mention_there u v m = Contains-has v (mentions_at sources u) (sym (mentions_are u v) ∙ m)

  mention_here : (u v : List ℕ) → Contains (mentions_at sources u) v → mentions index u v ≡ true
  mention_here u v m = mentions_are u v ∙ has-Contains v (mentions_at sources u) m

  -- what is carried

  carries_there : {u v : List ℕ} → Carries index u v → CarriesIn sources u v
  carries_there {u} {v} (directly m) = by_value (value_there u v m)
  carries_there {u} {v} (onward {w = w} r marked m) = by_structure (carries_there r) (sym (is.mentions w).structure ∙ marked) (value_there w v m)

  carries_here : {u v : List ℕ} → CarriesIn sources u v → Carries index u v
  carries_here {u} {v} (by_value m) = directly (value_here u v m)
  carries_here {u} {v} (by_structure {w = w} r marked m) = onward (carries_here r) ((is.mentions w).structure ∙ marked) (value_here w v m)

  -- what is near

  near_there : {u v : List ℕ} → IsNear index u v → IsNearIn sources u v
  near_there (own there) = is_unit
  near_there {u} {v} (part m) = is_part (part_there u v m)
  near_there (carried r) = is_carried (carries_there r)
  near_there {u} (carried_by_part {p = p} m r) = is_carried_by_part (part_there u p m) (carries_there r)

  near_here : {u v : List ℕ} → is_indexed index u ≡ true → IsNearIn sources u v → IsNear index u v
  near_here there is_unit = own there
  near_here {u} {v} there (is_part m) = part (part_here u v m)
  near_here there (is_carried r) = carried (carries_here r)
  near_here {u} there (is_carried_by_part {p = p} m r) = carried_by_part (part_here u p m) (carries_here r)

  near_reached : (unit : List ℕ) (names : List (List ℕ)) → is_indexed index unit ≡ true → (list_any (λ n. is_among n (near_of sources unit)) names ≡ true) ↔ NearSome index unit names
  near_reached unit names there =
      one_of (near_of sources unit) (IsNear index unit) (λ n. (
        λ c. near_here there (((near_is_all sources unit).1 n).0 c),
        λ near. ((near_is_all sources unit).1 n).1 (near_there near),
      )) names

  -- what is far

  rests_reaches : {u v : List ℕ} → Rests sources u v → (u ≡ v) ⊎ Reaches index u v
  rests_reaches on_itself = inl refl
  rests_reaches {u} {v} (on {w = w} m r) = further (rests_reaches r)
    where
      further : (w ≡ v) ⊎ Reaches index w v → (u ≡ v) ⊎ Reaches index u v
      further (inl e) = inr (subst (λ n. Reaches index u n) e (mention (mention_here u w m)))
      further (inr far) = inr (through (mention_here u w m) far)

  rests_there : {u v : List ℕ} → is_indexed index u ≡ true → Rests sources u v → Reaches index u v
  rests_there {u} {v} there rests = by (rests_reaches rests)
    where
      by : (u ≡ v) ⊎ Reaches index u v → Reaches index u v
      by (inl e) = subst (λ n. Reaches index u n) e (itself there)
      by (inr far) = far

  reaches_rests : {u v : List ℕ} → Reaches index u v → Rests sources u v
  reaches_rests (itself there) = on_itself
  reaches_rests {u} {v} (mention m) = on (mention_there u v m) on_itself
  reaches_rests {u} (through {w = w} m r) = on (mention_there u w m) (reaches_rests r)

  far_reached : (unit : List ℕ) (names : List (List ℕ)) → is_indexed index unit ≡ true → (list_any (λ n. is_among n (far_of sources unit)) names ≡ true) ↔ ReachesSome index unit names
  far_reached unit names there =
      one_of (far_of sources unit) (Reaches index unit) (λ n. (
        λ c. rests_there there (((far_is_all sources unit).1 n).0 c),
        λ far. ((far_is_all sources unit).1 n).1 (reaches_rests far),
      )) names

  by_need : (all : Bool) (unit : List ℕ) (names : List (List ℕ)) → is_indexed index unit ≡ true → (list_any (λ n. is_among n (cond all (far_of sources unit) (near_of sources unit))) names ≡ true) ↔ IsReachedFrom index names all unit
  by_need false unit names there = near_reached unit names there
  by_need true unit names there = far_reached unit names there

  by_kind : (kind : Kind) (unit : List ℕ) (names : List (List ℕ)) → is_indexed index unit ≡ true → (reaches names texts (record { kind = kind; unit = unit }) ≡ true) ↔ IsReached index names kind unit
  unfolding needs
  by_kind kind unit names there =
      subst (λ needed. (list_any (λ n. is_among n needed) names ≡ true) ↔ IsReached index names kind unit) (sym (needs_by kind sources unit)) (by_need (needs_all kind) unit names there)

  -- a key of the texts is reached by the index where the machine says so
  pub reached_by : (key : Key) (names : List (List ℕ)) → has_key texts key ≡ true → (reaches names texts key ≡ true) ↔ IsReached index names key.kind key.unit
  reached_by key names has = by_kind key.kind key.unit names (is.units key.unit ∙ present texts key has)

-- ---- the keys of two lists of units

module _ (nears fars : List (List ℕ)) (index : Indexed) (changed : List (List ℕ)) (near_are : (unit : List ℕ) → (is_among unit nears ≡ true) ↔ NearSome index unit changed) (far_are : (unit : List ℕ) → (is_among unit fars ≡ true) ↔ ReachesSome index unit changed) where
  names_are : (all : Bool) (unit : List ℕ) → (is_among unit (cond all fars nears) ≡ true) ↔ IsReachedFrom index changed all unit
  names_are false unit = near_are unit
  names_are true unit = far_are unit

  pub keys_are : (keys : List Key) → keys ≡ keys_near_and_far nears fars → (key : Key) → (is_of key keys ≡ true) ↔ IsReached index changed key.kind key.unit
  keys_are keys same key =
      subst (λ b. (b ≡ true) ↔ IsReached index changed key.kind key.unit) (sym (ap (is_of key) same ∙ in_near_and_far nears fars key)) (names_are (needs_all key.kind) key.unit)
