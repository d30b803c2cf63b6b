-- What units carry is what their value mentions lead to; what is near a unit is in its list.
use Rattle.std.proofs.Common.{◌≡◌, ℕ, Bool, true, false, List, [], ◌∷◌, ◌++◌, ◌⊎◌, inl, inr, ⊎_elim, if◌then◌else◌, refl, sym, subst}
use Rattle.std.proofs.lemmas.List.Elements.{Contains-append_left, Contains-append_right, Contains-append_cases, Contains-push, Contains-push_cases}
use Rattle.std.specs.{Cmp.Lexicographic.{nat_list_cmp_total}, List.{Contains, flat_map}, List.Sorted.{IsStrictlySortedBy}}
use Rattle.fb_parse.proofs.Text.Members.{contains_nothing, contains_flat_map, origin_in_flat_map}
use Rattle.fb_parse.proofs.Text.OrderLemmas.{in_order-sorted}
use Rattle.fb_parse.specs.Text.Order.{name_cmp, names_in_order}
use Rattle.fb_library.specs.View.{Sources, values_in, values_at, parts_at, is_structure_at}
use Rattle.fb_library.specs.Near.{Carries, directly, onward, IsNear, own, part, carried, carried_by_part, carried_on, in_all_trees, carried_of, bases_at, near_of}
use Rattle.fb_library.specs.{Local.{CarriedIsAll, NearIsAll}, Opened.{Leads, itself, through, LedFrom, IsWithin}}
use Rattle.fb_library.proofs.{Opening.{leads_more, in_names, from_names, led_from_is_all}, FarLemmas.{one_in_order}}
use Rattle.fb_library.proofs.WalkLemmas.{Contains-has, has-Contains, mentioned_somewhere, IsWalk, complete_at_end}

-- a name of a list that stands there on a condition
pub if_has : (b : Bool) (names : List (List ℕ)) (q : List ℕ) → Contains (if b then names else []) q → (b ≡ true) × Contains names q
if_has true names q c = (refl, c)
if_has false names q c = absurd (contains_nothing q c)

pub has_if : (b : Bool) (names : List (List ℕ)) (q : List ℕ) → b ≡ true → Contains names q → Contains (if b then names else []) q
has_if b names q is c = subst (λ (b : Bool). Contains (if b then names else []) q) (sym is) c

module _ (sources : Sources) where
  pub carried_within : IsWithin (carried_on sources) (in_all_trees values_in sources)
  carried_within n q c = mentioned_somewhere values_in refl sources n q (if_has (is_structure_at sources n) (values_at sources n) q c).1

  -- what leads on from a carried name is carried
  leads_carried : {u w v : List ℕ} → Carries sources u w → Leads (carried_on sources) w v → Carries sources u v
  leads_carried r itself = r
  leads_carried {w = w} r (through {w = x} m l) =
      let on = if_has (is_structure_at sources w) (values_at sources w) x m in
      leads_carried (onward r on.0 on.1) l

  -- and what is carried is led to
  carried_led : (units : List (List ℕ)) {u v : List ℕ} → Contains units u → Carries sources u v → LedFrom (carried_on sources) (flat_map (values_at sources) units) v
  carried_led units {u} {v} c (directly m) = (v, contains_flat_map (values_at sources) units u v c m, itself)
  carried_led units {u} {v} c (onward {w = w} r s m) =
      let led = carried_led units c r in
      (led.0, led.1, leads_more led.2 (has_if (is_structure_at sources w) (values_at sources w) v s m))

pub carried_is_all : CarriedIsAll
unfolding carried_of
carried_is_all sources units =
    let all = led_from_is_all (carried_on sources) (in_all_trees values_in sources) (flat_map (values_at sources) units) (carried_within sources) in (
      all.0,
      λ v. (
        λ c. let led = (all.1 v).0 c in let o = origin_in_flat_map (values_at sources) units led.0 led.1 in (o.origin, o.among, leads_carried sources (directly o.has) led.2),
        λ some. (all.1 v).1 (carried_led sources units some.1 some.2),
      ),
    )

-- a walk that is done has seen just these
pub carried_at_end : (sources : Sources) (units seen : List (List ℕ)) → IsStrictlySortedBy name_cmp seen → IsWalk (carried_on sources) (flat_map (values_at sources) units) seen [] → seen ≡ carried_of sources units
unfolding carried_of
carried_at_end sources units seen sorted walk =
    let starts = flat_map (values_at sources) units in
    let all = led_from_is_all (carried_on sources) (in_all_trees values_in sources) starts (carried_within sources) in
    one_in_order seen (carried_of sources units) sorted all.0
    (λ v c. (all.1 v).1 (walk.sound v (has-Contains v seen c)))
    (λ v c. Contains-has v seen (complete_at_end (carried_on sources) starts seen walk v ((all.1 v).0 c)))

-- ---- near

module _ (sources : Sources) (unit : List ℕ) where
  all_near : (v : List ℕ) → Contains (carried_of sources (bases_at sources unit)) v ⊎ Contains (bases_at sources unit) v → IsNear sources unit v
  all_near v (inl c) =
      let some = ((carried_is_all sources (bases_at sources unit)).1 v).0 c in
      ⊎_elim (λ p. carried_by_part p some.2) (λ (e : unit ≡ some.0). carried (rw e some.2)) (Contains-push_cases (parts_at sources unit) unit some.0 some.1)
  all_near v (inr b) = ⊎_elim (λ p. part p) (λ (e : unit ≡ v). rw (← e) own) (Contains-push_cases (parts_at sources unit) unit v b)

  part_base : (p : List ℕ) → Contains (parts_at sources unit) p → Contains (bases_at sources unit) p
  part_base p m = Contains-append_left (parts_at sources unit) (unit ∷ []) p m

  listed_base : (v : List ℕ) → Contains (bases_at sources unit) v → Contains (near_of sources unit) v
  unfolding near_of
  listed_base v b = in_names (carried_of sources (bases_at sources unit) ++ bases_at sources unit) v (Contains-append_right (carried_of sources (bases_at sources unit)) (bases_at sources unit) v b)

  pub listed_carried : (v : List ℕ) → Contains (carried_of sources (bases_at sources unit)) v → Contains (near_of sources unit) v
  unfolding near_of
  listed_carried v c =
      in_names (carried_of sources (bases_at sources unit) ++ bases_at sources unit) v
      (Contains-append_left (carried_of sources (bases_at sources unit)) (bases_at sources unit) v c)

  by_unit : (u v : List ℕ) → Contains (bases_at sources unit) u → Carries sources u v → Contains (near_of sources unit) v
  by_unit u v b r = listed_carried v (((carried_is_all sources (bases_at sources unit)).1 v).1 (u, b, r))

  listed : {v : List ℕ} → IsNear sources unit v → Contains (near_of sources unit) v
  listed own = listed_base unit (Contains-push (parts_at sources unit) unit)
  listed (part {p = p} m) = listed_base p (part_base p m)
  listed (carried {v = v} r) = by_unit unit v (Contains-push (parts_at sources unit) unit) r
  listed (carried_by_part {p = p} {v = v} m r) = by_unit p v (part_base p m) r

pub near_by_bases : (sources : Sources) (unit : List ℕ) → names_in_order (carried_of sources (bases_at sources unit) ++ bases_at sources unit) ≡ near_of sources unit
unfolding near_of
near_by_bases sources unit = refl

pub near_is_all : NearIsAll
unfolding near_of
near_is_all sources unit = (
  in_order-sorted name_cmp nat_list_cmp_total (carried_of sources (bases_at sources unit) ++ bases_at sources unit),
  λ v. (
    λ c. all_near sources unit v (Contains-append_cases (carried_of sources (bases_at sources unit)) (bases_at sources unit) v (from_names (carried_of sources (bases_at sources unit) ++ bases_at sources unit) v c)),
    listed sources unit,
  ),
)
