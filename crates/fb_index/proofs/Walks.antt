-- The walks from names to those who use them: where they lead.
use Rattle.std.proofs.Common.{◌≡◌, ◌↔◌, ℕ, Bool, true, false, List, [], ◌∷◌, ◌++◌, ◌⊎◌, inl, inr, filter, refl, sym, ap, subst, ◌∙◌, Some, cond, unwrap_or}
use Rattle.std.proofs.lemmas.List.Elements.{Contains-append_left, Contains-append_right, Contains-append_cases}
use Rattle.std.specs.{List.{Contains, flat_map}, Map.{lookup}, BTreeMap.{is_at}}
use Rattle.fb_text.proofs.Members.{contains_filter, passes_in_filter, contains_flat_map, origin_in_flat_map}
use Rattle.fb_text.specs.Order.{name_cmp, names_in_order}
use Rattle.fb_library.specs.{Opened.{Leads, itself as at_start, through as by_step, LedFrom, IsWithin}, Seen.{has_name}}
use Rattle.fb_library.proofs.{CarriedLemmas.{if_has, has_if}, Opening.{leads_more, in_names, from_names}, SeenLemmas.{Contains-has, has-Contains, has-append}}
use Rattle.fb_library.proofs.WalkLemmas.{IsWalk, complete_at_end}
use Rattle.fb_index.specs.{Users.{UsersByName, users_of, uses}, Indexed.{Indexed, is_indexed, is_structure_in}}
use Rattle.fb_index.specs.Near.{Carries, directly, onward, IsNear, own, part, carried, carried_by_part, mentions, Reaches, itself, mention, through, CarriesSome, NearSome, ReachesSome, mentioning, carrying_on}

-- ---- all users of all names, which bound the walks

pub all_users : UsersByName → List (List ℕ)
all_users users = flat_map (λ e. e.1) users

used_somewhere : (users : UsersByName) (n q : List ℕ) → Contains (users_of users n) q → Contains (all_users users) q
unfolding all_users
used_somewhere [] n q c = c
used_somewhere (e ∷ es) n q c = by (is_at (name_cmp n) e.0) (used_somewhere es n q) c
  where
    by : (b : Bool) → (Contains (users_of es n) q → Contains (flat_map (λ x. x.1) es) q) → Contains (unwrap_or (cond b (Some e.1) (lookup (is_at (name_cmp n)) es)) []) q → Contains (e.1 ++ flat_map (λ x. x.1) es) q
    by true more c = Contains-append_left e.1 (flat_map (λ x. x.1) es) q c
    by false more c = Contains-append_right e.1 (flat_map (λ x. x.1) es) q (more c)

module _ (it : Indexed) where
  pub carriers_within : IsWithin (carrying_on it) (all_users it.of_values)
  carriers_within n q c = used_somewhere it.of_values n q (if_has (is_structure_in it n) (users_of it.of_values n) q c).1

  pub mentioning_within : IsWithin (mentioning it) (all_users it.parts ++ all_users it.of_values)
  mentioning_within n q c = by (Contains-append_cases (users_of it.parts n) (users_of it.of_values n) q c)
    where
      by : Contains (users_of it.parts n) q ⊎ Contains (users_of it.of_values n) q → Contains (all_users it.parts ++ all_users it.of_values) q
      by (inl p) = Contains-append_left (all_users it.parts) (all_users it.of_values) q (used_somewhere it.parts n q p)
      by (inr v) = Contains-append_right (all_users it.parts) (all_users it.of_values) q (used_somewhere it.of_values n q v)

  -- ---- who carries a name

  carries_before : {x s v : List ℕ} → uses it.of_values x s ≡ true → is_structure_in it s ≡ true → Carries it s v → Carries it x v
  carries_before used is (directly m) = onward (directly used) is m
  carries_before used is (onward r on m) = onward (carries_before used is r) on m

  leads_carries : {s u v : List ℕ} → Carries it s v → Leads (carrying_on it) s u → Carries it u v
  leads_carries r at_start = r
  leads_carries {s} r (by_step {w = x} m l) =
      let on = if_has (is_structure_in it s) (users_of it.of_values s) x m in
      leads_carries (carries_before (has-Contains x (users_of it.of_values s) on.1) on.0 r) l

  carried_led : (starts : List (List ℕ)) {u v : List ℕ} → Carries it u v → ((x : List ℕ) → uses it.of_values x v ≡ true → LedFrom (carrying_on it) starts x) → LedFrom (carrying_on it) starts u
  carried_led starts {u} (directly m) all = all u m
  carried_led starts (onward {w = w} r on m) all =
      carried_led starts r (λ x used. let led = all w m in (led.0, led.1, leads_more led.2 (has_if (is_structure_in it w) (users_of it.of_values w) x on (Contains-has x (users_of it.of_values w) used))))

  pub carriers_are : (names : List (List ℕ)) (unit : List ℕ) → LedFrom (carrying_on it) (flat_map (users_of it.of_values) names) unit ↔ CarriesSome it unit names
  carriers_are names unit = (
    λ led. let o = origin_in_flat_map (users_of it.of_values) names led.0 led.1 in
        record { name = o.origin; among = has-Contains o.origin names o.among; is = leads_carries (directly (has-Contains led.0 (users_of it.of_values o.origin) o.has)) led.2 },
    λ some. carried_led (flat_map (users_of it.of_values) names) some.is
        (λ x used. (x, contains_flat_map (users_of it.of_values) names some.name x (Contains-has some.name names some.among) (Contains-has x (users_of it.of_values some.name) used), at_start)),
  )

  -- a walk that is done has seen just these
  pub carriers_at_end : (names seen units : List (List ℕ)) → units ≡ seen → IsWalk (carrying_on it) (flat_map (users_of it.of_values) names) seen [] → (unit : List ℕ) → Contains units unit ↔ CarriesSome it unit names
  carriers_at_end names seen units is walk unit = (
    λ c. (carriers_are names unit).0 (walk.sound unit (has-Contains unit seen (subst (λ us. Contains us unit) is c))),
    λ some. subst (λ us. Contains us unit) (sym is) (Contains-has unit seen (complete_at_end (carrying_on it) (flat_map (users_of it.of_values) names) seen walk unit ((carriers_are names unit).1 some))),
  )

  -- ---- near

  module _ (names carriers : List (List ℕ)) (are : (u : List ℕ) → Contains carriers u ↔ CarriesSome it u names) where
    abbrev holders : List (List ℕ) → List (List ℕ)
    holders ns = flat_map (users_of it.parts) ns

    abbrev near_units : List (List ℕ)
    near_units = ((filter (is_indexed it) names ++ holders names) ++ holders carriers) ++ carriers

    by_itself : (u : List ℕ) → Contains (filter (is_indexed it) names) u → NearSome it u names
    by_itself u c = let p = passes_in_filter (is_indexed it) names u c in record { name = u; among = has-Contains u names p.among; is = own p.passes }

    by_part : (u : List ℕ) → Contains (holders names) u → NearSome it u names
    by_part u c = let o = origin_in_flat_map (users_of it.parts) names u c in record { name = o.origin; among = has-Contains o.origin names o.among; is = part (has-Contains u (users_of it.parts o.origin) o.has) }

    by_carrier : (u : List ℕ) → Contains (holders carriers) u → NearSome it u names
    by_carrier u c =
        let o = origin_in_flat_map (users_of it.parts) carriers u c in
        let some = (are o.origin).0 o.among in
        record { name = some.name; among = some.among; is = carried_by_part (has-Contains u (users_of it.parts o.origin) o.has) some.is }

    by_carrying : (u : List ℕ) → Contains carriers u → NearSome it u names
    by_carrying u c = let some = (are u).0 c in record { name = some.name; among = some.among; is = carried some.is }

    near_sound : (u : List ℕ) → Contains near_units u → NearSome it u names
    near_sound u c = third (Contains-append_cases ((filter (is_indexed it) names ++ holders names) ++ holders carriers) carriers u c)
      where
        first : Contains (filter (is_indexed it) names) u ⊎ Contains (holders names) u → NearSome it u names
        first (inl i) = by_itself u i
        first (inr p) = by_part u p

        second : Contains (filter (is_indexed it) names ++ holders names) u ⊎ Contains (holders carriers) u → NearSome it u names
        second (inl l) = first (Contains-append_cases (filter (is_indexed it) names) (holders names) u l)
        second (inr h) = by_carrier u h

        third : Contains ((filter (is_indexed it) names ++ holders names) ++ holders carriers) u ⊎ Contains carriers u → NearSome it u names
        third (inl l) = second (Contains-append_cases (filter (is_indexed it) names ++ holders names) (holders carriers) u l)
        third (inr r) = by_carrying u r

    in_indexed : (u : List ℕ) → Contains (filter (is_indexed it) names) u → Contains near_units u
    in_indexed u c =
        Contains-append_left ((filter (is_indexed it) names ++ holders names) ++ holders carriers) carriers u
        (Contains-append_left (filter (is_indexed it) names ++ holders names) (holders carriers) u (Contains-append_left (filter (is_indexed it) names) (holders names) u c))

    in_holders : (u : List ℕ) → Contains (holders names) u → Contains near_units u
    in_holders u c =
        Contains-append_left ((filter (is_indexed it) names ++ holders names) ++ holders carriers) carriers u
        (Contains-append_left (filter (is_indexed it) names ++ holders names) (holders carriers) u (Contains-append_right (filter (is_indexed it) names) (holders names) u c))

    in_further : (u : List ℕ) → Contains (holders carriers) u → Contains near_units u
    in_further u c =
        Contains-append_left ((filter (is_indexed it) names ++ holders names) ++ holders carriers) carriers u
        (Contains-append_right (filter (is_indexed it) names ++ holders names) (holders carriers) u c)

    near_there : (u v : List ℕ) → has_name names v ≡ true → IsNear it u v → Contains near_units u
    near_there u v among (own there) = in_indexed u (contains_filter (is_indexed it) names u (Contains-has u names among) there)
    near_there u v among (part m) = in_holders u (contains_flat_map (users_of it.parts) names v u (Contains-has v names among) (Contains-has u (users_of it.parts v) m))
    near_there u v among (carried r) =
        Contains-append_right ((filter (is_indexed it) names ++ holders names) ++ holders carriers) carriers u ((are u).1 (record { name = v; among = among; is = r }))
    near_there u v among (carried_by_part {p = p} m r) =
        in_further u (contains_flat_map (users_of it.parts) carriers p u ((are p).1 (record { name = v; among = among; is = r })) (Contains-has u (users_of it.parts p) m))

    pub near_are : (unit : List ℕ) → Contains near_units unit ↔ NearSome it unit names
    near_are unit = (near_sound unit, λ some. near_there unit some.name some.among some.is)

  -- ---- far

  is_mention : (u v : List ℕ) → Contains (mentioning it v) u → mentions it u v ≡ true
  is_mention u v c = sym (has-append (users_of it.parts v) (users_of it.of_values v) u) ∙ has-Contains u (mentioning it v) c

  mention_is : (u v : List ℕ) → mentions it u v ≡ true → Contains (mentioning it v) u
  mention_is u v m = Contains-has u (mentioning it v) (has-append (users_of it.parts v) (users_of it.of_values v) u ∙ m)

  leads_reaches : {s u v : List ℕ} → Reaches it s v → Leads (mentioning it) s u → Reaches it u v
  leads_reaches r at_start = r
  leads_reaches {s} r (by_step {w = x} m l) = leads_reaches (through (is_mention x s m) r) l

  module _ (names : List (List ℕ)) where
    abbrev starts : List (List ℕ)
    starts = flat_map (mentioning it) names

    led_by : {u v : List ℕ} → Contains names v → Reaches it u v → ((u ≡ v) × (is_indexed it u ≡ true)) ⊎ LedFrom (mentioning it) starts u
    led_by c (itself there) = inl (refl, there)
    led_by {u} {v} c (mention m) = inr (u, contains_flat_map (mentioning it) names v u c (mention_is u v m), at_start)
    led_by {u} {v} c (through {w = w} m r) = further (led_by c r)
      where
        further : ((w ≡ v) × (is_indexed it w ≡ true)) ⊎ LedFrom (mentioning it) starts w → ((u ≡ v) × (is_indexed it u ≡ true)) ⊎ LedFrom (mentioning it) starts u
        further (inl e) = inr (u, contains_flat_map (mentioning it) names v u c (subst (λ n. Contains (mentioning it n) u) e.0 (mention_is u w m)), at_start)
        further (inr led) = inr (led.0, led.1, leads_more led.2 (mention_is u w m))

    module _ (users : List (List ℕ)) (are : (u : List ℕ) → Contains users u ↔ LedFrom (mentioning it) starts u) where
      abbrev far_units : List (List ℕ)
      far_units = filter (is_indexed it) names ++ users

      far_sound : (u : List ℕ) → Contains (filter (is_indexed it) names) u ⊎ Contains users u → ReachesSome it u names
      far_sound u (inl c) = let p = passes_in_filter (is_indexed it) names u c in record { name = u; among = has-Contains u names p.among; is = itself p.passes }
      far_sound u (inr c) =
          let led = (are u).0 c in
          let o = origin_in_flat_map (mentioning it) names led.0 led.1 in
          record { name = o.origin; among = has-Contains o.origin names o.among; is = leads_reaches (mention (is_mention led.0 o.origin o.has)) led.2 }

      far_there : (u v : List ℕ) → Contains names v → ((u ≡ v) × (is_indexed it u ≡ true)) ⊎ LedFrom (mentioning it) starts u → Contains far_units u
      far_there u v c (inl e) =
          Contains-append_left (filter (is_indexed it) names) users u (contains_filter (is_indexed it) names u (subst (Contains names) (sym e.0) c) e.1)
      far_there u v c (inr led) = Contains-append_right (filter (is_indexed it) names) users u ((are u).1 led)

      pub far_are : (unit : List ℕ) → Contains far_units unit ↔ ReachesSome it unit names
      far_are unit = (
        λ c. far_sound unit (Contains-append_cases (filter (is_indexed it) names) users unit c),
        λ some. let c = Contains-has some.name names some.among in far_there unit some.name c (led_by c some.is),
      )

-- a walk that is done has seen just these
pub far_at_end : (it : Indexed) (names seen : List (List ℕ)) → IsWalk (mentioning it) (flat_map (mentioning it) names) seen [] → (unit : List ℕ) → Contains (filter (is_indexed it) names ++ seen) unit ↔ ReachesSome it unit names
far_at_end it names seen walk =
    far_are it names seen (λ u. (
      λ c. walk.sound u (has-Contains u seen c),
      λ led. Contains-has u seen (complete_at_end (mentioning it) (flat_map (mentioning it) names) seen walk u led),
    ))

-- what is listed in order is what was listed
pub in_order_are : (units found : List (List ℕ)) (unit : List ℕ) {P : Type 0} → units ≡ names_in_order found → Contains found unit ↔ P → (has_name units unit ≡ true) ↔ P
in_order_are units found unit is are = (
  λ h. are.0 (from_names found unit (Contains-has unit (names_in_order found) (sym (ap (λ us. has_name us unit) is) ∙ h))),
  λ p. ap (λ us. has_name us unit) is ∙ has-Contains unit (names_in_order found) (in_names found unit (are.1 p)),
)
