-- Near and far depend on the texts that they reach alone.
use Rattle.std.proofs.Common.{◌≡◌, ℕ, List, [], ◌∷◌, ◌++◌, ⊎_elim, sym, ap, ◌∙◌}
use Rattle.std.proofs.lemmas.List.Elements.{Contains-append_left, Contains-append_right, Contains-push_cases}
use Rattle.std.specs.{List.{Contains}, Option.{option_and_then}, FinMap.{get}}
use Rattle.fb_parse.specs.Text.Order.{names_in_order}
use Rattle.fb_parse.proofs.Text.Members.{contains_single}
use Rattle.fb_library.specs.View.{Sources, tree_of, mentions_of_tree, mentions_at, parts_at, parts_in, values_at, is_structure_at}
use Rattle.fb_library.specs.Near.{Carries, directly, onward, IsNear, own, part, carried, carried_by_part, carried_of, bases_at, near_of}
use Rattle.fb_library.specs.Local.{Agree, AgreeFar, CarriedIsLocal, NearIsLocal, FarIsLocal}
use Rattle.fb_library.specs.Rests.{Rests, itself, through, PartRests, on_itself, through_part}
use Rattle.fb_library.proofs.{CarriedLemmas.{carried_is_all, near_is_all, listed_carried}, FarLemmas.{one_in_order}}

-- ---- where two have the same text

pub same_parts : (a b : Sources) (u : List ℕ) → get a u ≡ get b u → parts_at a u ≡ parts_at b u
same_parts a b u e = ap (λ o. parts_in (option_and_then tree_of o)) e

same_structure : (a b : Sources) (u : List ℕ) → get a u ≡ get b u → is_structure_at a u ≡ is_structure_at b u
same_structure a b u e = ap (λ o. (mentions_of_tree (option_and_then tree_of o)).is_structure) e

-- ---- what is near

module _ (sources : Sources) (unit : List ℕ) where
  pub is_near : {v : List ℕ} → IsNear sources unit v → Contains (near_of sources unit) v
  is_near {v} near = ((near_is_all sources unit).1 v).1 near

  -- a unit is near itself
  pub near_unit : Contains (near_of sources unit) unit
  near_unit = is_near own

  pub near_part : (name : List ℕ) → Contains (parts_at sources unit) name → Contains (near_of sources unit) name
  near_part name m = is_near (part m)

  -- the unit and its parts, and what they carry
  pub near_base : (name : List ℕ) → Contains (bases_at sources unit) name → Contains (near_of sources unit) name
  near_base name b =
      ⊎_elim (near_part name) (λ (e : unit ≡ name). rw (← e) near_unit) (Contains-push_cases (parts_at sources unit) unit name b)

  pub near_carried : (name : List ℕ) → Contains (carried_of sources (bases_at sources unit)) name → Contains (near_of sources unit) name
  near_carried name c = listed_carried sources unit name c

  -- what the unit itself carries
  pub near_own_carried : (name : List ℕ) → Contains (carried_of sources (unit ∷ [])) name → Contains (near_of sources unit) name
  near_own_carried name c =
      let some = ((carried_is_all sources (unit ∷ [])).1 name).0 c in
      is_near (carried (rw (contains_single unit some.0 some.1) some.2))

-- ---- what is carried

module _ (a b : Sources) (units : List (List ℕ)) (agree : Agree units a b) (further : Agree (carried_of a units) a b) where
  known : {u v : List ℕ} → Contains units u → Carries a u v → get a v ≡ get b v
  known {u} {v} c r = further v (((carried_is_all a units).1 v).1 (u, c, r))

  carried_there : {u v : List ℕ} → Contains units u → Carries a u v → Carries b u v
  carried_there {u} c (directly m) = directly (rw (agree u c) at m)
  carried_there c (onward {w = w} r s m) = let same = known c r in onward (carried_there c r) (sym (same_structure a b w same) ∙ s) (rw same at m)

  -- each is carried in a, so both have the same text there
  carried_back : {u v : List ℕ} → Contains units u → Carries b u v → Carries a u v
  carried_back {u} c (directly m) = directly (rw (agree u c) m)
  carried_back c (onward {w = w} r s m) =
      let before = carried_back c r in
      let same = known c before in
      onward before (same_structure a b w same ∙ s) (rw same m)

pub carried_local : CarriedIsLocal
carried_local a b units agree further =
    one_in_order (carried_of a units) (carried_of b units) (carried_is_all a units).0 (carried_is_all b units).0
    (λ v c. let some = ((carried_is_all a units).1 v).0 c in ((carried_is_all b units).1 v).1 (some.0, some.1, carried_there a b units agree further some.1 some.2))
    (λ v c. let some = ((carried_is_all b units).1 v).0 c in ((carried_is_all a units).1 v).1 (some.0, some.1, carried_back a b units agree further some.1 some.2))

pub near_local : NearIsLocal
unfolding near_of
near_local a b unit agree =
    let bases : bases_at a unit ≡ bases_at b unit = ap (λ names. names ++ unit ∷ []) (same_parts a b unit (agree unit (near_unit a unit))) in
    let same = carried_local a b (bases_at a unit) (λ n c. agree n (near_base a unit n c)) (λ n c. agree n (near_carried a unit n c)) in
    ap (λ names. names_in_order (names ++ bases_at a unit)) same ∙ ap (λ names. names_in_order (carried_of b names ++ names)) bases

-- ---- what is far

there : (a b : Sources) {u v : List ℕ} → AgreeFar u a b → Rests a u v → Rests b u v
there a b agree itself = itself
there a b {u} agree (through m r) = through (rw (agree u itself) at m) (there a b (λ n h. agree n (through m h)) r)

back : (a b : Sources) {u v : List ℕ} → AgreeFar u a b → Rests b u v → Rests a u v
back a b agree itself = itself
back a b {u} agree (through {w = w} m r) =
    let known : Contains (mentions_at a u) w = rw (agree u itself) m in
    through known (back a b (λ n h. agree n (through known h)) r)

pub far_local : FarIsLocal
far_local a b u agree v = (there a b agree, back a b agree)

pub rests_more : {sources : Sources} {u v w : List ℕ} → Rests sources u v → Contains (mentions_at sources v) w → Rests sources u w
rests_more itself m = through m itself
rests_more (through n r) m = through n (rests_more r m)

pub rests_both : {sources : Sources} {u v w : List ℕ} → Rests sources u v → Rests sources v w → Rests sources u w
rests_both itself s = s
rests_both (through m r) s = through m (rests_both r s)

pub parts_more : {sources : Sources} {u v w : List ℕ} → PartRests sources u v → Contains (parts_at sources v) w → PartRests sources u w
parts_more on_itself m = through_part m on_itself
parts_more (through_part n r) m = through_part n (parts_more r m)

pub parts_both : {sources : Sources} {u v w : List ℕ} → PartRests sources u v → PartRests sources v w → PartRests sources u w
parts_both on_itself s = s
parts_both (through_part m r) s = through_part m (parts_both r s)

module _ (sources : Sources) where
  pub part_mention : (u v : List ℕ) → Contains (parts_at sources u) v → Contains (mentions_at sources u) v
  part_mention u v m = Contains-append_left (parts_at sources u) (values_at sources u) v m

  pub value_mention : (u v : List ℕ) → Contains (values_at sources u) v → Contains (mentions_at sources u) v
  value_mention u v m = Contains-append_right (parts_at sources u) (values_at sources u) v m

  -- parts are mentions
  pub parts_rest : {u v : List ℕ} → PartRests sources u v → Rests sources u v
  parts_rest on_itself = itself
  parts_rest {u} (through_part {w = w} m r) = through (part_mention u w m) (parts_rest r)

  carried_rests : {u v : List ℕ} → Carries sources u v → Rests sources u v
  carried_rests {u} {v} (directly m) = through (value_mention u v m) itself
  carried_rests {u} {v} (onward {w = w} r s m) = rests_more (carried_rests r) (value_mention w v m)

  -- a unit rests on all that is near it
  pub near_rests : {u v : List ℕ} → IsNear sources u v → Rests sources u v
  near_rests own = itself
  near_rests {u} {v} (part m) = through (part_mention u v m) itself
  near_rests (carried r) = carried_rests r
  near_rests {u} (carried_by_part {p = p} m r) = through (part_mention u p m) (carried_rests r)

pub near_far : (sources : Sources) (unit v : List ℕ) → Contains (near_of sources unit) v → Rests sources unit v
near_far sources unit v c = near_rests sources (((near_is_all sources unit).1 v).0 c)
