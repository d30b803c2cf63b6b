-- What opening finds is all that a unit rests on.
use Rattle.std.proofs.Common.{ℕ, List, [], ◌∷◌, refl, sym, subst}
use Rattle.std.specs.Prelude.{Contains, ◌↔◌}
use Rattle.fb_types.specs.{Library.View.{Sources, mentions_at, mentions_in, parts_at, parts_in}, Library.Rests.{PartRests, itself}}
use Rattle.fb_types.specs.{Library.Near.{in_all_trees}, Library.Opened.{Leads}}
use Rattle.fb_types.proofs.{Library.FarLemmas.{leads_part_rests, leads_rests, one_list, part_rests_leads, rests_leads}, Library.Locality.{far_local}}
use Rattle.fb_types.proofs.{Library.Opening.{led_from_is_all}, Library.WalkLemmas.{mentioned_somewhere}, Text.Members.{contains_here, contains_single}}
use Rattle.fb_flatten.specs.Far.{far_of, part_far_of, FarIsAll, FarOfIsLocal}

pub far_is_all : FarIsAll
unfolding far_of
far_is_all sources unit =
    let all = led_from_is_all (mentions_at sources) (in_all_trees mentions_in sources) (unit ∷ []) (λ n q c. mentioned_somewhere mentions_in refl sources n q c) in (
      all.0,
      λ v. (
        λ c. let led = (all.1 v).0 c in leads_rests (subst (λ u. Leads (mentions_at sources) u v) (sym (contains_single unit led.0 led.1)) led.2),
        λ r. (all.1 v).1 (unit, contains_here unit [], rests_leads r),
      ),
    )

pub part_far_is_all : (sources : Sources) (unit v : List ℕ) → Contains (part_far_of sources unit) v ↔ PartRests sources unit v
unfolding part_far_of
part_far_is_all sources unit v =
    let all = led_from_is_all (parts_at sources) (in_all_trees parts_in sources) (unit ∷ []) (λ n q c. mentioned_somewhere parts_in refl sources n q c) in (
      λ c. let led = (all.1 v).0 c in leads_part_rests (subst (λ u. Leads (parts_at sources) u v) (sym (contains_single unit led.0 led.1)) led.2),
      λ r. (all.1 v).1 (unit, contains_here unit [], part_rests_leads r),
    )

-- a unit rests on itself
pub far_unit : (sources : Sources) (unit : List ℕ) → Contains (far_of sources unit) unit
far_unit sources unit = ((far_is_all sources unit).1 unit).1 itself

-- what the unit rests on in one of them it rests on in the other
pub far_of_local : FarOfIsLocal
far_of_local a b unit agree =
    one_list b unit (far_of a unit) (far_of b unit) (
      (far_is_all a unit).0,
      λ v. (
        λ c. (far_local a b unit agree v).0 (((far_is_all a unit).1 v).0 c),
        λ r. ((far_is_all a unit).1 v).1 ((far_local a b unit agree v).1 r),
      ),
    ) (far_is_all b unit)
