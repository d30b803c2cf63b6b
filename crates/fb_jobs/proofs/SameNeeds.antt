-- Texts that agree on what a key needs have the same needs and the same value for it.
use Rattle.std.proofs.{Common.{◌≡◌, ℕ, true, List, refl, sym, ap, ◌∙◌}, lemmas.Cmp.{tied_itself}}
use Rattle.std.specs.{List.Sorted.{IsStrictlySortedBy}, BTreeMap.{is_at}, FinMap.{get}, Ordering.{is_eq}}
use Rattle.fb_text.specs.Order.{name_cmp}
use Rattle.fb_text.proofs.OrderLemmas.{is_equal}
use Rattle.fb_deploy.specs.{Library.Texts.{Texts, sources_of}, Library.View.{Sources}, Library.Near.{near_of}, Flatten.Far.{far_of}}
use Rattle.fb_deploy.proofs.{Library.CarriedLemmas.{near_is_all}, Library.Names.{name_total, exact_name}, Library.Sources.{get_source}}
use Rattle.fb_deploy.proofs.{Library.WalkLemmas.{has-Contains}, Library.Locality.{near_unit, near_local}, Faults.Locality.{faults_local}}
use Rattle.fb_deploy.proofs.{Flatten.FarNames.{far_is_all, far_of_local, far_unit}, Flatten.ComputedNets.{net_at_local}, ComputedPlans.{plan_at_local}}
use Rattle.fb_deploy.specs.Library.Local as local
use Rattle.fb_jobs.specs.{declared.keys.key.Kind.{Kind}, declared.keys.key.Kind.TheVariants.{Faults, Net, Deploy}, declared.keys.key.Key.{Key}}
use Rattle.fb_jobs.specs.{Keys.{needs, needs_of, has_key, has_kind_at, scratch, scratch_of, net_finding, plan_finding, FaultsFound}, Reads.{is_among, Agree}}

pub at_itself : (n : List ℕ) → is_at (name_cmp n) n ≡ true
at_itself n = ap is_eq (tied_itself name_total n)

pub same_at : (n m : List ℕ) → is_at (name_cmp n) m ≡ true → n ≡ m
same_at n m e = exact_name n m (is_equal (name_cmp n m) e)

-- texts that agree on some names have the same sources under them
same_sources : (T T' : Texts) (names : List (List ℕ)) → Agree T T' names → local.Agree names (sources_of T) (sources_of T')
same_sources T T' names agree n among = get_source T n ∙ agree n (has-Contains n names among) ∙ sym (get_source T' n)

unit_of_kind : (T : Texts) (kind : Kind) (u : List ℕ) → is_among u (needs_of kind (sources_of T) u) ≡ true
unit_of_kind T Faults u = has-Contains u (near_of (sources_of T) u) (near_unit (sources_of T) u)
unit_of_kind T Net u = has-Contains u (far_of (sources_of T) u) (far_unit (sources_of T) u)
unit_of_kind T Deploy u = has-Contains u (far_of (sources_of T) u) (far_unit (sources_of T) u)

-- a key needs its own unit
pub unit_needed : (T : Texts) (k : Key) → is_among k.unit (needs T k) ≡ true
unfolding needs
unit_needed T k = unit_of_kind T k.kind k.unit

-- texts that agree on all that a unit rests on
agree_far : (T T' : Texts) (u : List ℕ) → Agree T T' (far_of (sources_of T) u) → local.AgreeFar u (sources_of T) (sources_of T')
agree_far T T' u agree n r =
    same_sources T T' (far_of (sources_of T) u) agree n (((far_is_all (sources_of T) u).1 n).1 r)

same_needs : (T T' : Texts) (kind : Kind) (u : List ℕ) → Agree T T' (needs_of kind (sources_of T) u) → needs_of kind (sources_of T') u ≡ needs_of kind (sources_of T) u
same_needs T T' Faults u agree = sym (near_local (sources_of T) (sources_of T') u (same_sources T T' (near_of (sources_of T) u) agree))
same_needs T T' Net u agree = sym (far_of_local (sources_of T) (sources_of T') u (agree_far T T' u agree))
same_needs T T' Deploy u agree = sym (far_of_local (sources_of T) (sources_of T') u (agree_far T T' u agree))

pub needs_local : (T T' : Texts) (k : Key) → Agree T T' (needs T k) → needs T' k ≡ needs T k
unfolding needs
needs_local T T' k agree = same_needs T T' k.kind k.unit agree

pub has_key_local : (T T' : Texts) (k : Key) → Agree T T' (needs T k) → has_key T' k ≡ has_key T k
unfolding has_key
has_key_local T T' k agree = ap (λ o. has_kind_at k.kind o) (sym (agree k.unit (unit_needed T k)))

same_scratch : (T T' : Texts) (kind : Kind) (u : List ℕ) → Agree T T' (needs_of kind (sources_of T) u) → scratch_of kind (sources_of T') u ≡ scratch_of kind (sources_of T) u
same_scratch T T' Faults u agree =
    ap FaultsFound (sym (faults_local (sources_of T) (sources_of T') u (same_sources T T' (near_of (sources_of T) u) agree)))
same_scratch T T' Net u agree = ap net_finding (sym (net_at_local (sources_of T) (sources_of T') u (agree_far T T' u agree)))
same_scratch T T' Deploy u agree = ap plan_finding (sym (plan_at_local (sources_of T) (sources_of T') u (agree_far T T' u agree)))

pub scratch_local : (T T' : Texts) (k : Key) → Agree T T' (needs T k) → scratch T' k ≡ scratch T k
unfolding needs scratch
scratch_local T T' k agree = same_scratch T T' k.kind k.unit agree

needs_of_rise : (kind : Kind) (sources : Sources) (u : List ℕ) → IsStrictlySortedBy name_cmp (needs_of kind sources u)
needs_of_rise Faults sources u = (near_is_all sources u).0
needs_of_rise Net sources u = (far_is_all sources u).0
needs_of_rise Deploy sources u = (far_is_all sources u).0

-- what a key needs stands in order
pub needs_rise : (T : Texts) (k : Key) → IsStrictlySortedBy name_cmp (needs T k)
unfolding needs
needs_rise T k = needs_of_rise k.kind (sources_of T) k.unit

-- a key that is there has a kind that the text of its unit has
pub kind_there : (T : Texts) (k : Key) → has_key T k ≡ true → has_kind_at k.kind (get (sources_of T) k.unit) ≡ true
unfolding has_key
kind_there T k has = ap (has_kind_at k.kind) (get_source T k.unit) ∙ has

pub scratch_is : (T : Texts) (k : Key) → scratch T k ≡ scratch_of k.kind (sources_of T) k.unit
unfolding scratch
scratch_is T k = refl
