-- Opening names again and again finds all to which they lead.
use Rattle.std.proofs.Common.{ℕ, zero, suc, ◌≤◌, List, ◌++◌, length, ◌⊎◌, inl, inr, ⊎_elim, arith}
use Rattle.std.proofs.lemmas.Bool.{cases_lt, true_from_ne_false}
use Rattle.std.proofs.lemmas.List.Elements.{Contains-append_left, Contains-append_right, Contains-append_cases}
use Rattle.std.specs.{List.{Contains, flat_map}, List.Sorted.{IsStrictlySortedBy}, Cmp.Lexicographic.{nat_list_cmp_total}}
use Rattle.std.specs.FinMap.{slice_cmp-IsAntisymmetric, nat_cmp-IsAntisymmetric}
use Rattle.fb_parse.proofs.{Text.OrderLemmas.{in_order-members, in_order-sorted}, Text.Members.{ComesThrough, contains_flat_map, origin_in_flat_map}}
use Rattle.fb_parse.specs.Text.Order.{name_cmp, names_in_order}
use Rattle.fb_library.specs.{Seen.{unseen}, Opened.{Leads, itself, through, LedFrom, opened, opened_times, IsWithin, led_from, AreLedFrom}}
use Rattle.fb_library.proofs.SeenLemmas.{Contains-has, has-Contains, Grows, one_fewer, some_unseen, all_unseen}

pub leads_more : {next : List ℕ → List (List ℕ)} {u v w : List ℕ} → Leads next u v → Contains (next v) w → Leads next u w
leads_more itself m = through m itself
leads_more (through n r) m = through n (leads_more r m)

-- in order and back
pub in_names : (names : List (List ℕ)) (q : List ℕ) → Contains names q → Contains (names_in_order names) q
in_names names q c = (in_order-members name_cmp nat_list_cmp_total (slice_cmp-IsAntisymmetric nat_cmp-IsAntisymmetric) names q).1 c

pub from_names : (names : List (List ℕ)) (q : List ℕ) → Contains (names_in_order names) q → Contains names q
from_names names q c = (in_order-members name_cmp nat_list_cmp_total (slice_cmp-IsAntisymmetric nat_cmp-IsAntisymmetric) names q).0 c

-- ---- a step

module _ (next : List ℕ → List (List ℕ)) (all : List (List ℕ)) (within : IsWithin next all) where
  opened_has : (names : List (List ℕ)) (q : List ℕ) → Contains names q → Contains (opened next names) q
  opened_has names q c = in_names (flat_map next names ++ names) q (Contains-append_right (flat_map next names) names q c)

  opened_next : (names : List (List ℕ)) (n q : List ℕ) → Contains names n → Contains (next n) q → Contains (opened next names) q
  opened_next names n q c m = in_names (flat_map next names ++ names) q (Contains-append_left (flat_map next names) names q (contains_flat_map next names n q c m))

  -- a name that is there after a step was there, or is next to one
  opened_only : (names : List (List ℕ)) (q : List ℕ) → Contains (opened next names) q → ComesThrough next names q ⊎ Contains names q
  opened_only names q c =
      ⊎_elim (λ m. inl (origin_in_flat_map next names q m)) (λ h. inr h) (Contains-append_cases (flat_map next names) names q (from_names (flat_map next names ++ names) q c))

  -- each name is there with all that is next to it
  abbrev IsClosed : List (List ℕ) → Type 0
  IsClosed names = (n q : List ℕ) → Contains names n → Contains (next n) q → Contains names q

  opened_closed : (names : List (List ℕ)) → IsClosed names → IsClosed (opened next names)
  opened_closed names closed n q c m =
      opened_has names q (closed n q (⊎_elim (λ (i : ComesThrough next names n). closed i.origin n i.among i.has) (λ h. h) (opened_only names n c)) m)

  -- what a step keeps is there after all steps
  at_end : (P : List (List ℕ) → Type 0) → ((names : List (List ℕ)) → P names → P (opened next names)) → (times : ℕ) (names : List (List ℕ)) → P names → P (opened_times times next names)
  at_end P step zero names p = p
  at_end P step (suc times) names p = at_end P step times (opened next names) (step names p)

  grows : (names : List (List ℕ)) → Grows names (opened next names)
  grows names q h = has-Contains q (opened next names) (opened_has names q (Contains-has q names h))

  -- where a step finds nothing new, there is nothing more
  closed_if_none : (names : List (List ℕ)) → unseen names all ≤ unseen (opened next names) all → IsClosed names
  closed_if_none names le n q c m =
      Contains-has q names (true_from_ne_false _ (λ f.
      let there = has-Contains q (opened next names) (opened_next names n q c m) in
      omega (arith, le, one_fewer names (opened next names) q f there (grows names) all (has-Contains q all (within n q m)))))

  closed_at_end : (times : ℕ) (names : List (List ℕ)) → unseen names all ≤ times → IsClosed (opened_times times next names)
  closed_at_end zero names le =
      λ n q c m. Contains-has q names (true_from_ne_false _ (λ f. omega (arith, le, some_unseen names all q f (has-Contains q all (within n q m)))))
  closed_at_end (suc times) names le =
      ⊎_elim
      (λ less. closed_at_end times (opened next names) (omega (arith, less, le)))
      (λ none. at_end IsClosed opened_closed times (opened next names) (opened_closed names (closed_if_none names none)))
      (cases_lt (unseen (opened next names) all) (unseen names all))

  opened_sound : (starts names : List (List ℕ)) → ((q : List ℕ) → Contains names q → LedFrom next starts q) → (q : List ℕ) → Contains (opened next names) q → LedFrom next starts q
  opened_sound starts names sound q c =
      ⊎_elim (λ (i : ComesThrough next names q). let from = sound i.origin i.among in (from.0, from.1, leads_more from.2 i.has)) (sound q) (opened_only names q c)

  reached : (names : List (List ℕ)) → IsClosed names → {u v : List ℕ} → Contains names u → Leads next u v → Contains names v
  reached names closed c itself = c
  reached names closed {u} c (through {w = w} m r) = reached names closed (closed u w c m) r

pub led_from_is_all : (next : List ℕ → List (List ℕ)) (all starts : List (List ℕ)) → IsWithin next all → AreLedFrom next starts (led_from all next starts)
unfolding led_from
led_from_is_all next all starts within = (
  at_end next all within (IsStrictlySortedBy name_cmp) (λ names s. in_order-sorted name_cmp nat_list_cmp_total (flat_map next names ++ names)) (length all) (names_in_order starts) (in_order-sorted name_cmp nat_list_cmp_total starts),
  λ v. (
    at_end next all within (λ names. (q : List ℕ) → Contains names q → LedFrom next starts q) (opened_sound next all within starts) (length all) (names_in_order starts) (λ q c. (q, from_names starts q c, itself)) v,
    λ led. reached next all within (opened_times (length all) next (names_in_order starts))
        (closed_at_end next all within (length all) (names_in_order starts) (all_unseen (names_in_order starts) all))
        (at_end next all within (λ names. Contains names led.0) (λ names c. opened_has next all within names led.0 c) (length all) (names_in_order starts) (in_names starts led.0 led.1)) led.2,
  ),
)
