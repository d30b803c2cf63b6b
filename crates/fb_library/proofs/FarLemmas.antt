-- Two lists in order that have the same names are one; what a unit rests on is what its mentions lead to.
use Rattle.std.proofs.{Common.{◌≡◌, ℕ, true, List, [], ◌∷◌, sym, ◌∙◌}, lemmas.Bool.Decides.{same_from_decides}}
use Rattle.std.specs.{FinMap.{slice_cmp-IsAntisymmetric, nat_cmp-IsAntisymmetric}, Cmp.Lexicographic.{nat_list_cmp_total}, List.{Contains}}
use Rattle.std.specs.List.Sorted.{IsStrictlySortedBy}
use Rattle.fb_parse.specs.Text.Order.{name_cmp}
use Rattle.fb_parse.proofs.{Text.Members.{contains_here, contains_single}, Text.OrderLemmas.{in_order-same}}
use Rattle.fb_library.specs.{Local.{FarIsOneList}, Opened.{Leads, itself as at_start, through as by_step}}
use Rattle.fb_library.specs.{Rests.{Rests, itself, through, PartRests, on_itself, through_part}, Seen.{has_name}, View.{Sources, mentions_at, parts_at}}
use Rattle.fb_library.proofs.{Places.{already_in_order}, SeenLemmas.{Contains-has, has-Contains}, WalkLemmas.{IsWalk, complete_at_end}}

pub one_in_order : (names others : List (List ℕ)) → IsStrictlySortedBy name_cmp names → IsStrictlySortedBy name_cmp others → ((q : List ℕ) → Contains names q → Contains others q) → ((q : List ℕ) → Contains others q → Contains names q) → names ≡ others
one_in_order names others a b there back =
    sym (already_in_order names a)
    ∙ in_order-same name_cmp nat_list_cmp_total (slice_cmp-IsAntisymmetric nat_cmp-IsAntisymmetric) names others (λ q. same_from_decides {P = Contains names q} _ _ (Contains-has q names, has-Contains q names) (λ h. back q (Contains-has q others h), λ c. has-Contains q others (there q c)))
    ∙ already_in_order others b

pub one_list : FarIsOneList
one_list sources unit names others a b = one_in_order names others a.0 b.0 (λ q c. (b.1 q).1 ((a.1 q).0 c)) (λ q c. (a.1 q).1 ((b.1 q).0 c))

-- ---- rests, by the words of walks

pub rests_leads : {sources : Sources} {u v : List ℕ} → Rests sources u v → Leads (mentions_at sources) u v
rests_leads itself = at_start
rests_leads (through m r) = by_step m (rests_leads r)

pub leads_rests : {sources : Sources} {u v : List ℕ} → Leads (mentions_at sources) u v → Rests sources u v
leads_rests at_start = itself
leads_rests (by_step m r) = through m (leads_rests r)

pub part_rests_leads : {sources : Sources} {u v : List ℕ} → PartRests sources u v → Leads (parts_at sources) u v
part_rests_leads on_itself = at_start
part_rests_leads (through_part m r) = by_step m (part_rests_leads r)

pub leads_part_rests : {sources : Sources} {u v : List ℕ} → Leads (parts_at sources) u v → PartRests sources u v
leads_part_rests at_start = on_itself
leads_part_rests (by_step m r) = through_part m (leads_part_rests r)

-- a walk that is done has seen just what the unit rests on
pub seen_rests : {sources : Sources} {unit : List ℕ} {seen pending : List (List ℕ)} → IsWalk (mentions_at sources) (unit ∷ []) seen pending → (v : List ℕ) → has_name seen v ≡ true → Rests sources unit v
seen_rests {sources} {unit} walk v h =
    let led = walk.sound v h in
    leads_rests (rw (contains_single unit led.0 led.1) led.2)

pub rests_seen : {sources : Sources} {unit : List ℕ} {seen : List (List ℕ)} → IsWalk (mentions_at sources) (unit ∷ []) seen [] → (v : List ℕ) → Rests sources unit v → has_name seen v ≡ true
rests_seen {sources} {unit} {seen} walk v r = complete_at_end (mentions_at sources) (unit ∷ []) seen walk v (unit, contains_here unit [], rests_leads r)
