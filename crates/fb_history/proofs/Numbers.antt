-- The records by number, and their turns.
use Rattle.std.proofs.Common.{◌≡◌, ℕ, zero, suc, ◌+◌, ◌-◌, ◌<◌, ◌==◌, ◌⊎◌, inl, inr, true, List, [], ◌∷◌, ◌++◌, length, take, refl, sym, ap, ◌∙◌, subst, arith, Option, Some, None, cond, slice_get, ◌≤◌, get_or}
use Rattle.std.proofs.lemmas.Bool.Decides.{nat_tests}
use Rattle.std.proofs.{lemmas.Option.{slice_get-map, slice_get_read, slice_get_past}, lemmas.List.{map-append}, lemmas.List.Sums.{sum_by_push}}
use Rattle.std.specs.{Option.{option_map}, declared.sync.Arc.{Arc}, declared.alloc.Global.{Global}}
use Rattle.fb_history.specs.{BenchView.{Record, on_page, record_at, turns_of}, Records.{records_in}}

-- one more share is one more record
pub shares_pushed : (old new : List (Arc Record Global)) (it : Arc Record Global) → new ≡ old ++ it ∷ [] → records_in new ≡ records_in old ++ it.value ∷ []
shares_pushed old new it is = ap records_in is ∙ map-append (λ (x : Arc Record Global). x.value) old (it ∷ [])

-- the record at a place
pub record_found : (shares : List (Arc Record Global)) (place : ℕ) → slice_get (records_in shares) place ≡ option_map (λ (it : Arc Record Global). it.value) (slice_get shares place)
record_found shares place = slice_get-map (λ (it : Arc Record Global). it.value) shares place

-- the record of a number stands one place before it
pub record_before : (records : List Record) (number : ℕ) → 0 < number → record_at records number ≡ slice_get records (number - 1)
record_before records zero some = absurd (omega arith)
record_before records (suc place) some = let e : place ≡ suc place - 1 = omega arith in ap (λ p. slice_get records p) e

-- at a place of the longer list stands an earlier record, the new one, or none
abbrev AtPlace : List Record → Record → ℕ → Type 0
AtPlace records it place =
    ((slice_get (records ++ it ∷ []) place ≡ slice_get records place) × (take (suc place) (records ++ it ∷ []) ≡ take (suc place) records))
    ⊎ (((slice_get (records ++ it ∷ []) place ≡ Some it) × (take (suc place) (records ++ it ∷ []) ≡ records ++ it ∷ []))
    ⊎ (slice_get (records ++ it ∷ []) place ≡ None))

at_next : (first : Record) (records : List Record) (it : Record) (place : ℕ) → AtPlace records it place → AtPlace (first ∷ records) it (suc place)
at_next first records it place (inl (same, prefix)) = inl (same, ap (λ rs. first ∷ rs) prefix)
at_next first records it place (inr (inl (here, prefix))) = inr (inl (here, ap (λ rs. first ∷ rs) prefix))
at_next first records it place (inr (inr past)) = inr (inr past)

at_place : (records : List Record) (it : Record) (place : ℕ) → AtPlace records it place
at_place [] it zero = inr (inl (refl, refl))
at_place [] it (suc place) = inr (inr refl)
at_place (first ∷ records) it zero = inl (refl, refl)
at_place (first ∷ records) it (suc place) = at_next first records it place (at_place records it place)

own_turn : (records : List Record) (it : Record) → turns_of it.caller (records ++ it ∷ []) ≡ turns_of it.caller records + 1
own_turn records it =
    sum_by_push (λ (r : Record). cond (r.caller == it.caller) 1 0) records it
    ∙ (let same : (it.caller == it.caller) ≡ true = grind (arith, nat_tests) in ap (λ b. turns_of it.caller records + cond b 1 0) same)

-- each turn counts its caller's calls up to there, where these pages came before
abbrev pub TurnsFrom : List (ℕ × ℕ) → List Record → Type 0
TurnsFrom pages records = (place : ℕ) (it : Record) → record_at records place ≡ Some it → it.turn ≡ on_page pages it.caller + turns_of it.caller (take place records)

-- none of no records
pub turns_none : (pages : List (ℕ × ℕ)) → TurnsFrom pages []
turns_none pages zero it at = cc
turns_none pages (suc place) it at = cc

turn_at : (pages : List (ℕ × ℕ)) (records : List Record) (it : Record) → TurnsFrom pages records → it.turn ≡ on_page pages it.caller + turns_of it.caller records + 1 → (place : ℕ) (found : Record) → AtPlace records it place → slice_get (records ++ it ∷ []) place ≡ Some found → found.turn ≡ on_page pages found.caller + turns_of found.caller (take (suc place) (records ++ it ∷ []))
turn_at pages records it so_far turn place found (inl (same, prefix)) at = so_far (suc place) found (sym same ∙ at) ∙ ap (λ rs. on_page pages found.caller + turns_of found.caller rs) (sym prefix)
turn_at pages records it so_far turn place found (inr (inl (here, prefix))) at =
    let is : it ≡ found = cc in
    let own : turns_of it.caller (take (suc place) (records ++ it ∷ [])) ≡ turns_of it.caller records + 1 = ap (λ rs. turns_of it.caller rs) prefix ∙ own_turn records it in
    subst (λ r. r.turn ≡ on_page pages r.caller + turns_of r.caller (take (suc place) (records ++ it ∷ []))) is (omega (arith, turn, own))
turn_at pages records it so_far turn place found (inr (inr past)) at = cc

-- one more record with its turn
pub turns_pushed : (pages : List (ℕ × ℕ)) (records : List Record) (it : Record) → TurnsFrom pages records → it.turn ≡ on_page pages it.caller + turns_of it.caller records + 1 → TurnsFrom pages (records ++ it ∷ [])
turns_pushed pages records it so_far turn zero found at = cc
turns_pushed pages records it so_far turn (suc place) found at = turn_at pages records it so_far turn place found (at_place records it place) at

found_at : (shares : List (Arc Record Global)) (number : ℕ) (found : Option (Arc Record Global)) → 0 < number → slice_get shares (number - 1) ≡ found → option_map (λ (it : Arc Record Global). it.value) found ≡ record_at (records_in shares) number
found_at shares number found some at =
    ap (λ o. option_map (λ (it : Arc Record Global). it.value) o) (sym at) ∙ sym (record_found shares (number - 1)) ∙ sym (record_before (records_in shares) number some)

-- a share at the number's place shows its record
pub record_here : (shares : List (Arc Record Global)) (number : ℕ) (it : Arc Record Global) → 0 < number → number - 1 < length shares → it ≡ get_or shares (number - 1) it → Some it.value ≡ record_at (records_in shares) number
record_here shares number it some within here = found_at shares number (Some it) some (slice_get_read shares (length shares) (number - 1) it refl within here)

-- there is no record past the end
pub record_past : (shares : List (Arc Record Global)) (number : ℕ) → 0 < number → length shares ≤ number - 1 → None ≡ record_at (records_in shares) number
record_past shares number some past = found_at shares number None some (slice_get_past shares (number - 1) past)

-- the same of the shares
pub turns_shared : (pages : List (ℕ × ℕ)) (old new : List (Arc Record Global)) (it : Arc Record Global) → new ≡ old ++ it ∷ [] → TurnsFrom pages (records_in old) → it.value.turn ≡ on_page pages it.value.caller + turns_of it.value.caller (records_in old) + 1 → TurnsFrom pages (records_in new)
turns_shared pages old new it is so_far turn =
    subst (λ rs. TurnsFrom pages rs) (sym (shares_pushed old new it is)) (turns_pushed pages (records_in old) it.value so_far turn)
