-- The keys that have entries are those of the texts, in order, and as many of the entries have no value as keys wait.
use Rattle.std.proofs.Common.{◌≡◌, ℕ, ◌+◌, Bool, true, false, List, [], ◌∷◌, All, filter, get_or, map, refl, sym, ap, subst, ◌∙◌, Option, Some, None, is_some, cond, count_by}
use Rattle.std.proofs.lemmas.Option.{slice_get-get_or}
use Rattle.std.proofs.{lemmas.List.Elements.{All-head, All-tail}, lemmas.List.Sums.{sum_by-cons}, lemmas.Map.Entries.{lookup_from_place}}
use Rattle.std.proofs.{lemmas.Map.Keys.{IsDistinct-from_sorted}, lemmas.Cmp.{eq_by_cmp_equiv}, lemmas.Map.Made.{is_some-lookup}}
use Rattle.std.specs.{BTreeMap.{is_at}, BTreeSet.{insert_key}, List.Sorted.{IsStrictlySortedBy}, Map.{keys_of as keys_in, values_of}, Ordering.{match_ordering}}
use Rattle.fb_text.specs.Order.{in_order}
use Rattle.fb_text.proofs.OrderLemmas.{in_order-same}
use Rattle.fb_entries.specs.{Keyed.{Keyed, entry_at}, Library.Texts.{Texts}, Jobs.declared.keys.key.Key.{Key}, Jobs.Keys.{has_key}}
use Rattle.fb_entries.specs.{Jobs.KeyOrder.{key_cmp, key_cmp_total}, declared.entry.Entry.{Entry}, Marking.{is_handed_out, is_of, is_unkept, keys_with}}
use Rattle.fb_history.specs.{Machine.{State, keys_of}, BenchView.{BenchView, IsOrigin, state_of}}
use Rattle.fb_bench.specs.Consistent.{EntryFits, Agrees}
use Rattle.fb_entries.proofs.Jobs.Order.{exact_key}
use Rattle.fb_history.proofs.{Least.{of_keys}, Sorted.{keys_rise}}

-- ---- two rising lists with the same keys are the same

already_in_order : (ks : List Key) → IsStrictlySortedBy key_cmp ks → in_order key_cmp ks ≡ ks
unfolding IsStrictlySortedBy
already_in_order [] rise = refl
already_in_order (k ∷ []) rise = refl
already_in_order (k ∷ l ∷ ks) rise =
    ap (λ xs. insert_key key_cmp xs k) (already_in_order (l ∷ ks) rise.1) ∙ ap (λ r. match_ordering r (k ∷ l ∷ ks) (l ∷ ks) (l ∷ insert_key key_cmp ks k)) rise.0.0

pub same_rising : (ks ls : List Key) → IsStrictlySortedBy key_cmp ks → IsStrictlySortedBy key_cmp ls → ((q : Key) → is_of q ks ≡ is_of q ls) → ks ≡ ls
same_rising ks ls rise rise' same = sym (already_in_order ks rise) ∙ in_order-same key_cmp key_cmp_total exact_key ks ls same ∙ already_in_order ls rise'

-- ---- as many values pass as keys do

counts : (r : Key → Bool) (p : Entry → Bool) (es : List (Key × Entry)) → All (λ (e : Key × Entry). r e.0 ≡ p e.1) es → count_by p (values_of es) ≡ count_by r (keys_in es)
counts r p [] each = refl
counts r p (e ∷ es) each =
    sum_by-cons (λ v. cond (p v) 1 0) e.1 (values_of es)
    ∙ (λ i. cond (sym (All-head (λ (e : Key × Entry). r e.0 ≡ p e.1) e es each) i) 1 0 + counts r p es (All-tail (λ (e : Key × Entry). r e.0 ≡ p e.1) e es each) i)
    ∙ sym (sum_by-cons (λ k. cond (r k) 1 0) e.0 (keys_in es))

-- the keys whose entries pass are those that pass
listed : (r : Key → Bool) (p : Entry → Bool) (es : List (Key × Entry)) → All (λ (e : Key × Entry). r e.0 ≡ p e.1) es → map (λ (e : Key × Entry). e.0) (filter (λ (e : Key × Entry). p e.1) es) ≡ filter r (keys_in es)
listed r p [] each = refl
listed r p (e ∷ es) each =
    let here : r e.0 ≡ p e.1 = All-head (λ (e : Key × Entry). r e.0 ≡ p e.1) e es each in
    let rest = listed r p es (All-tail (λ (e : Key × Entry). r e.0 ≡ p e.1) e es each) in
    elim (p e.1) as (λ b. r e.0 ≡ b → map (λ (e : Key × Entry). e.0) (cond b (e ∷ filter (λ (e : Key × Entry). p e.1) es) (filter (λ (e : Key × Entry). p e.1) es)) ≡ cond (r e.0) (e.0 ∷ filter r (keys_in es)) (filter r (keys_in es))) [
      | true ↦ λ is. ap (λ ks. e.0 ∷ ks) rest ∙ ap (λ b. cond b (e.0 ∷ filter r (keys_in es)) (filter r (keys_in es))) (sym is)
      | false ↦ λ is. rest ∙ ap (λ b. cond b (e.0 ∷ filter r (keys_in es)) (filter r (keys_in es))) (sym is)
    ] here

-- ---- the keys that have entries

has_entry : (s : State) (q : Key) (o : Option Entry) → EntryFits s q o → is_some o ≡ has_key s.units q
has_entry s q None fits = sym fits.0
has_entry s q (Some it) fits = sym fits.0

module _ (bench : BenchView) (begins : IsOrigin bench.origin) (T : Texts) (commits : ℕ) (entries : Keyed) (agrees : Agrees T commits entries (state_of bench)) (rise : IsStrictlySortedBy key_cmp (keys_in entries.entries)) where
  -- they are those of the texts, in order
  pub keys_are : keys_in entries.entries ≡ keys_of (state_of bench).units
  keys_are =
      same_rising (keys_in entries.entries) (keys_of (state_of bench).units) rise (keys_rise bench begins)
      (λ q. sym (is_some-lookup (is_at (key_cmp q)) entries.entries) ∙ has_entry (state_of bench) q (entry_at entries q) (agrees.each q) ∙ sym (of_keys (state_of bench).units q))

  -- a key waits exactly where its entry has no value
  unkept : All (λ (e : Key × Entry). (state_of bench).pending e.0 ≡ is_unkept e.1) entries.entries
  unkept i d below =
      let e = get_or entries.entries i d in
      let at : entry_at entries e.0 ≡ Some e.1 = lookup_from_place (eq_by_cmp_equiv key_cmp_total) entries.entries i e.0 e.1 (IsDistinct-from_sorted key_cmp _ rise) (slice_get-get_or entries.entries i d below) in
      let fits : EntryFits (state_of bench) e.0 (Some e.1) = subst (λ o. EntryFits (state_of bench) e.0 o) at (agrees.each e.0) in
      fits.1

  -- as many entries have no value as keys wait
  pub pending_are : count_by is_unkept (values_of entries.entries) ≡ count_by (state_of bench).pending (keys_of (state_of bench).units)
  pending_are = counts (state_of bench).pending is_unkept entries.entries unkept ∙ ap (count_by (state_of bench).pending) keys_are

  -- the pending keys are those whose entries have no value
  pub pending_listed : keys_with is_unkept entries.entries ≡ filter (state_of bench).pending (keys_of (state_of bench).units)
  pending_listed = listed (state_of bench).pending is_unkept entries.entries unkept ∙ ap (filter (state_of bench).pending) keys_are

  handed : All (λ (e : Key × Entry). (state_of bench).out e.0 ≡ is_handed_out e.1) entries.entries
  handed i d below =
      let e = get_or entries.entries i d in
      let at : entry_at entries e.0 ≡ Some e.1 = lookup_from_place (eq_by_cmp_equiv key_cmp_total) entries.entries i e.0 e.1 (IsDistinct-from_sorted key_cmp _ rise) (slice_get-get_or entries.entries i d below) in
      let fits : EntryFits (state_of bench) e.0 (Some e.1) = subst (λ o. EntryFits (state_of bench) e.0 o) at (agrees.each e.0) in
      fits.2

  -- the keys that are handed out are those whose entries say so
  pub out_listed : keys_with is_handed_out entries.entries ≡ filter (state_of bench).out (keys_of (state_of bench).units)
  out_listed = listed (state_of bench).out is_handed_out entries.entries handed ∙ ap (filter (state_of bench).out) keys_are
