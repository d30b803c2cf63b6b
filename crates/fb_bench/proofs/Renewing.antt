-- The entries after a commit.
use Rattle.std.proofs.Common.{◌≡◌, ℕ, Bool, true, false, ◌||◌, ◌&&◌, not, List, [], ◌∷◌, map, refl, sym, ap, ◌∙◌, subst, Option, Some, None, cond}
use Rattle.std.proofs.lemmas.Cmp.{eq_by_cmp_equiv}
use Rattle.std.specs.{Map.{remove_entry}, BTreeMap.{is_at, insert_entry}, Ordering.{match_ordering}}
use Rattle.std.specs.{declared.cmp.Ordering.TheVariants.{Less, Equal, Greater}, Option.{option_map}}
use Rattle.fb_text.proofs.{Tests.{or_false, and_false, and_true}, OrderLemmas.{is_equal}}
use Rattle.fb_entries.proofs.Library.Names.{exact_name, name_total}
use Rattle.fb_entries.specs.{Library.Texts.{Texts, Held, held, text_in, Edit, Puts, Removes, unit_of, edited, all_edited}, Jobs.declared.keys.key.Key.{Key}}
use Rattle.fb_entries.specs.{Jobs.Keys.{Finding, has_key, needs, scratch}, Jobs.Reads.{is_among, Agree}, declared.entry.Entry.{Entry}}
use Rattle.fb_entries.specs.{Found.{found_in}, Marking.{value_in, waiting}}
use Rattle.fb_text.specs.Order.{name_cmp}
use Rattle.fb_history.specs.Machine.{State, after_done, reaches}
use Rattle.fb_bench.specs.Consistent.{EntryFits, IsScratch}
use Rattle.fb_history.proofs.AfterCalls.{or_parts, not_met}

-- ---- names that are not changed

put_elsewhere : (n u : List ℕ) (v : Held) (T : Texts) → is_at (name_cmp n) u ≡ false → held (insert_entry name_cmp T u v) n ≡ held T n
put_elsewhere n u v [] apart = ap (λ b. cond b (Some v) None) apart
put_elsewhere n u v (e ∷ es) apart =
    elim (name_cmp u e.0) as (λ o. name_cmp u e.0 ≡ o → held (match_ordering o ((u, v) ∷ e ∷ es) ((e.0, v) ∷ es) (e ∷ insert_entry name_cmp es u v)) n ≡ held (e ∷ es) n) [
      | Less ↦ λ _. ap (λ b. cond b (Some v) (held (e ∷ es) n)) apart
      | Equal ↦ λ same.
          let here : is_at (name_cmp n) e.0 ≡ false = subst (λ m. is_at (name_cmp n) m ≡ false) (exact_name u e.0 same) apart in
          ap (λ b. cond b (Some v) (held es n)) here ∙ sym (ap (λ b. cond b (Some e.1) (held es n)) here)
      | Greater ↦ λ _. ap (λ o. cond (is_at (name_cmp n) e.0) (Some e.1) o) (put_elsewhere n u v es apart)
    ] refl

remove_elsewhere : (n u : List ℕ) (T : Texts) → is_at (name_cmp n) u ≡ false → held (remove_entry (is_at (name_cmp u)) T) n ≡ held T n
remove_elsewhere n u [] apart = refl
remove_elsewhere n u (e ∷ es) apart =
    elim (is_at (name_cmp u) e.0) as (λ b. is_at (name_cmp u) e.0 ≡ b → held (cond b es (e ∷ remove_entry (is_at (name_cmp u)) es)) n ≡ held (e ∷ es) n) [
      | true ↦ λ at.
          let here : is_at (name_cmp n) e.0 ≡ false = subst (λ m. is_at (name_cmp n) m ≡ false) (exact_name u e.0 (is_equal _ at)) apart in
          sym (ap (λ b. cond b (Some e.1) (held es n)) here)
      | false ↦ λ _. ap (λ o. cond (is_at (name_cmp n) e.0) (Some e.1) o) (remove_elsewhere n u es apart)
    ] refl

edit_elsewhere : (n : List ℕ) (commit : ℕ) (e : Edit) (T : Texts) → is_at (name_cmp n) (unit_of e) ≡ false → held (edited commit e T) n ≡ held T n
edit_elsewhere n commit (Puts u base text) T apart = put_elsewhere n u _ T apart
edit_elsewhere n commit (Removes u base) T apart = remove_elsewhere n u T apart

-- a name that no edit is of keeps what it has
pub held_all_edited : (n : List ℕ) (commit : ℕ) (es : List Edit) (T : Texts) → is_among n (map unit_of es) ≡ false → held (all_edited commit es T) n ≡ held T n
held_all_edited n commit [] T apart = refl
held_all_edited n commit (e ∷ es) T apart =
    let parts = or_parts (is_at (name_cmp n) (unit_of e)) (is_among n (map unit_of es)) apart in
    held_all_edited n commit es (edited commit e T) parts.1 ∙ edit_elsewhere n commit e T parts.0

-- texts before and after agree on what a key needs that is not reached
pub agree_unreached : (commit : ℕ) (es : List Edit) (T : Texts) (k : Key) → reaches (map unit_of es) (all_edited commit es T) k ≡ false → Agree (all_edited commit es T) T (needs (all_edited commit es T) k)
agree_unreached commit es T k unreached n among = ap (option_map text_in) (held_all_edited n commit es T (not_met n (map unit_of es) (needs (all_edited commit es T) k) unreached among))

-- ---- names among names

flips : (a b : List ℕ) → is_at (name_cmp a) b ≡ is_at (name_cmp b) a
flips a b = (eq_by_cmp_equiv name_total).symm a b

-- ---- one entry

kept_value : (T U : Texts) (k : Key) (value : Option Finding) → scratch T k ≡ scratch U k → IsScratch T k value → IsScratch U k value
kept_value T U k None law was = tt
kept_value T U k (Some v) law was = was ∙ law

-- the law that texts which agree on a key's needs have the same value
abbrev pub ScratchLocal : Type 0
ScratchLocal = (texts others : Texts) (key : Key) → Agree texts others (needs texts key) → scratch others key ≡ scratch texts key

waits_bits : (p h r : Bool) → (not h || r) ≡ true → ((p || not h) || r) ≡ true
waits_bits true h r new = refl
waits_bits false h r new = new

out_bits : (h' h o r : Bool) → (not h || r) ≡ true → (((h' && h) && o) && not r) ≡ false
out_bits h' h o true new = and_false _
out_bits h' true o false new = cc
out_bits h' false o false new = ap (λ b. (b && o) && true) (and_false h')

module _ (commit : ℕ) (es : List Edit) (s : State) (q : Key) where
  abbrev later : Texts
  later = all_edited commit es s.units

  -- a new or a reached key
  pub waiting_fits : has_key later q ≡ true → (not (has_key s.units q) || reaches (map unit_of es) later q) ≡ true → (it : Entry) → EntryFits (after_done commit es s) q (Some (waiting it))
  waiting_fits has new it = (
    has,
    (λ i. has i && ((s.pending q || not (has_key s.units q)) || reaches (map unit_of es) later q)) ∙ waits_bits (s.pending q) (has_key s.units q) (reaches (map unit_of es) later q) new,
    out_bits (has_key later q) (has_key s.units q) (s.out q) (reaches (map unit_of es) later q) new,
    tt,
    tt,
  )

  -- a key that is not reached
  pub kept_fits : (it : Entry) → ScratchLocal → has_key later q ≡ true → reaches (map unit_of es) later q ≡ false → EntryFits s q (Some it) → EntryFits (after_done commit es s) q (Some it)
  kept_fits it law has missed fits =
      let agree = agree_unreached commit es s.units q missed in (
        has,
        (λ i. has i && ((s.pending q || not (fits.0 i)) || missed i)) ∙ or_false _ ∙ or_false _ ∙ fits.1,
        (λ i. ((has i && fits.0 i) && s.out q) && not (missed i)) ∙ and_true _ ∙ fits.2,
        kept_value s.units later q (value_in it) (law later s.units q agree) fits.3,
        kept_value s.units later q (found_in (Some it)) (law later s.units q agree) fits.4,
      )

  -- a key that the texts after the commit don't have
  pub gone_fits : has_key later q ≡ false → EntryFits (after_done commit es s) q None
  gone_fits gone = (
    gone,
    ap (λ b. b && ((s.pending q || not (has_key s.units q)) || reaches (map unit_of es) later q)) gone,
    ap (λ b. ((b && has_key s.units q) && s.out q) && not (reaches (map unit_of es) later q)) gone,
  )
