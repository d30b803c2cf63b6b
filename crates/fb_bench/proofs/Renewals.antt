-- What is kept after a commit that is done, and after one that found no memory.
use Rattle.std.proofs.Common.{◌≡◌, ℕ, Bool, true, false, ◌||◌, ◌&&◌, not, List, map, refl, sym, ap, ◌∙◌, subst, Option, Some, None, cond, is_none}
use Rattle.fb_text.proofs.Tests.{or_true, and_false}
use Rattle.fb_entries.specs.{Keyed.{Keyed, can_take, entry_at}, Library.Texts.{Texts, Edit, unit_of, all_edited, text_in}, Jobs.declared.keys.key.Key.{Key}}
use Rattle.fb_entries.specs.{Jobs.declared.keys.key.Kind.{Kind}, Jobs.Keys.{has_key, has_kind_at}, Jobs.Reads.{is_among}, declared.entry.Entry.{Entry}}
use Rattle.fb_entries.specs.{declared.renewal.Renewal.{Renewal}, Marking.{is_of, waiting_if}}
use Rattle.fb_entries.specs.Renew.{is_own, is_fresh, is_renewed, IsCarriedOut, IsRenewal, HasRoom, IsTakenBack}
use Rattle.std.specs.Option.{option_map}
use Rattle.fb_entries.proofs.{Jobs.SameNeeds.{has_key_local}, Jobs.KindLemmas.{in_all_keys}}
use Rattle.fb_history.specs.Machine.{State, is_ready, after_done, reaches}
use Rattle.fb_bench.specs.Consistent.{EntryFits, Agrees}
use Rattle.fb_bench.proofs.Renewing.{held_all_edited, agree_unreached, ScratchLocal, waiting_fits, kept_fits, gone_fits}

-- ---- a key of no changed unit

apart_of : (commit : ℕ) (es : List Edit) (T : Texts) (kind : Kind) (unit : List ℕ) (b : Bool) → is_among unit (map unit_of es) ≡ b → is_own (map unit_of es) (record { kind = kind; unit = unit }) ≡ false → has_key (all_edited commit es T) (record { kind = kind; unit = unit }) ≡ has_key T (record { kind = kind; unit = unit })
unfolding has_key
apart_of commit es T kind unit true among apart = let own : is_own (map unit_of es) (record { kind = kind; unit = unit }) ≡ true = in_all_keys (map unit_of es) (record { kind = kind; unit = unit }) ∙ among in cc
apart_of commit es T kind unit false among apart = ap (λ o. has_kind_at kind (option_map text_in o)) (held_all_edited unit commit es T among)

-- is there after the commit where it was before
pub has_apart : (commit : ℕ) (es : List Edit) (T : Texts) (q : Key) → is_own (map unit_of es) q ≡ false → has_key (all_edited commit es T) q ≡ has_key T q
has_apart commit es T q apart = apart_of commit es T q.kind q.unit _ refl apart

-- ---- what is reached

-- a key that the texts before don't have is reached
new_reached : (commit : ℕ) (es : List Edit) (T : Texts) (q : Key) → has_key (all_edited commit es T) q ≡ true → has_key T q ≡ false → reaches (map unit_of es) (all_edited commit es T) q ≡ true
new_reached commit es T q has had = by _ refl
  where
    by : (b : Bool) → reaches (map unit_of es) (all_edited commit es T) q ≡ b → reaches (map unit_of es) (all_edited commit es T) q ≡ true
    by true reached = reached
    by false missed =
        let same : has_key T q ≡ has_key (all_edited commit es T) q = has_key_local (all_edited commit es T) T q (agree_unreached commit es T q missed) in
        let no : false ≡ true = sym had ∙ same ∙ has in cc

none_bits : (s : State) (q : Key) (o : Option Entry) → EntryFits s q o → is_none o ≡ not (has_key s.units q)
none_bits s q None fits = sym (ap (λ b. not b) fits.0)
none_bits s q (Some it) fits = sym (ap (λ b. not b) fits.0)

-- ---- one entry

abbrev fresh_of : Bool → Bool → Bool → Bool
fresh_of h' h own = (own && h') && not h

some_there : (s : State) (q : Key) (o : Option Entry) → EntryFits s q o → has_key s.units q ≡ true → is_none o ≡ false
some_there s q None fits has = let no : has_key s.units q ≡ false = fits.0 in cc
some_there s q (Some it) fits has = refl

none_there : (s : State) (q : Key) (o : Option Entry) → EntryFits s q o → has_key s.units q ≡ false → o ≡ None
none_there s q None fits none = refl
none_there s q (Some it) fits none = let has : has_key s.units q ≡ true = fits.0 in cc

module _ (law : ScratchLocal) (commit : ℕ) (es : List Edit) (s : State) (q : Key) where
  abbrev U : Texts
  U = all_edited commit es s.units

  abbrev D : List (List ℕ)
  D = map unit_of es

  renewed_fits : (o1 o3 : Option Entry) → is_none o1 ≡ false → o3 ≡ waiting_if true o1 → has_key U q ≡ true → (not (has_key s.units q) || reaches D U q) ≡ true → EntryFits (after_done commit es s) q o3
  renewed_fits None o3 there renewed has new = cc
  renewed_fits (Some it) o3 there renewed has new = subst (λ o. EntryFits (after_done commit es s) q o) (sym renewed) (waiting_fits commit es s q has new it)

  same_fits : (o : Option Entry) → EntryFits s q o → has_key U q ≡ true → has_key s.units q ≡ true → reaches D U q ≡ false → EntryFits (after_done commit es s) q o
  same_fits None fits has had missed = let no : has_key s.units q ≡ false = fits.0 in cc
  same_fits (Some it) fits has had missed = kept_fits commit es s q it law has missed fits

  -- the entry of a key, where room was made and then all was written
  each_fits : (o0 o1 o3 : Option Entry) (h' h own reach : Bool) → has_key U q ≡ h' → has_key s.units q ≡ h → reaches D U q ≡ reach → (own ≡ false → h' ≡ h) → (h' ≡ true → h ≡ false → reach ≡ true) → EntryFits s q o0 → (fresh_of h' h own ≡ false → o1 ≡ o0) → (fresh_of h' h own ≡ true → is_none o1 ≡ false) → o3 ≡ waiting_if (h' && reach) (cond (own && not h') None o1) → EntryFits (after_done commit es s) q o3
  each_fits o0 o1 o3 true true true true has had reached apart met fits others there written = renewed_fits o1 o3 (ap (λ (o : Option Entry). is_none o) (others refl) ∙ some_there s q o0 fits had) written has (ap (λ b. not (has_key s.units q) || b) reached ∙ or_true _)
  each_fits o0 o1 o3 true true true false has had reached apart met fits others there written = subst (λ o. EntryFits (after_done commit es s) q o) (sym (written ∙ others refl)) (same_fits o0 fits has had reached)
  each_fits o0 o1 o3 true true false true has had reached apart met fits others there written = renewed_fits o1 o3 (ap (λ (o : Option Entry). is_none o) (others refl) ∙ some_there s q o0 fits had) written has (ap (λ b. not (has_key s.units q) || b) reached ∙ or_true _)
  each_fits o0 o1 o3 true true false false has had reached apart met fits others there written = subst (λ o. EntryFits (after_done commit es s) q o) (sym (written ∙ others refl)) (same_fits o0 fits has had reached)
  each_fits o0 o1 o3 true false true true has had reached apart met fits others there written = renewed_fits o1 o3 (there refl) written has (ap (λ b. not b || reaches D U q) had)
  each_fits o0 o1 o3 true false true false has had reached apart met fits others there written = let no : false ≡ true = met refl refl in cc
  each_fits o0 o1 o3 true false false true has had reached apart met fits others there written = let no : true ≡ false = apart refl in cc
  each_fits o0 o1 o3 true false false false has had reached apart met fits others there written = let no : true ≡ false = apart refl in cc
  each_fits o0 o1 o3 false true true true has had reached apart met fits others there written = subst (λ o. EntryFits (after_done commit es s) q o) (sym written) (gone_fits commit es s q has)
  each_fits o0 o1 o3 false true true false has had reached apart met fits others there written = subst (λ o. EntryFits (after_done commit es s) q o) (sym written) (gone_fits commit es s q has)
  each_fits o0 o1 o3 false true false true has had reached apart met fits others there written = let no : false ≡ true = apart refl in cc
  each_fits o0 o1 o3 false true false false has had reached apart met fits others there written = let no : false ≡ true = apart refl in cc
  each_fits o0 o1 o3 false false true true has had reached apart met fits others there written = subst (λ o. EntryFits (after_done commit es s) q o) (sym written) (gone_fits commit es s q has)
  each_fits o0 o1 o3 false false true false has had reached apart met fits others there written = subst (λ o. EntryFits (after_done commit es s) q o) (sym written) (gone_fits commit es s q has)
  each_fits o0 o1 o3 false false false true has had reached apart met fits others there written = subst (λ o. EntryFits (after_done commit es s) q o) (sym (written ∙ others refl ∙ none_there s q o0 fits had)) (gone_fits commit es s q has)
  each_fits o0 o1 o3 false false false false has had reached apart met fits others there written = subst (λ o. EntryFits (after_done commit es s) q o) (sym (written ∙ others refl ∙ none_there s q o0 fits had)) (gone_fits commit es s q has)

-- ---- the marks

absent_pending : (s : State) (q : Key) (o : Option Entry) → EntryFits s q o → has_key s.units q ≡ false → s.pending q ≡ false
absent_pending s q None fits none = fits.1
absent_pending s q (Some it) fits none = let has : has_key s.units q ≡ true = fits.0 in cc

ready_bits : (h' h own reach p o : Bool) → (own ≡ false → h' ≡ h) → (h' ≡ true → h ≡ false → reach ≡ true) → (h ≡ false → p ≡ false) → cond (own && not h') false ((h' && reach) || (p && not o)) ≡ ((h' && ((p || not h) || reach)) && not (((h' && h) && o) && not reach))
ready_bits true true true true true true apart met gone = refl
ready_bits true true true true true false apart met gone = refl
ready_bits true true true true false true apart met gone = refl
ready_bits true true true true false false apart met gone = refl
ready_bits true true true false true true apart met gone = refl
ready_bits true true true false true false apart met gone = refl
ready_bits true true true false false true apart met gone = refl
ready_bits true true true false false false apart met gone = refl
ready_bits true true false true true true apart met gone = refl
ready_bits true true false true true false apart met gone = refl
ready_bits true true false true false true apart met gone = refl
ready_bits true true false true false false apart met gone = refl
ready_bits true true false false true true apart met gone = refl
ready_bits true true false false true false apart met gone = refl
ready_bits true true false false false true apart met gone = refl
ready_bits true true false false false false apart met gone = refl
ready_bits true false true true true true apart met gone = let no : true ≡ false = gone refl in cc
ready_bits true false true true true false apart met gone = let no : true ≡ false = gone refl in cc
ready_bits true false true true false true apart met gone = refl
ready_bits true false true true false false apart met gone = refl
ready_bits true false true false true true apart met gone = let no : false ≡ true = met refl refl in cc
ready_bits true false true false true false apart met gone = let no : false ≡ true = met refl refl in cc
ready_bits true false true false false true apart met gone = let no : false ≡ true = met refl refl in cc
ready_bits true false true false false false apart met gone = let no : false ≡ true = met refl refl in cc
ready_bits true false false true true true apart met gone = let no : true ≡ false = apart refl in cc
ready_bits true false false true true false apart met gone = let no : true ≡ false = apart refl in cc
ready_bits true false false true false true apart met gone = let no : true ≡ false = apart refl in cc
ready_bits true false false true false false apart met gone = let no : true ≡ false = apart refl in cc
ready_bits true false false false true true apart met gone = let no : true ≡ false = apart refl in cc
ready_bits true false false false true false apart met gone = let no : true ≡ false = apart refl in cc
ready_bits true false false false false true apart met gone = let no : true ≡ false = apart refl in cc
ready_bits true false false false false false apart met gone = let no : true ≡ false = apart refl in cc
ready_bits false true true true true true apart met gone = refl
ready_bits false true true true true false apart met gone = refl
ready_bits false true true true false true apart met gone = refl
ready_bits false true true true false false apart met gone = refl
ready_bits false true true false true true apart met gone = refl
ready_bits false true true false true false apart met gone = refl
ready_bits false true true false false true apart met gone = refl
ready_bits false true true false false false apart met gone = refl
ready_bits false true false true true true apart met gone = let no : false ≡ true = apart refl in cc
ready_bits false true false true true false apart met gone = let no : false ≡ true = apart refl in cc
ready_bits false true false true false true apart met gone = let no : false ≡ true = apart refl in cc
ready_bits false true false true false false apart met gone = let no : false ≡ true = apart refl in cc
ready_bits false true false false true true apart met gone = let no : false ≡ true = apart refl in cc
ready_bits false true false false true false apart met gone = let no : false ≡ true = apart refl in cc
ready_bits false true false false false true apart met gone = let no : false ≡ true = apart refl in cc
ready_bits false true false false false false apart met gone = let no : false ≡ true = apart refl in cc
ready_bits false false true true true true apart met gone = let no : true ≡ false = gone refl in cc
ready_bits false false true true true false apart met gone = let no : true ≡ false = gone refl in cc
ready_bits false false true true false true apart met gone = refl
ready_bits false false true true false false apart met gone = refl
ready_bits false false true false true true apart met gone = let no : true ≡ false = gone refl in cc
ready_bits false false true false true false apart met gone = let no : true ≡ false = gone refl in cc
ready_bits false false true false false true apart met gone = refl
ready_bits false false true false false false apart met gone = refl
ready_bits false false false true true true apart met gone = let no : true ≡ false = gone refl in cc
ready_bits false false false true true false apart met gone = let no : true ≡ false = gone refl in cc
ready_bits false false false true false true apart met gone = refl
ready_bits false false false true false false apart met gone = refl
ready_bits false false false false true true apart met gone = let no : true ≡ false = gone refl in cc
ready_bits false false false false true false apart met gone = let no : true ≡ false = gone refl in cc
ready_bits false false false false false true apart met gone = refl
ready_bits false false false false false false apart met gone = refl

-- a key that joins where it is not there, among those that are there
joined_bits : (r was : Bool) → ((r && not was) || was) ≡ (r || was)
joined_bits true true = refl
joined_bits true false = refl
joined_bits false was = refl

-- ---- all of it

module _ (law : ScratchLocal) (commits : ℕ) (es : List Edit) (T : Texts) (s : State) (it : Renewal) where
  module _ (commit : ℕ) (old room new : Keyed) where
    abbrev Done : Type 0
    Done = Agrees (all_edited commit es s.units) commit new (after_done commit es s)

    module _ (agrees : Agrees T commits old s) (is : IsRenewal (all_edited commit es s.units) (map unit_of es) old it) (made : HasRoom it old room) (q : Key) where
      abbrev units : Texts
      units = all_edited commit es s.units

      fresh_is : is_fresh units (map unit_of es) old q ≡ fresh_of (has_key units q) (has_key s.units q) (is_own (map unit_of es) q)
      fresh_is = ap (λ b. (is_own (map unit_of es) q && has_key units q) && b) (none_bits s q (entry_at old q) (agrees.each q))

      met : has_key units q ≡ true → has_key s.units q ≡ false → reaches (map unit_of es) units q ≡ true
      met = new_reached commit es s.units q

      done_entry : entry_at new q ≡ waiting_if (is_of q it.renewed.items) (cond (is_of q it.gone.items) None (entry_at room q)) → EntryFits (after_done commit es s) q (entry_at new q)
      done_entry written =
          each_fits law commit es s q (entry_at old q) (entry_at room q) (entry_at new q) (has_key units q) (has_key s.units q) (is_own (map unit_of es) q) (reaches (map unit_of es) units q) refl refl refl (has_apart commit es s.units q) met (agrees.each q)
          (λ none. made.others q (is.fresh_are q ∙ fresh_is ∙ none))
          (λ some. made.there q (is.fresh_are q ∙ fresh_is ∙ some))
          (written ∙ (λ i. waiting_if (is.renewed_are q i) (cond (is.gone_are q i) None (entry_at room q))))

      done_ready : can_take new q ≡ cond (is_of q it.gone.items) false (can_take room q) → can_take new q ≡ is_ready (after_done commit es s) q
      done_ready left =
          left
          ∙ (λ i. cond (is.gone_are q i) false ((made.readies q ∙ ap (λ b. b || can_take old q) (is.unready_are q) ∙ joined_bits (is_renewed units (map unit_of es) q) (can_take old q)) i))
          ∙ (λ i. cond (is_own (map unit_of es) q && not (has_key units q)) false (is_renewed units (map unit_of es) q || agrees.ready_are q i))
          ∙ ready_bits (has_key units q) (has_key s.units q) (is_own (map unit_of es) q) (reaches (map unit_of es) units q) (s.pending q) (s.out q) (has_apart commit es s.units q) met (absent_pending s q (entry_at old q) (agrees.each q))

    -- what is kept agrees with the state after the commit
    pub agrees_done : Agrees T commits old s → IsRenewal (all_edited commit es s.units) (map unit_of es) old it → HasRoom it old room → IsCarriedOut it room new → Done
    agrees_done agrees is made done = record {
      units_are = refl;
      commits_are = refl;
      each = λ q. done_entry agrees is made q (done.entries q);
      ready_are = λ q. done_ready agrees is made q (done.readies q);
    }

-- ---- where there was no memory

back_entry : (x b : Bool) (o : Option Entry) → b ≡ (x && is_none o) → cond b None o ≡ o
back_entry x true None is = refl
back_entry x false None is = refl
back_entry x true (Some it) is = let no : (x && false) ≡ false = and_false x in cc
back_entry x false (Some it) is = refl

back_mark : (r b was : Bool) → b ≡ (r && not was) → cond b false was ≡ was
back_mark r true true is = let no : (r && false) ≡ false = and_false r in cc
back_mark r true false is = refl
back_mark r false was is = refl

-- all is as it was
pub agrees_back : (T U : Texts) (commits : ℕ) (names : List (List ℕ)) (old new : Keyed) (s : State) (it : Renewal) → Agrees T commits old s → IsRenewal U names old it → IsTakenBack it old new → Agrees T commits new s
agrees_back T U commits names old new s it agrees is back = record {
  units_are = agrees.units_are;
  commits_are = agrees.commits_are;
  each = λ q. subst (λ o. EntryFits s q o) (sym (back.entries q ∙ back_entry (is_own names q && has_key U q) (is_of q it.fresh.items) (entry_at old q) (is.fresh_are q))) (agrees.each q);
  ready_are = λ q. back.readies q ∙ back_mark (is_renewed U names q) (is_of q it.unready.items) (can_take old q) (is.unready_are q) ∙ agrees.ready_are q;
}
