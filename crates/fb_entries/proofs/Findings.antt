-- What is found before anything is changed, and room that is taken back.
use Rattle.std.proofs.Common.{◌≡◌, ◌↔◌, ℕ, Bool, true, false, ◌||◌, ◌&&◌, not, List, filter, refl, sym, ap, ◌∙◌, Option, None, cond, is_none}
use Rattle.fb_text.proofs.Tests.{and_false}
use Rattle.fb_index.specs.{Library.Texts.{Texts}, Indexed.{Indexed}}
use Rattle.fb_jobs.specs.{declared.keys.key.Key.{Key}, Keys.{has_key}, Kinds.{all_keys}, Reach.{reaches}}
use Rattle.fb_entries.specs.{Keyed.{Keyed, can_take, entry_at}, declared.entry.Entry.{Entry}, declared.renewal.Renewal.{Renewal}, Marking.{is_of}}
use Rattle.fb_entries.specs.{Renew.{is_own, is_renewed, IsRenewal, HasRoom, IsTakenBack}, Indexed.{IsIndexOf, IsReached}}
use Rattle.fb_jobs.proofs.Members.{of_filtered}
use Rattle.fb_entries.proofs.Reached.{reached_by}

same_truth : (a b : Bool) → (a ≡ true → b ≡ true) → (b ≡ true → a ≡ true) → a ≡ b
same_truth true b there back = sym (there refl)
same_truth false true there back = back refl
same_truth false false there back = refl

and_found : (a h r : Bool) → (h ≡ true → a ≡ r) → (a && h) ≡ (h && r)
and_found true true r same = same refl
and_found false true r same = same refl
and_found a false r same = and_false a

module _ (U : Texts) (index : Indexed) (names : List (List ℕ)) (old : Keyed) (it : Renewal) (own present reached : List Key) where
  pub found : IsIndexOf U index → own ≡ all_keys names → present ≡ filter (has_key U) own → it.fresh.items ≡ filter (λ k. is_none (entry_at old k)) present → it.gone.items ≡ filter (λ k. not (has_key U k)) own → ((q : Key) → (is_of q reached ≡ true) ↔ IsReached index names q.kind q.unit) → it.renewed.items ≡ filter (has_key U) reached → it.unready.items ≡ filter (λ k. not (can_take old k)) it.renewed.items → IsRenewal U names old it
  found indexed own_is present_is fresh_is gone_is reached_is renewed_is unready_is =
      let owns : (q : Key) → is_of q own ≡ is_own names q = λ q. ap (λ ks. is_of q ks) own_is in
      let alls : (q : Key) → is_of q it.renewed.items ≡ is_renewed U names q = λ q.
      ap (λ ks. is_of q ks) renewed_is ∙ of_filtered (has_key U) q reached
      ∙ and_found (is_of q reached) (has_key U q) (reaches names U q)
      (λ has.
      same_truth (is_of q reached) (reaches names U q)
      (λ h. (reached_by U index indexed q names has).1 ((reached_is q).0 h))
      (λ h. (reached_is q).1 ((reached_by U index indexed q names has).0 h))) in
      record {
        fresh_are = λ q.
            ap (λ ks. is_of q ks) fresh_is ∙ of_filtered (λ k. is_none (entry_at old k)) q present
            ∙ ap (λ b. b && is_none (entry_at old q)) (ap (λ ks. is_of q ks) present_is ∙ of_filtered (has_key U) q own ∙ ap (λ b. b && has_key U q) (owns q));
        gone_are = λ q. ap (λ ks. is_of q ks) gone_is ∙ of_filtered (λ k. not (has_key U k)) q own ∙ ap (λ b. b && not (has_key U q)) (owns q);
        renewed_are = alls;
        unready_are = λ q. ap (λ ks. is_of q ks) unready_is ∙ of_filtered (λ k. not (can_take old k)) q it.renewed.items ∙ ap (λ b. b && not (can_take old q)) (alls q);
      }

-- ---- room that is taken back

room_entry : (b : Bool) (o1 o0 : Option Entry) → (b ≡ false → o1 ≡ o0) → cond b None o1 ≡ cond b None o0
room_entry true o1 o0 others = refl
room_entry false o1 o0 others = others refl

room_mark : (b was now : Bool) → now ≡ (b || was) → cond b false now ≡ cond b false was
room_mark true was now is = refl
room_mark false was now is = is

-- room that was made, and was taken back
pub taken_back : (old room new : Keyed) (it : Renewal) → HasRoom it old room → IsTakenBack it room new → IsTakenBack it old new
taken_back old room new it made back = record {
  entries = λ q. back.entries q ∙ room_entry (is_of q it.fresh.items) (entry_at room q) (entry_at old q) (made.others q);
  readies = λ q. back.readies q ∙ room_mark (is_of q it.unready.items) (can_take old q) (can_take room q) (made.readies q);
}
