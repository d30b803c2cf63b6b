-- What is read leaves a net unchanged.
use Rattle.std.proofs.Common.{◌≡◌, ℕ, ◌<◌, true, false, List, [], ◌∷◌, ◌⊎◌, inl, inr, length, suc, get_or, refl, sym, ap, subst, ◌∙◌, arith, Option, Some, None, is_none, ◌||◌, Bool}
use Rattle.std.proofs.{lemmas.List.{get_or-map, get_or_default}, lemmas.List.Elements.{AllZip-get_or, length_all_zip}}
use Rattle.std.specs.{FinMap.{get}, List.{Contains}, List.Sorted.{IsStrictlySortedBy}, Option.{option_and_then, option_map}}
use Rattle.fb_text.specs.Order.{name_cmp}
use Rattle.fb_deploy.specs.{Deploy.{PlainDeploy, plain_deploy}, Plans.{is_whole_plan, plan_at}, Iface.declared.fault.Fault.{Fault}, Faults.Faults.{faults_of}}
use Rattle.fb_deploy.specs.{Library.Place.{IsAt}, Library.Rests.{Rests, itself}, Library.Texts.{Held, Texts, sources_of, text_in}, Library.View.{tree_of}}
use Rattle.fb_deploy.specs.{Flatten.Blocking.{is_some_fault}, Flatten.Far.{far_of}, Flatten.Hints.{is_whole_net}, Flatten.Unchanged.{IsStill, LeavesNet}}
use Rattle.fb_deploy.specs.{Flatten.Net.{PlainNet, plain_net}, Flatten.Nets.{net_at}, Flatten.Wiring.ByName.{kind_at}, Flatten.Wiring.Local.{HasSameInterface}}
use Rattle.fb_deploy.specs.{Flatten.Wiring.Tree.Mentions.{unit_kind_of}, Flatten.Wiring.Tree.declared.kinds.UnitKind.TheVariants.{Block}}
use Rattle.fb_deploy.proofs.{Flatten.FarNames.{far_is_all}, Flatten.NetLocality.{says_itself}, Flatten.NetUnchanged.{net_left, no_faults_of_nothing}}
use Rattle.fb_deploy.proofs.PlanUnchanged.{plan_left}
use Rattle.fb_jobs.specs.{declared.keys.key.Kind.{Kind}, declared.keys.key.Key.{Key}, declared.values.value.Value.{Value}}
use Rattle.fb_jobs.specs.{declared.values.value.Value.TheVariants.{Faults, Net, Deploy}, Hints.{net_key}}
use Rattle.fb_jobs.specs.{Keys.{DeployFound, NetFound, needs, net_finding, plan_finding, scratch, scratch_of}, Cached.{AreWithoutFaults}}
use Rattle.fb_jobs.specs.{Reuse.{AreStillRead, IsDerived, IsStillFound, IsStillRead, is_whole_value, seen_text}, Reads.{IsRight, Seen, read_names, read_texts}}
use Rattle.fb_jobs.specs.Values.{finding_of}
use Rattle.fb_jobs.specs.declared.keys.key.Kind.TheVariants as kind
use Rattle.fb_jobs.proofs.{CachedLemmas.{faultless_in, net_found}, Searches.{found_at}, SameNeeds.{needs_rise, scratch_is}, Sources.{get_source}}

module _ (unit : List ℕ) (faultless : List ℕ → Bool) (name : List ℕ) where
  text_of : (a b : Option Held) → IsStillFound unit faultless name a b → (option_map text_in a ≡ option_map text_in b) ⊎ (option_map unit_kind_of (option_and_then tree_of (option_map text_in a)) ≡ Some Block)
  text_of None None still = inl refl
  text_of None (Some b) still = absurd still
  text_of (Some a) None still = absurd still
  text_of (Some a) (Some b) (inl same, known) = inl (ap (λ (t : List ℕ). Some t) same)
  text_of (Some a) (Some b) (inr (other, alike), known) = inr alike.block

  says_of : (a b : Option Held) → IsStillFound unit faultless name a b → HasSameInterface (option_and_then tree_of (option_map text_in a)) (option_and_then tree_of (option_map text_in b))
  says_of None None still = says_itself None None refl
  says_of None (Some b) still = absurd still
  says_of (Some a) None still = absurd still
  says_of (Some a) (Some b) (inl same, known) = says_itself (tree_of a.text) (tree_of b.text) (ap tree_of same)
  says_of (Some a) (Some b) (inr (other, alike), known) = alike.says

  own_of : (a b : Option Held) → IsStillFound unit faultless name a b → name ≡ unit → option_map text_in a ≡ option_map text_in b
  own_of None None still own = refl
  own_of None (Some b) still own = absurd still
  own_of (Some a) None still own = absurd still
  own_of (Some a) (Some b) (inl same, known) own = ap (λ (t : List ℕ). Some t) same
  own_of (Some a) (Some b) (inr (other, alike), known) own = absurd (other own)

  absent_of : (a b : Option Held) → IsStillFound unit faultless name a b → option_map text_in b ≡ None → option_map text_in a ≡ None
  absent_of None b still none = refl
  absent_of (Some a) None still none = absurd still
  absent_of (Some a) (Some b) still none = cc

  known_of : (a b : Option Held) → IsStillFound unit faultless name a b → (option_map text_in b ≡ None) ⊎ (faultless name ≡ true)
  known_of a None still = inl refl
  known_of None (Some b) still = absurd still
  known_of (Some a) (Some b) still = inr still.1

pub count_names : (reads : List Seen) → length (read_names reads) ≡ length reads
count_names [] = refl
count_names (r ∷ reads) = ap suc (count_names reads)

-- what a net needs
pub far_needed : (T : Texts) (unit : List ℕ) → needs T (net_key unit) ≡ far_of (sources_of T) unit
unfolding needs
far_needed T unit = refl

-- the text under a name at whose place it was read
pub under : (key : Key) (reads : List Seen) (name : List ℕ) (k : ℕ) (d : Seen) → read_names reads ≡ needs (read_texts reads) key → k < length reads → (get_or reads k d).name ≡ name → get (sources_of (read_texts reads)) name ≡ seen_text (get_or reads k d)
under key reads name k d is lt named =
    let names : List (List ℕ) = read_names reads in
    let within : k < length names = omega (arith, lt, count_names reads) in
    let at : IsAt names name k = record { in_range = within; named = get_or_default names k [] d.name within ∙ get_or-map (λ (it : Seen). it.name) reads k d d.name lt ∙ named } in
    get_source (read_texts reads) name
    ∙ ap (option_map text_in) (found_at reads name k d (subst (IsStrictlySortedBy name_cmp) (sym is) (needs_rise (read_texts reads) key)) at)

module _ (unit : List ℕ) (before now : List Seen) (faultless : List ℕ → Bool) (right : read_names before ≡ needs (read_texts before) (net_key unit)) (right_now : read_names now ≡ needs (read_texts now) (net_key unit)) (without : AreWithoutFaults (read_texts now) faultless) (still : AreStillRead unit faultless before now) where
  same_count : length before ≡ length now
  same_count = length_all_zip (IsStillRead unit faultless) before now still

  -- what was read and what is read under a name on which the unit rested
  pub record IsPair (name : List ℕ) : Type 0 where
    pub was : Seen
    pub is : Seen
    pub reads : IsStillRead unit faultless was is
    pub named : was.name ≡ name
    pub text_was : get (sources_of (read_texts before)) name ≡ seen_text was
    pub text_is : get (sources_of (read_texts now)) name ≡ seen_text is

  pair : (name : List ℕ) → Rests (sources_of (read_texts before)) unit name → IsPair name
  pair name r =
      let far : Contains (read_names before) name = subst (λ (names : List (List ℕ)). Contains names name) (sym (far_needed (read_texts before) unit) ∙ sym right) (((far_is_all (sources_of (read_texts before)) unit).1 name).1 r) in
      let lt : far.0 < length before = omega (arith, far.1, count_names before) in
      let d : Seen = record { name = name; found = None } in
      let here = AllZip-get_or (IsStillRead unit faultless) before now far.0 d d still lt in
      let named : (get_or before far.0 d).name ≡ name = sym (get_or-map (λ (it : Seen). it.name) before far.0 d name lt) ∙ far.2 in
      record {
        was = get_or before far.0 d;
        is = get_or now far.0 d;
        reads = here;
        named = named;
        text_was = under (net_key unit) before name far.0 d right lt named;
        text_is = under (net_key unit) now name far.0 d right_now (omega (arith, lt, same_count)) (sym here.name ∙ named);
      }

  no_faults : (name : List ℕ) (it : Seen) → get (sources_of (read_texts now)) name ≡ seen_text it → it.name ≡ name → (seen_text it ≡ None) ⊎ (faultless it.name ≡ true) → faults_of (sources_of (read_texts now)) name ≡ []
  no_faults name it text named (inl none) = no_faults_of_nothing (sources_of (read_texts now)) name (text ∙ none)
  no_faults name it text named (inr known) =
      by (is_none (get (sources_of (read_texts now)) name)) (faults_of (sources_of (read_texts now)) name)
      (faultless_in (read_texts now) faultless without name (ap faultless (sym named) ∙ known))
    where
      by : (absent : Bool) (found : List Fault) → (absent || is_some_fault found) ≡ false → found ≡ []
      by false [] e = refl
      by true [] e = refl
      by false (f ∷ fs) e = cc
      by true (f ∷ fs) e = cc

  text_there : (name : List ℕ) (it : IsPair name) → (seen_text it.was ≡ seen_text it.is) ⊎ (option_map unit_kind_of (option_and_then tree_of (seen_text it.was)) ≡ Some Block) → (get (sources_of (read_texts before)) name ≡ get (sources_of (read_texts now)) name) ⊎ (kind_at (sources_of (read_texts before)) name ≡ Some Block)
  text_there name it (inl e) = inl (it.text_was ∙ e ∙ sym it.text_is)
  text_there name it (inr block) = inr (ap (λ (o : Option (List ℕ)). option_map unit_kind_of (option_and_then tree_of o)) it.text_was ∙ block)

  still_there : (name : List ℕ) → IsPair name → IsStill (sources_of (read_texts before)) (sources_of (read_texts now)) name
  still_there name it = record {
    text = text_there name it (text_of unit faultless it.is.name it.was.found it.is.found it.reads.found);
    says = subst (λ (o : Option (List ℕ)). HasSameInterface (option_and_then tree_of o) (option_and_then tree_of (get (sources_of (read_texts now)) name))) (sym it.text_was)
        (subst (λ (o : Option (List ℕ)). HasSameInterface (option_and_then tree_of (seen_text it.was)) (option_and_then tree_of o)) (sym it.text_is) (says_of unit faultless it.is.name it.was.found it.is.found it.reads.found));
    faultless = no_faults name it.is it.text_is (sym it.reads.name ∙ it.named) (known_of unit faultless it.is.name it.was.found it.is.found it.reads.found);
    absent = λ none. it.text_was ∙ absent_of unit faultless it.is.name it.was.found it.is.found it.reads.found (sym it.text_is ∙ none);
  }

  leaves : LeavesNet (sources_of (read_texts before)) (sources_of (read_texts now)) unit
  leaves =
      let own = pair unit itself in
      record {
        own = own.text_was ∙ own_of unit faultless own.is.name own.was.found own.is.found own.reads.found (sym own.reads.name ∙ own.named) ∙ sym own.text_is;
        still = λ name r. still_there name (pair name r);
      }

  plan_stays : (plan : PlainDeploy) → is_whole_plan plan ≡ true → plan_at (sources_of (read_texts before)) unit ≡ Some plan → plan_at (sources_of (read_texts now)) unit ≡ Some plan
  plan_stays plan whole at = plan_left (sources_of (read_texts before)) (sources_of (read_texts now)) unit plan leaves whole at

  net_stays : (net : PlainNet) → is_whole_net net ≡ true → net_at (sources_of (read_texts before)) unit ≡ Some net → net_at (sources_of (read_texts now)) unit ≡ Some net
  net_stays net whole at = net_left (sources_of (read_texts before)) (sources_of (read_texts now)) unit net leaves whole at

no_plan : (o : Option PlainDeploy) (net : PlainNet) → NetFound net ≡ plan_finding o → ⊥
no_plan None net e = cc
no_plan (Some plan) net e = cc

no_net : (o : Option PlainNet) (plan : PlainDeploy) → DeployFound plan ≡ net_finding o → ⊥
no_net None plan e = cc
no_net (Some net) plan e = cc

plan_found : (o : Option PlainDeploy) (plan : PlainDeploy) → DeployFound plan ≡ plan_finding o → o ≡ Some plan
plan_found None plan e = cc
plan_found (Some other) plan e = cc

-- a key for a plan needs what one for a net needs
plan_right : (unit : List ℕ) (reads : List Seen) → needs (read_texts reads) (record { kind = kind.Deploy; unit = unit }) ≡ needs (read_texts reads) (net_key unit)
unfolding needs
plan_right unit reads = refl

stays : (kind : Kind) (unit : List ℕ) (before now : List Seen) (value : Value) (faultless : List ℕ → Bool) → IsDerived (record { kind = kind; unit = unit }) before value → IsRight (record { key = record { kind = kind; unit = unit }; reads = now }) → is_whole_value value ≡ true → AreWithoutFaults (read_texts now) faultless → AreStillRead unit faultless before now → finding_of value ≡ scratch_of kind (sources_of (read_texts now)) unit
stays kind unit before now (Faults faults) faultless made right whole without still = cc
stays kind.Faults unit before now (Net net) faultless made right whole without still =
    let is = made.value_is ∙ scratch_is (read_texts before) (record { kind = kind.Faults; unit = unit }) in cc
stays kind.Faults unit before now (Deploy deploy) faultless made right whole without still =
    let is = made.value_is ∙ scratch_is (read_texts before) (record { kind = kind.Faults; unit = unit }) in cc
stays kind.Net unit before now (Deploy deploy) faultless made right whole without still =
    absurd (no_net _ (plain_deploy deploy) (made.value_is ∙ scratch_is (read_texts before) (net_key unit)))
stays kind.Deploy unit before now (Net net) faultless made right whole without still =
    absurd (no_plan _ (plain_net net) (made.value_is ∙ scratch_is (read_texts before) (record { kind = kind.Deploy; unit = unit })))
stays kind.Net unit before now (Net net) faultless made right whole without still =
    let at : net_at (sources_of (read_texts before)) unit ≡ Some (plain_net net) = net_found (net_at (sources_of (read_texts before)) unit) (plain_net net) (made.value_is ∙ scratch_is (read_texts before) (net_key unit)) in
    ap net_finding (sym (net_stays unit before now faultless made.right.names right.names without still (plain_net net) whole at))
stays kind.Deploy unit before now (Deploy deploy) faultless made right whole without still =
    let at : plan_at (sources_of (read_texts before)) unit ≡ Some (plain_deploy deploy) = plan_found (plan_at (sources_of (read_texts before)) unit) (plain_deploy deploy) (made.value_is ∙ scratch_is (read_texts before) (record { kind = kind.Deploy; unit = unit })) in
    ap plan_finding (sym (plan_stays unit before now faultless (made.right.names ∙ plan_right unit before) (right.names ∙ plan_right unit now) without still (plain_deploy deploy) whole at))

-- a value that what is read leaves unchanged is that of the reads
pub reusable_value : (key : Key) (before now : List Seen) (value : Value) (faultless : List ℕ → Bool) → IsDerived key before value → IsRight (record { key = key; reads = now }) → is_whole_value value ≡ true → AreWithoutFaults (read_texts now) faultless → AreStillRead key.unit faultless before now → finding_of value ≡ scratch (read_texts now) key
reusable_value key before now value faultless made right whole without still =
    stays key.kind key.unit before now value faultless made right whole without still ∙ sym (scratch_is (read_texts now) key)
