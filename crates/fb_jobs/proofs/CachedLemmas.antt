-- What a job knows beside its reads holds in them.
use Rattle.std.proofs.Common.{arith, ◌≡◌, ◌⊎◌, inl, inr, ℕ, zero, suc, ◌<◌, length, get_or, ◌&&◌, Bool, true, false, true≢false, cond, ◌||◌, is_none, is_some, List, [], ◌∷◌, ◌++◌, refl, sym, ap, subst, ◌∙◌, Option, Some, None, Contains, filter}
use Rattle.std.proofs.lemmas.{Bool.{false≢true}, List.{append-nil}, Slice.Zip.{all_zipped_more}}
use Rattle.std.proofs.lemmas.List.Elements.{All-contains, Contains-append_left, Contains-append_right}
use Rattle.std.specs.{Map.{lookup}, List.{AllZip, list_any}, Option.{option_and_then, option_map}, FinMap.{get}, BTreeMap.{is_at}, Ordering.{is_eq}}
use Rattle.std.specs.{declared.sync.Arc.{Arc}, declared.alloc.Global.{Global}}
use Rattle.std.specs.BTreeMap as tree
use Rattle.std.specs.BTreeSet as set
use Rattle.fb_text.specs.Order.{name_cmp}
use Rattle.fb_text.proofs.Members.{contains_here}
use Rattle.fb_deploy.specs.{Library.Texts.{Held, Texts, held, sources_of, text_at, text_in}, Library.View.{Sources, tree_at, tree_of}, Plans.{has_plan_in}}
use Rattle.fb_deploy.specs.{Library.Near.{near_of}, Library.Rests.{Rests}, Faults.Faults.{faults_of}, Iface.declared.fault.Fault.{Fault}}
use Rattle.fb_deploy.specs.{Flatten.Blocking.{is_absent_or_faulty, is_blocking, is_part_among, is_some_fault, is_some_name}, Flatten.Far.{far_of}}
use Rattle.fb_deploy.specs.{Flatten.Hints.{AreFaultless, AreRightHints}, Flatten.Net.{PlainNet, blocked, plain_net}}
use Rattle.fb_deploy.specs.Flatten.Nets.{finite_net, first_net, has_net_in, is_recursive, net_at, net_of_tree, net_in as net_in_tree}
use Rattle.fb_deploy.proofs.{Library.Locality.{near_far, rests_both}, Library.Sources.{get_source}, Library.WalkLemmas.{has-Contains, Contains-has}}
use Rattle.fb_deploy.proofs.Flatten.FarNames.{far_is_all}
use Rattle.fb_tree.specs.Tree.{DeclTree, block_type, adapter_type, subapplication_type, system_configuration, structure_type}
use Rattle.fb_jobs.specs.{declared.kept.hints.Hint.{Hint}, declared.keys.key.Kind.{Kind}, declared.keys.key.Key.{Key}, declared.values.value.Value.{Value}, declared.kept.cached.Judged.{Judged}}
use Rattle.fb_jobs.specs.{declared.values.value.Value.TheVariants.{Faults, Net, Deploy}, Hints.{AreChosen, AreHints, IsHint, net_key}}
use Rattle.fb_jobs.specs.Keys.{Finding, FaultsFound, NetFound, DeployFound, NothingFound, has_key, has_kind_at, needs, needs_of, net_finding, scratch}
use Rattle.fb_jobs.specs.Cached.{IsCached, AddsNet, AreBlocking, AreFaultlessAmong, AreJudged, AreNetsOf, AreWithoutFaults, IsBlockedBy, IsFlag, IsKeptFaultless, IsNetOfUnit, IsOwnNet, IsThere, Nets, faults_key, hint_in, is_flagged, judged, named_if, net_in, some_faults}
use Rattle.fb_jobs.specs.{Cache.{AreKept}, Kinds.{needs_all}, declared.kept.cached.Cached.{Cached}}
use Rattle.fb_jobs.specs.{Reads.{Agree, Seen, is_among, read_names, read_texts, reads_for, reads_under}, Values.{finding_of}, Work.{IsOwnIn}}
use Rattle.fb_jobs.specs.declared.keys.key.Kind.TheVariants as kind
use Rattle.fb_jobs.proofs.SameNeeds.{has_key_local, kind_there, scratch_local, same_at, at_itself, unit_needed}
use Rattle.fb_jobs.proofs.{Currents.{AllCurrent, agree_for, current_under, names_under}, HintLemmas.{chosen_hints, hints_stay, net_stays, no_hints}}

-- ---- nets by the names of their units

pub net_found : (o : Option PlainNet) (net : PlainNet) → NetFound net ≡ net_finding o → o ≡ Some net
net_found None net e = cc
net_found (Some other) net e = cc

value_right : (T : Texts) (name : List ℕ) (value : Value) (net : PlainNet) → finding_of value ≡ scratch T (net_key name) → net_in value ≡ Some net → net_at (sources_of T) name ≡ Some net
unfolding scratch
value_right T name (Faults faults) net is e = cc
value_right T name (Net it) net is e = net_found (net_at (sources_of T) name) (plain_net it) is ∙ e
value_right T name (Deploy deploy) net is e = cc

hint_right : (T : Texts) (name : List ℕ) (o : Option (Arc Value Global)) (net : PlainNet) → ((value : Arc Value Global) → o ≡ Some value → finding_of value.value ≡ scratch T (net_key name)) → hint_in o ≡ Some net → net_at (sources_of T) name ≡ Some net
hint_right T name None net holds e = cc
hint_right T name (Some value) net holds e = value_right T name value.value net (holds value refl) e

-- the nets of right hints are those of their units
pub nets_right : (T : Texts) (key : Key) (hints : List Hint) (nets : Nets) → AreHints T key hints → AreNetsOf hints nets → AreRightHints (sources_of T) (λ name. hint_in (tree.get name_cmp nets name))
nets_right T key hints nets right are name net e = hint_right T name (tree.get name_cmp nets name) net holds e
  where
    holds : (value : Arc Value Global) → tree.get name_cmp nets name ≡ Some value → finding_of value.value ≡ scratch T (net_key name)
    holds value there =
        let it = are name value there in
        let is = All-contains (IsHint T key) hints it.0 right.each it.1 in
        ap finding_of (sym it.3) ∙ is.net_is ∙ ap (λ n. scratch T (net_key n)) it.2

no_entry : (nets : Nets) (name : List ℕ) (value : Arc Value Global) → nets.entries ≡ [] → tree.get name_cmp nets name ≡ Some value → ⊥
no_entry nets name value empty there =
    let none : tree.get name_cmp nets name ≡ None = ap (λ es. lookup (is_at (name_cmp name)) es) empty in cc

pub no_nets : (nets : Nets) → nets.entries ≡ [] → AreNetsOf [] nets
no_nets nets empty name value there = absurd (no_entry nets name value empty there)

put_net : (hint : Hint) (name : List ℕ) (value put : Arc Value Global) (old new : Option (Arc Value Global)) (same : Bool) → is_eq (name_cmp hint.unit name) ≡ same → new ≡ cond same (Some put) old → put.value ≡ hint.value.value → new ≡ Some value → (old ≡ Some value) ⊎ ((hint.unit ≡ name) × (hint.value.value ≡ value.value))
put_net hint name value put old new true is now had there =
    let one : put ≡ value = cc in inr (same_at hint.unit name is, sym had ∙ ap (λ (it : Arc Value Global). it.value) one)
put_net hint name value put old new false is now had there = inl (sym now ∙ there)

pub adds_net : (hint : Hint) (put : Arc Value Global) (old new : Nets) → put.value ≡ hint.value.value → ((name : List ℕ) → tree.get name_cmp new name ≡ cond (is_eq (name_cmp hint.unit name)) (Some put) (tree.get name_cmp old name)) → AddsNet hint old new
adds_net hint put old new had now name value there =
    put_net hint name value put (tree.get name_cmp old name) (tree.get name_cmp new name) (is_eq (name_cmp hint.unit name)) refl (now name) had there

earlier : (hints : List Hint) (hint it : Hint) → Contains hints it → Contains (hints ++ hint ∷ []) it
earlier hints hint it there = Contains-append_left hints (hint ∷ []) it there

pub one_more_net : (before now : List Hint) (hint : Hint) (old new : Nets) → now ≡ before ++ hint ∷ [] → AreNetsOf before old → AddsNet hint old new → AreNetsOf now new
one_more_net before now hint old new more so_far adds name value there =
    subst (λ hints. (it : Hint) × Contains hints it × (it.unit ≡ name) × (it.value.value ≡ value.value)) (sym more)
    (elim (adds name value there) [
      | inl was ↦ let it = so_far name value was in (it.0, earlier before hint it.0 it.1, it.2, it.3)
      | inr is ↦ (hint, Contains-append_right before (hint ∷ []) hint (contains_here hint []), is.0, is.1)
    ])

-- ---- the own net

own_kept : (T : Texts) (kept found : Key → Option Finding) (unit : List ℕ) (own : Option (Arc Value Global)) → AreKept T kept → AreKept T found → IsOwnNet kept found unit own → IsNetOfUnit T unit own
own_kept T kept found unit own right right_found is value there =
    elim (is value there) [
      | inl e ↦ right (net_key unit) (finding_of value.value) e
      | inr e ↦ right_found (net_key unit) (finding_of value.value) e
    ]

own_stays : (T : Texts) (key : Key) (own : Option (Arc Value Global)) → needs_all key.kind ≡ true → IsNetOfUnit T key.unit own → IsNetOfUnit (read_texts (reads_for T key)) key.unit own
own_stays T key own all is value there = is value there ∙ sym (net_stays T key key.unit all (unit_needed T key))

value_in : (o : Option PlainNet) (value : Value) (net : PlainNet) → finding_of value ≡ net_finding o → net_in value ≡ Some net → o ≡ Some net
value_in o (Faults faults) net is e = cc
value_in o (Net it) net is e = net_found o (plain_net it) is ∙ e
value_in o (Deploy deploy) net is e = cc

pub own_right : (sources : Sources) (unit : List ℕ) (own : Option (Arc Value Global)) (net : PlainNet) → IsOwnIn sources unit own → hint_in own ≡ Some net → net_at sources unit ≡ Some net
own_right sources unit None net is e = cc
own_right sources unit (Some value) net is e = value_in (net_at sources unit) value.value net (is value refl) e

pub own_in : (T : Texts) (unit : List ℕ) (own : Option (Arc Value Global)) → IsNetOfUnit T unit own → IsOwnIn (sources_of T) unit own
unfolding scratch
own_in T unit own is value there = is value there

-- ---- units without faults

near_below : (sources : Sources) (unit v : List ℕ) → Rests sources unit v → (n : List ℕ) → Contains (near_of sources v) n → Rests sources unit n
near_below sources unit v r n c = rests_both r (near_far sources v n c)

near_within : (kind : Kind) (sources : Sources) (unit name n : List ℕ) → needs_all kind ≡ true → is_among name (needs_of kind sources unit) ≡ true → is_among n (near_of sources name) ≡ true → is_among n (needs_of kind sources unit) ≡ true
near_within kind.Faults sources unit name n far first second = cc
near_within kind.Net sources unit name n far first second =
    has-Contains n (far_of sources unit) (((far_is_all sources unit).1 n).1 (near_below sources unit name (((far_is_all sources unit).1 name).0 (Contains-has name (far_of sources unit) first)) n (Contains-has n (near_of sources name) second)))
near_within kind.Deploy sources unit name n far first second =
    has-Contains n (far_of sources unit) (((far_is_all sources unit).1 n).1 (near_below sources unit name (((far_is_all sources unit).1 name).0 (Contains-has name (far_of sources unit) first)) n (Contains-has n (near_of sources name) second)))

faults_needed : (T : Texts) (key : Key) (name n : List ℕ) → needs_all key.kind ≡ true → is_among name (needs T key) ≡ true → is_among n (needs T (faults_key name)) ≡ true → is_among n (needs T key) ≡ true
unfolding needs
faults_needed T key name n far first second = near_within key.kind (sources_of T) key.unit name n far first second

pub faultless_stay : (T : Texts) (key : Key) (kept : Key → Option Finding) (faultless : List ℕ → Bool) → AreKept T kept → needs_all key.kind ≡ true → AreFaultlessAmong T kept (reads_for T key) faultless → AreWithoutFaults (read_texts (reads_for T key)) faultless
faultless_stay T key kept faultless right all among name has =
    let it = among name has in
    let needed : is_among name (needs T key) ≡ true = ap (is_among name) (sym (names_under T (needs T key))) ∙ it.0 in
    let read = read_texts (reads_for T key) in
    let agree : Agree T read (needs T (faults_key name)) = λ n near. agree_for T key n (faults_needed T key name n all needed near) in
    (has_key_local T read (faults_key name) agree ∙ it.1, scratch_local T read (faults_key name) agree ∙ sym (right (faults_key name) (FaultsFound []) it.2))

unblocked : (T : Texts) (name : List ℕ) → IsThere T name → scratch T (faults_key name) ≡ FaultsFound [] → is_absent_or_faulty (sources_of T) name ≡ false
unfolding has_key scratch
unblocked T name there none =
    by (get (sources_of T) name) (sym (get_source T name)) (faults_of (sources_of T) name) none
  where
    by : (o : Option (List ℕ)) → text_at T name ≡ o → (found : List Fault) → FaultsFound found ≡ FaultsFound [] → (is_none o || is_some_fault found) ≡ false
    by None e found none = let no : is_some (text_at T name) ≡ false = ap is_some e in absurd (true≢false (sym there ∙ no))
    by (Some text) e [] none = refl
    by (Some text) e (f ∷ fs) none = cc

pub faultless_in : (T : Texts) (faultless : List ℕ → Bool) → AreWithoutFaults T faultless → AreFaultless (sources_of T) faultless
faultless_in T faultless are name has = let it = are name has in unblocked T name it.0 it.1

pub is_there : {A : Type 0} (T : Texts) (name : List ℕ) (o : Option A) (text : A → List ℕ) → is_some o ≡ true → option_map text o ≡ text_at T name → IsThere T name
unfolding has_key
is_there T name None text e same = cc
is_there T name (Some x) text e same = ap is_some (sym same)

-- ---- which reads are flagged

none_flagged : (reads : List Seen) (name : List ℕ) → is_flagged reads [] name ≡ false
none_flagged [] name = refl
none_flagged (it ∷ reads) name = refl

pub no_flags : (T : Texts) (reads : List Seen) (flags : List Bool) → flags ≡ [] → AreWithoutFaults T (is_flagged reads flags)
no_flags T reads flags none name has =
    absurd (true≢false (sym has ∙ ap (λ (fs : List Bool). is_flagged reads fs name) none ∙ none_flagged reads name))

or_last : (a b : Bool) → b ≡ true → (a || b) ≡ true
or_last true b e = refl
or_last false b e = e

-- what is flagged was read of the texts, where it is there, and is kept without faults
record IsFlagged (T : Texts) (kept : Key → Option Finding) (reads : List Seen) (name : List ℕ) : Type 0 where
  pub among : is_among name (read_names reads) ≡ true
  pub there : IsThere T name
  pub none : IsKeptFaultless kept name

later : (T : Texts) (kept : Key → Option Finding) (it : Seen) (reads : List Seen) (name : List ℕ) → IsFlagged T kept reads name → IsFlagged T kept (it ∷ reads) name
later T kept it reads name more = record { among = or_last (is_at (name_cmp name) it.name) _ more.among; there = more.there; none = more.none }

-- what is judged to be without faults is there, and kept without
without_faults : (found : Option Held) (o : Option Finding) → cond (is_some found) (some_faults o) None ≡ Some false → (is_some found ≡ true) × (o ≡ Some (FaultsFound []))
without_faults None o e = cc
without_faults (Some it) None e = cc
without_faults (Some it) (Some (FaultsFound [])) e = (refl, refl)
without_faults (Some it) (Some (FaultsFound (f ∷ fs))) e = cc
without_faults (Some it) (Some (NetFound net)) e = cc
without_faults (Some it) (Some (DeployFound plan)) e = cc
without_faults (Some it) (Some NothingFound) e = cc

first_or_later : (T : Texts) (kept : Key → Option Finding) (it : Seen) (reads : List Seen) (name : List ℕ) (rest same : Bool) → held T it.name ≡ it.found → (is_some it.found ≡ true) × IsKeptFaultless kept it.name → (rest ≡ true → IsFlagged T kept reads name) → is_at (name_cmp name) it.name ≡ same → (same || rest) ≡ true → IsFlagged T kept (it ∷ reads) name
first_or_later T kept it reads name rest true current is more at h =
    let named : it.name ≡ name = sym (same_at name it.name at) in
    record {
      among = ap (λ b. b || is_among name (read_names reads)) at;
      there = subst (IsThere T) named (is_there T it.name (held T it.name) text_in (ap is_some current ∙ is.0) refl);
      none = subst (IsKeptFaultless kept) named is.1;
    }
first_or_later T kept it reads name rest false current is more at h = later T kept it reads name (more h)

flagged : (T : Texts) (kept : Key → Option Finding) (reads : List Seen) (flags : List Bool) → AllCurrent T reads → AllZip (IsFlag kept) reads flags → (name : List ℕ) → is_flagged reads flags name ≡ true → IsFlagged T kept reads name
flagged T kept [] flags current are name has = absurd (true≢false (sym has))
flagged T kept (it ∷ reads) [] current are name has = absurd are
flagged T kept (it ∷ reads) (false ∷ flags) current are name has = later T kept it reads name (flagged T kept reads flags current.1 are.1 name has)
flagged T kept (it ∷ reads) (true ∷ flags) current are name has =
    first_or_later T kept it reads name (is_flagged reads flags name) (is_at (name_cmp name) it.name) current.0 (without_faults it.found (kept (faults_key it.name)) (are.0 refl)) (flagged T kept reads flags current.1 are.1 name) refl has

pub flags_among : (T : Texts) (kept : Key → Option Finding) (reads : List Seen) (flags : List Bool) → AllCurrent T reads → AllZip (IsFlag kept) reads flags → AreFaultlessAmong T kept reads (is_flagged reads flags)
flags_among T kept reads flags current are name has = let it = flagged T kept reads flags current are name has in (it.among, it.there, it.none)

-- a flag at a place
pub flagged_there : (reads : List Seen) (flags : List Bool) (k : ℕ) (d : Seen) → k < length reads → get_or flags k false ≡ true → is_flagged reads flags (get_or reads k d).name ≡ true
flagged_there [] flags k d lt e = absurd (omega (arith, lt))
flagged_there (it ∷ reads) [] k d lt e = cc
flagged_there (it ∷ reads) (flag ∷ flags) zero d lt e =
    ap (λ b. (b && is_at (name_cmp it.name) it.name) || is_flagged reads flags it.name) e ∙ ap (λ b. b || is_flagged reads flags it.name) (at_itself it.name)
flagged_there (it ∷ reads) (flag ∷ flags) (suc k) d lt e =
    or_last (flag && is_at (name_cmp (get_or reads k d).name) it.name) _ (flagged_there reads flags k d (omega (arith, lt)) e)

-- one name more of a read that is flagged
put_name : (passes : List ℕ → Bool) (name other : List ℕ) (old new same : Bool) → is_at (name_cmp name) other ≡ same → new ≡ cond same true old → passes name ≡ true → (old ≡ true → passes other ≡ true) → new ≡ true → passes other ≡ true
put_name passes name other old new true at now here before has = ap passes (sym (same_at name other at)) ∙ here
put_name passes name other old new false at now here before has = before (sym now ∙ has)

pub puts_name : (passes : List ℕ → Bool) (name : List ℕ) (old new : set.BTreeSet (List ℕ)) → ((other : List ℕ) → set.contains name_cmp new other ≡ cond (is_at (name_cmp name) other) true (set.contains name_cmp old other)) → passes name ≡ true → ((other : List ℕ) → set.contains name_cmp old other ≡ true → passes other ≡ true) → (other : List ℕ) → set.contains name_cmp new other ≡ true → passes other ≡ true
puts_name passes name old new now here before other has =
    put_name passes name other (set.contains name_cmp old other) (set.contains name_cmp new other) (is_at (name_cmp name) other) refl (now other) here (before other) has

pub puts_none : (passes : List ℕ → Bool) (names : set.BTreeSet (List ℕ)) → names.keys ≡ [] → (other : List ℕ) → set.contains name_cmp names other ≡ true → passes other ≡ true
puts_none passes names empty other has =
    let none : set.contains name_cmp names other ≡ false = ap (λ ks. list_any (is_at (name_cmp other)) ks) empty in
    absurd (true≢false (sym has ∙ none))

-- ---- a net that is blocked

or_absent : (b absent part : Bool) → absent ≡ false → (b || (absent && part)) ≡ b
or_absent true absent part e = refl
or_absent false absent part e = ap (λ a. a && part) e

-- what is kept of a unit that is there tells whether it blocks others
blocks_by : (sources : Sources) (n : List ℕ) (has : Bool) (part : List ℕ → Bool) (found : Option Held) (o : Option Finding) → get sources n ≡ option_map text_in found → ((finding : Finding) → o ≡ Some finding → finding ≡ FaultsFound (faults_of sources n)) → cond (is_some found) (some_faults o) None ≡ Some has → is_blocking sources part n ≡ has
blocks_by sources n has part None o text right e = cc
blocks_by sources n has part (Some it) None text right e = cc
blocks_by sources n has part (Some it) (Some (NetFound net)) text right e = cc
blocks_by sources n has part (Some it) (Some (DeployFound plan)) text right e = cc
blocks_by sources n has part (Some it) (Some NothingFound) text right e = cc
blocks_by sources n has part (Some it) (Some (FaultsFound faults)) text right e =
    let same : faults ≡ faults_of sources n = let found = right (FaultsFound faults) refl in cc in
    let is : is_some_fault faults ≡ has = cc in
    or_absent (is_some_fault (faults_of sources n)) (is_none (get sources n)) (part n) (ap is_none text)
    ∙ ap is_some_fault (sym same) ∙ is

blocks : (T : Texts) (kept : Key → Option Finding) (n : List ℕ) (has : Bool) (part : List ℕ → Bool) → AreKept T kept → judged kept (record { name = n; found = held T n }) ≡ Some has → is_blocking (sources_of T) part n ≡ has
unfolding scratch
blocks T kept n has part right is = blocks_by (sources_of T) n has part (held T n) (kept (faults_key n)) (get_source T n) (right (faults_key n)) is

block_it : (T : Texts) (kept : Key → Option Finding) (part : List ℕ → Bool) (ns names : List (List ℕ)) → AreKept T kept → AreBlocking kept (reads_under T ns) names → filter (is_blocking (sources_of T) part) ns ≡ names
block_it T kept part [] names right are = sym are
block_it T kept part (n ∷ ns) names right (has, rest, is, more, named) =
    ap (λ b. named_if b n (filter (is_blocking (sources_of T) part) ns)) (blocks T kept n has part right is)
    ∙ ap (named_if has n) (block_it T kept part ns rest right more)
    ∙ sym named

first_blocked : (names others : List (List ℕ)) (net : PlainNet) → is_some_name names ≡ true → first_net names others net ≡ blocked names
first_blocked [] others net e = cc
first_blocked (x ∷ xs) others net e = refl

blocked_tree : (sources : Sources) (unit : List ℕ) (names : List (List ℕ)) (o : Option DeclTree) → has_net_in o ≡ true → filter (is_blocking sources (is_part_among sources (far_of sources unit))) (far_of sources unit) ≡ names → is_some_name names ≡ true → net_in_tree sources unit o ≡ Some (blocked names)
blocked_tree sources unit names None has are some = cc
blocked_tree sources unit names (Some tree) has are some =
    let far = far_of sources unit in
    let others = filter (is_recursive sources) far in
    let net = finite_net (length far) sources tree in
    ap (λ b. cond b (Some (net_of_tree sources unit tree)) None) has
    ∙ ap (λ ns. Some (first_net ns others net)) are
    ∙ ap (λ it. Some it) (first_blocked names others net some)

blocked_at : (sources : Sources) (unit : List ℕ) (names : List (List ℕ)) → has_net_in (tree_at sources unit) ≡ true → filter (is_blocking sources (is_part_among sources (far_of sources unit))) (far_of sources unit) ≡ names → is_some_name names ≡ true → net_at sources unit ≡ Some (blocked names)
unfolding net_at
blocked_at sources unit names has are some = blocked_tree sources unit names (tree_at sources unit) has are some

system_net : (o : Option DeclTree) → has_plan_in o ≡ true → has_net_in o ≡ true
system_net None e = cc
system_net (Some (block_type d)) e = cc
system_net (Some (adapter_type d)) e = cc
system_net (Some (subapplication_type d)) e = refl
system_net (Some (system_configuration s)) e = refl
system_net (Some (structure_type s)) e = cc

net_there : (kind : Kind) (text : Option (List ℕ)) → needs_all kind ≡ true → has_kind_at kind text ≡ true → has_net_in (option_and_then tree_of text) ≡ true
net_there kind.Faults text all has = cc
net_there kind.Net text all has = has
net_there kind.Deploy text all has = system_net (option_and_then tree_of text) has

far_for : (kind : Kind) (sources : Sources) (unit : List ℕ) → needs_all kind ≡ true → needs_of kind sources unit ≡ far_of sources unit
far_for kind.Faults sources unit all = cc
far_for kind.Net sources unit all = refl
far_for kind.Deploy sources unit all = refl

blocked_own : (T : Texts) (key : Key) (kept : Key → Option Finding) (names : List (List ℕ)) (net : Value) → AreKept T kept → needs_all key.kind ≡ true → has_key T key ≡ true → AreBlocking kept (reads_for T key) names → is_some_name names ≡ true → finding_of net ≡ NetFound (blocked names) → finding_of net ≡ scratch T (net_key key.unit)
unfolding needs scratch
blocked_own T key kept names net right all has are some is =
    let sources = sources_of T in
    let far = far_of sources key.unit in
    let under : AreBlocking kept (reads_under T far) names = subst (λ (ns : List (List ℕ)). AreBlocking kept (reads_under T ns) names) (far_for key.kind sources key.unit all) are in
    is ∙ ap net_finding (sym (blocked_at sources key.unit names (net_there key.kind (get sources key.unit) all (kind_there T key has)) (block_it T kept (is_part_among sources far) far names right under) some))

-- one read more
abbrev AddsBlocking : (Key → Option Finding) → Seen → List (List ℕ) → List (List ℕ) → Type 0
AddsBlocking kept it old new = (has : Bool) × (judged kept it ≡ Some has) × (new ≡ old ++ named_if has it.name [])

blocking_more : (kept : Key → Option Finding) (reads : List Seen) (it : Seen) (names more : List (List ℕ)) → AreBlocking kept reads names → AddsBlocking kept it names more → AreBlocking kept (reads ++ it ∷ []) more
blocking_more kept [] it names more are (has, is, adds) =
    (has, [], is, refl, adds ∙ ap (λ ns. ns ++ named_if has it.name []) are)
blocking_more kept (r ∷ reads) it names more (had, rest, was, before, named) (has, is, adds) =
    (had, rest ++ named_if has it.name [], was, blocking_more kept reads it rest (rest ++ named_if has it.name []) before (has, is, refl), adds ∙ ap (λ ns. ns ++ named_if has it.name []) named ∙ named_later had r.name rest (named_if has it.name []))
  where
    named_later : (b : Bool) (name : List ℕ) (xs ys : List (List ℕ)) → (named_if b name xs ++ ys) ≡ named_if b name (xs ++ ys)
    named_later true name xs ys = refl
    named_later false name xs ys = refl

module _ (kept : Key → Option Finding) (it : Seen) (old new : Judged) where
  more_judged : (flag : Bool) → IsFlag kept it flag → new.faultless.items ≡ old.faultless.items ++ flag ∷ [] → (new.is_all ≡ true → (old.is_all ≡ true) × AddsBlocking kept it old.faulty.items new.faulty.items) → (reads : List Seen) → AreJudged kept reads old → AreJudged kept (reads ++ it ∷ []) new
  more_judged flag is more adds reads are = record {
    flags_are = subst (AllZip (IsFlag kept) (reads ++ it ∷ [])) (sym more) (all_zipped_more (IsFlag kept) reads old.faultless.items it flag are.flags_are is);
    faulty_are = λ all. let was = adds all in blocking_more kept reads it old.faulty.items new.faulty.items (are.faulty_are was.0) was.1;
  }

  -- a unit with faults
  pub one_faulty : judged kept it ≡ Some true → new.faultless.items ≡ old.faultless.items ++ false ∷ [] → new.faulty.items ≡ old.faulty.items ++ it.name ∷ [] → new.is_all ≡ old.is_all → (reads : List Seen) → AreJudged kept reads old → AreJudged kept (reads ++ it ∷ []) new
  one_faulty is flags names all = more_judged false (λ e. absurd (false≢true e)) flags (λ e. (sym all ∙ e, (true, is, names)))

  -- a unit without faults
  pub one_faultless : judged kept it ≡ Some false → new.faultless.items ≡ old.faultless.items ++ true ∷ [] → new.faulty.items ≡ old.faulty.items → new.is_all ≡ old.is_all → (reads : List Seen) → AreJudged kept reads old → AreJudged kept (reads ++ it ∷ []) new
  one_faultless is flags names all = more_judged true (λ e. is) flags (λ e. (sym all ∙ e, (false, is, names ∙ sym (append-nil old.faulty.items))))

  -- a unit of which it is not known
  pub one_unknown : new.faultless.items ≡ old.faultless.items ++ false ∷ [] → new.is_all ≡ false → (reads : List Seen) → AreJudged kept reads old → AreJudged kept (reads ++ it ∷ []) new
  one_unknown flags all = more_judged false (λ e. absurd (false≢true e)) flags (λ e. absurd (false≢true (sym all ∙ e)))

-- ---- together

pub hints_alone : (T : Texts) (key : Key) (hints : List Hint) (it : Cached) → AreHints T key hints → it.hints.items ≡ hints → it.own ≡ None → it.faultless.items ≡ [] → IsCached (reads_for T key) key it
hints_alone T key hints it right is none empty = record {
  hints_are = subst (AreHints (read_texts (reads_for T key)) key) (sym is) (hints_stay T key hints right);
  own_is = λ value there. absurd (no_value it.own value none there);
  faultless_are = no_flags (read_texts (reads_for T key)) (reads_for T key) it.faultless.items empty;
}
  where
    no_value : (o : Option (Arc Value Global)) (value : Arc Value Global) → o ≡ None → o ≡ Some value → ⊥
    no_value None value none there = cc
    no_value (Some v) value none there = cc

flags_stay : (T : Texts) (key : Key) (kept : Key → Option Finding) (flags : List Bool) → AreKept T kept → needs_all key.kind ≡ true → AllZip (IsFlag kept) (reads_for T key) flags → AreWithoutFaults (read_texts (reads_for T key)) (is_flagged (reads_for T key) flags)
flags_stay T key kept flags right all are =
    faultless_stay T key kept (is_flagged (reads_for T key) flags) right all (flags_among T kept (reads_for T key) flags (current_under T (needs T key)) are)

-- the net of the own unit in the texts: kept, found, or blocked
pub own_known : (T : Texts) (key : Key) (kept found : Key → Option Finding) (own known : Option (Arc Value Global)) (is_all : Bool) (faulty : List (List ℕ)) → AreKept T kept → AreKept T found → needs_all key.kind ≡ true → has_key T key ≡ true → IsOwnNet kept found key.unit own → (is_all ≡ true → AreBlocking kept (reads_for T key) faulty) → ((value : Arc Value Global) → known ≡ Some value → (own ≡ Some value) ⊎ IsBlockedBy is_all faulty value.value) → IsNetOfUnit T key.unit known
own_known T key kept found own known is_all faulty right right_found all has is are or value there =
    elim (or value there) [
      | inl e ↦ own_kept T kept found key.unit own right right_found is value e
      | inr by ↦ blocked_own T key kept faulty value.value right all has (are by.all) by.some by.net_is
    ]

-- what is kept of what the key needs
pub kept_known : (T : Texts) (key : Key) (kept found : Key → Option Finding) (it : Cached) → AreKept T kept → AreKept T found → needs_all key.kind ≡ true → AreChosen T kept key.unit (reads_for T key) it.hints.items → IsNetOfUnit T key.unit it.own → (it.faultless.items ≡ []) ⊎ AllZip (IsFlag kept) (reads_for T key) it.faultless.items → IsCached (reads_for T key) key it
kept_known T key kept found it right right_found all chosen own faultless = record {
  hints_are = hints_stay T key it.hints.items (chosen_hints T kept key it.hints.items right all chosen);
  own_is = own_stays T key it.own all own;
  faultless_are =
      elim faultless [
        | inl none ↦ no_flags (read_texts (reads_for T key)) (reads_for T key) it.faultless.items none
        | inr flags ↦ flags_stay T key kept it.faultless.items right all flags
      ];
}

-- ---- all of it, or nothing

pub hints_unless : (T : Texts) (key : Key) (hints some : List Hint) → AreHints T key hints → (some ≡ hints) ⊎ (some ≡ []) → AreHints T key some
hints_unless T key hints some right (inl all) = subst (AreHints T key) (sym all) right
hints_unless T key hints some right (inr none) = subst (AreHints T key) (sym none) (no_hints T key)

pub flags_unless : (T : Texts) (reads : List Seen) (flags some : List Bool) → AreWithoutFaults T (is_flagged reads flags) → (some ≡ flags) ⊎ (some ≡ []) → AreWithoutFaults T (is_flagged reads some)
flags_unless T reads flags some right (inl all) = subst (λ (fs : List Bool). AreWithoutFaults T (is_flagged reads fs)) (sym all) right
flags_unless T reads flags some right (inr none) = no_flags T reads some none
