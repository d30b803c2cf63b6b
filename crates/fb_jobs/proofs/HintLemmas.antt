-- What is kept is right in the reads of a job that needs all that its unit rests on.
use Rattle.std.proofs.Common.{arith, ◌<◌, length, get_or, ◌≡◌, ◌≢◌, ℕ, Bool, true, false, cond, ◌&&◌, not, List, [], ◌∷◌, ◌++◌, refl, sym, ap, subst, ◌∙◌, Option, filter, All, Contains}
use Rattle.std.proofs.lemmas.List.Elements.{All-get_or, All-nil, All-cons, All-push, All-contains, All-contains_itself, filter-append}
use Rattle.std.proofs.lemmas.List.{append-nil, get_or-map, length-map, map-append}
use Rattle.std.proofs.{lemmas.List.Kept.{AllPairs-cons, IsStrictlySortedBy-filter}, lemmas.Cmp.{tied_itself}, lemmas.Bool.{and_parts}}
use Rattle.std.specs.{BTreeMap.{is_at}, List.{AllPairs, AllByRecursion}, List.Sorted.{IsStrictlySortedBy}, Option.{option_and_then, option_map}}
use Rattle.std.specs.declared.cmp.Ordering.TheVariants.{Less}
use Rattle.fb_text.specs.Order.{name_cmp}
use Rattle.fb_text.proofs.Members.{contains_map, passes_in_filter}
use Rattle.fb_deploy.specs.{Library.Texts.{Texts, sources_of, text_in}, Library.View.{Sources, tree_at, tree_of}, Library.Rests.{Rests, itself, through}}
use Rattle.fb_deploy.specs.{Flatten.Far.{far_of}, Flatten.Tables.{is_subapplication_in}}
use Rattle.fb_deploy.proofs.{Library.Names.{name_total}, Library.Sources.{get_source}, Library.WalkLemmas.{has-Contains, Contains-has}}
use Rattle.fb_deploy.proofs.Flatten.FarNames.{far_is_all}
use Rattle.fb_jobs.specs.{declared.kept.hints.Hint.{Hint}, declared.keys.key.Kind.{Kind}, declared.keys.key.Key.{Key}, Keys.{Finding, needs, needs_of, scratch}}
use Rattle.fb_jobs.specs.{Cache.{AreKept}, Kinds.{needs_all}, Reuse.{seen_text}, Reads.{IsOf, Seen, is_among, read_names, read_texts, reads_for}}
use Rattle.fb_jobs.specs.Values.{finding_of, all_seen, seen_of}
use Rattle.fb_jobs.specs.Hints.{AddsChosen, AreChosen, AreHints, IsHint, IsKeptHint, is_chosen, is_other_subapplication, net_key, units_of}
use Rattle.fb_jobs.specs.declared.keys.read.Read.{Read}
use Rattle.fb_jobs.specs.declared.keys.key.Kind.TheVariants as kind
use Rattle.fb_jobs.proofs.{SameNeeds.{scratch_local, needs_local, needs_rise}, Currents.{agree_for, names_under}}

pub rests_on : {sources : Sources} {a b c : List ℕ} → Rests sources a b → Rests sources b c → Rests sources a c
rests_on itself k = k
rests_on (through m h) k = through m (rests_on h k)

-- what a unit rests on that the first rests on, the first rests on too
far_within : (sources : Sources) (unit name n : List ℕ) → is_among name (far_of sources unit) ≡ true → is_among n (far_of sources name) ≡ true → is_among n (far_of sources unit) ≡ true
far_within sources unit name n first second =
    let there = ((far_is_all sources unit).1 name).0 (Contains-has name (far_of sources unit) first) in
    let behind = ((far_is_all sources name).1 n).0 (Contains-has n (far_of sources name) second) in
    has-Contains n (far_of sources unit) (((far_is_all sources unit).1 n).1 (rests_on there behind))

within_kind : (kind : Kind) (sources : Sources) (unit name n : List ℕ) → needs_all kind ≡ true → is_among name (needs_of kind sources unit) ≡ true → is_among n (far_of sources name) ≡ true → is_among n (needs_of kind sources unit) ≡ true
within_kind kind.Faults sources unit name n far first second = cc
within_kind kind.Net sources unit name n far first second = far_within sources unit name n first second
within_kind kind.Deploy sources unit name n far first second = far_within sources unit name n first second

pub net_needed : (T : Texts) (key : Key) (name n : List ℕ) → needs_all key.kind ≡ true → is_among name (needs T key) ≡ true → is_among n (needs T (net_key name)) ≡ true → is_among n (needs T key) ≡ true
unfolding needs
net_needed T key name n far first second = within_kind key.kind (sources_of T) key.unit name n far first second

-- ---- in the reads it is as in the texts

-- the net of what is needed
pub net_stays : (T : Texts) (key : Key) (name : List ℕ) → needs_all key.kind ≡ true → is_among name (needs T key) ≡ true → scratch (read_texts (reads_for T key)) (net_key name) ≡ scratch T (net_key name)
net_stays T key name all needed =
    scratch_local T (read_texts (reads_for T key)) (net_key name) (λ n among. agree_for T key n (net_needed T key name n all needed among))

other_stays : (T : Texts) (key : Key) (name : List ℕ) → is_among name (needs T key) ≡ true → is_other_subapplication T key.unit name ≡ true → is_other_subapplication (read_texts (reads_for T key)) key.unit name ≡ true
other_stays T key name needed e =
    let read = read_texts (reads_for T key) in
    ap (λ (o : Option (List ℕ)). not (is_at (name_cmp key.unit) name) && is_subapplication_in (option_and_then tree_of o)) (get_source read name ∙ sym (agree_for T key name needed) ∙ sym (get_source T name)) ∙ e

hint_stays : (T : Texts) (key : Key) (hint : Hint) → needs_all key.kind ≡ true → IsHint T key hint → IsHint (read_texts (reads_for T key)) key hint
hint_stays T key hint all it = record {
  other = other_stays T key hint.unit it.needed it.other;
  needed = ap (is_among hint.unit) (needs_local T (read_texts (reads_for T key)) key (agree_for T key)) ∙ it.needed;
  net_is = it.net_is ∙ sym (net_stays T key hint.unit all it.needed);
}

none_left : (P : Hint → Type 0) (hints : List Hint) → hints ≡ [] → All P hints
none_left P hints e = subst (All P) (sym e) (All-nil P)

each_stays : (T : Texts) (key : Key) (hints : List Hint) (all : Bool) → needs_all key.kind ≡ all → (all ≡ false → hints ≡ []) → All (IsHint T key) hints → All (IsHint (read_texts (reads_for T key)) key) hints
each_stays T key hints false is none each = none_left (IsHint (read_texts (reads_for T key)) key) hints (none refl)
each_stays T key hints true is none each = each_mapped hints each
  where
    each_mapped : (hints : List Hint) → All (IsHint T key) hints → All (IsHint (read_texts (reads_for T key)) key) hints
    each_mapped hints each k d below = hint_stays T key _ is (each k d below)

-- the hints of a job are those of its reads
pub hints_stay : (T : Texts) (key : Key) (hints : List Hint) → AreHints T key hints → AreHints (read_texts (reads_for T key)) key hints
hints_stay T key hints it = record {
  none = it.none;
  each = each_stays T key hints (needs_all key.kind) refl it.none it.each;
  once = it.once;
}

-- ---- those that are chosen

all_apart : (n : List ℕ) (hint : Hint) (hints : List Hint) → hint.unit ≡ n → AllByRecursion (λ m. name_cmp n m ≡ Less) (units_of hints) → All (λ (other : Hint). hint.unit ≢ other.unit) hints
all_apart n hint [] e below = All-nil (λ (other : Hint). hint.unit ≢ other.unit)
all_apart n hint (h ∷ hs) e below =
    All-cons (λ (other : Hint). hint.unit ≢ other.unit) h hs
    (λ (same : hint.unit ≡ h.unit). let itself = tied_itself name_total n in let less : name_cmp n n ≡ Less = subst (λ m. name_cmp n m ≡ Less) (sym same ∙ e) below.0 in cc)
    (all_apart n hint hs e below.1)

units_apart : (hints : List Hint) → IsStrictlySortedBy name_cmp (units_of hints) → AllPairs (λ (a b : Hint). a.unit ≢ b.unit) hints
unfolding IsStrictlySortedBy
units_apart [] sorted = λ i j d first last. absurd (omega (arith, last))
units_apart (h ∷ hs) sorted = AllPairs-cons (λ (a b : Hint). a.unit ≢ b.unit) h hs (all_apart h.unit h hs refl sorted.0) (units_apart hs sorted.1)

chosen_is : (T : Texts) (kept : Key → Option Finding) (key : Key) (hints : List Hint) → AreKept T kept → AreChosen T kept key.unit (reads_for T key) hints → (hint : Hint) → Contains hints hint → IsHint T key hint
chosen_is T kept key hints right chosen hint there =
    let among = passes_in_filter (is_chosen T kept key.unit) (read_names (reads_for T key)) hint.unit (subst (λ ns. Contains ns hint.unit) chosen.units (contains_map (λ (h : Hint). h.unit) hints hint there)) in
    record {
      other = (and_parts _ _ among.passes).0;
      needed = has-Contains hint.unit (needs T key) (subst (λ ns. Contains ns hint.unit) (names_under T (needs T key)) among.among);
      net_is = right (net_key hint.unit) (finding_of hint.value.value) (All-contains (IsKeptHint kept) hints hint chosen.nets there);
    }

pub chosen_hints : (T : Texts) (kept : Key → Option Finding) (key : Key) (hints : List Hint) → AreKept T kept → needs_all key.kind ≡ true → AreChosen T kept key.unit (reads_for T key) hints → AreHints T key hints
chosen_hints T kept key hints right all chosen = record {
  none = λ e. cc;
  each = λ k d below. chosen_is T kept key hints right chosen _ (All-contains_itself hints k d below);
  once =
      units_apart hints (subst (IsStrictlySortedBy name_cmp) (sym chosen.units) (IsStrictlySortedBy-filter name_cmp (is_chosen T kept key.unit) (read_names (reads_for T key)) (subst (IsStrictlySortedBy name_cmp) (sym (names_under T (needs T key))) (needs_rise T key))));
}

pub no_hints : (T : Texts) (key : Key) → AreHints T key []
no_hints T key = record { none = λ e. refl; each = All-nil (IsHint T key); once = λ i j d first last. absurd (omega (arith, last)) }

-- ---- gathering them

-- what is read of texts is theirs
pub tree_read : (T : Texts) (it : Seen) → IsOf T it → option_and_then tree_of (seen_text it) ≡ tree_at (sources_of T) it.name
tree_read T it is = ap (λ (o : Option (List ℕ)). option_and_then tree_of o) (ap (option_map text_in) (sym is) ∙ sym (get_source T it.name))

pub of_at : (T : Texts) (reads : List Read) (i : ℕ) (read : Read) → i < length reads → read ≡ get_or reads i read → All (IsOf T) (all_seen reads) → IsOf T (seen_of read)
of_at T reads i read lt is all =
    subst (IsOf T) (get_or-map seen_of reads i read (seen_of read) lt ∙ ap seen_of (sym is))
    (All-get_or (IsOf T) (all_seen reads) i (seen_of read) (omega (arith, lt, length-map reads seen_of)) all)

pub nothing_chosen : (T : Texts) (kept : Key → Option Finding) (unit : List ℕ) (hints : List Hint) → hints ≡ [] → AreChosen T kept unit [] hints
nothing_chosen T kept unit hints e = record { units = ap units_of e; nets = subst (All (IsKeptHint kept)) (sym e) (All-nil (IsKeptHint kept)) }

pub names_more : (reads : List Read) (read : Read) → read_names (all_seen (reads ++ read ∷ [])) ≡ read_names (all_seen reads) ++ read.name ∷ []
names_more [] read = refl
names_more (r ∷ reads) read = ap (λ ns. r.name ∷ ns) (names_more reads read)

pub one_more_read : (T : Texts) (kept : Key → Option Finding) (unit : List ℕ) (before now : List Read) (read : Read) (old new : List Hint) → now ≡ before ++ read ∷ [] → AreChosen T kept unit (all_seen before) old → AddsChosen T kept unit read.name old new → AreChosen T kept unit (all_seen now) new
one_more_read T kept unit before now read old new more so_far adds = record {
  units =
      adds.units ∙ ap (λ ns. ns ++ filter (is_chosen T kept unit) (read.name ∷ [])) so_far.units
      ∙ sym (filter-append (is_chosen T kept unit) (read_names (all_seen before)) (read.name ∷ []))
      ∙ ap (filter (is_chosen T kept unit)) (sym (names_more before read) ∙ ap (λ (rs : List Read). read_names (all_seen rs)) (sym more));
  nets = adds.nets so_far.nets;
}

-- one name more, which is not chosen
pub adds_none : (T : Texts) (kept : Key → Option Finding) (unit name : List ℕ) (hints : List Hint) → is_chosen T kept unit name ≡ false → AddsChosen T kept unit name hints hints
adds_none T kept unit name hints e = record {
  units = sym (append-nil (units_of hints)) ∙ ap (λ b. units_of hints ++ cond b (name ∷ []) []) (sym e);
  nets = λ had. had;
}

-- or which is
pub adds_one : (T : Texts) (kept : Key → Option Finding) (unit name : List ℕ) (old new : List Hint) (hint : Hint) → is_chosen T kept unit name ≡ true → hint.unit ≡ name → IsKeptHint kept hint → new ≡ old ++ hint ∷ [] → AddsChosen T kept unit name old new
adds_one T kept unit name old new hint e named has more = record {
  units =
      ap units_of more ∙ map-append (λ (h : Hint). h.unit) old (hint ∷ []) ∙ ap (λ n. units_of old ++ n ∷ []) named
      ∙ ap (λ b. units_of old ++ cond b (name ∷ []) []) (sym e);
  nets = λ had. subst (All (IsKeptHint kept)) (sym more) (All-push (IsKeptHint kept) old hint had has);
}
