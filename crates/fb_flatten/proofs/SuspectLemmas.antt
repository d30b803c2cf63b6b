-- The walk to the names among which those that block a unit, or reach themselves, are looked for.
use Rattle.std.proofs.Common.{◌≡◌, ℕ, ◌+◌, ◌<◌, Bool, true, false, if◌then◌else◌, inl, inr, List, [], ◌∷◌, ◌++◌, length, Option, None, refl, sym, ap, subst, ◌∙◌, arith}
use Rattle.std.proofs.lemmas.Bool.{or_left, or_right}
use Rattle.std.specs.{Prelude.{Contains, ◌≢◌, filter}, FinMap.{get}}
use Rattle.fb_types.proofs.{Text.Tests.{no_both, by_bool, or_cases, or_false}, Text.Members.{contains_nothing}, Library.Locality.{part_mention, rests_more}}
use Rattle.fb_types.proofs.Library.SeenLemmas.{same, same_is, same_self}
use Rattle.fb_types.proofs.Library.WalkLemmas.{Contains-has, has-Contains, has-push, longer, mentioned_somewhere}
use Rattle.fb_types.specs.{Library.View.{Sources, mentions_at, mentions_in, parts_at, tree_at}, Library.Near.{in_all_trees}}
use Rattle.fb_types.specs.{Library.Rests.{Rests, itself, through}, Library.Seen.{Opens, has_name, unseen}, Reaches.{IsRecursive}, Units.{has_net_in}}
use Rattle.fb_faults.specs.Faults.{faults_of}
use Rattle.fb_flatten.specs.{Blocking.{AreThose, IsBlocking, IsPartBelow, is_blocking}, Hints.{AreRightHints, is_whole_hint}, Net.{PlainNet}}
use Rattle.fb_flatten.specs.Suspects.{AreSuspects, mentions_beyond, parts_beyond, is_part_beyond}
use Rattle.fb_flatten.proofs.{Depths.{some_of, some_passes}, HintLemmas.{known_sound}, NetLemmas.{blocking_those}}

last_has : (names : List (List ℕ)) (x : List ℕ) → has_name (names ++ x ∷ []) x ≡ true
last_has names x = has-push names x x ∙ or_right (has_name names x) (same x x) (same_self x)

-- what all units mention
abbrev pub all_mentions : Sources → List (List ℕ)
all_mentions sources = in_all_trees mentions_in sources

module _ (hints : List ℕ → Option PlainNet) (sources : Sources) (unit : List ℕ) where
  abbrev next : List ℕ → List (List ℕ)
  next = mentions_beyond hints sources

  next_mentioned : (n q : List ℕ) → has_name (next n) q ≡ true → has_name (mentions_at sources n) q ≡ true
  next_mentioned n q h = grind arith

  -- seen names are rested on; what those that are not pending mention is seen, save below units that are known to be whole
  pub record IsSearch (seen pending : List (List ℕ)) : Type 0 where
    pub start : has_name seen unit ≡ true
    pub sound : (q : List ℕ) → has_name seen q ≡ true → Rests sources unit q
    pub within : (q : List ℕ) → has_name pending q ≡ true → has_name seen q ≡ true
    pub closed : (q w : List ℕ) → has_name seen q ≡ true → has_name pending q ≡ false → has_name (next q) w ≡ true → has_name seen w ≡ true

  pub IsSearch-begin : (seen pending : List (List ℕ)) → ((q : List ℕ) → has_name seen q ≡ same q unit) → pending ≡ unit ∷ [] → IsSearch seen pending
  IsSearch-begin seen pending one is =
      record {
        start = one unit ∙ same_self unit;
        sound = λ q h. subst (Rests sources unit) (sym (same_is q unit (sym (one q) ∙ h))) itself;
        within = λ q h. one q ∙ sym (or_false (same q unit)) ∙ sym (ap (λ l. has_name l q) is) ∙ h;
        closed = λ q w s o m. no_both (same q unit) (sym (one q) ∙ s) (sym (or_false (same q unit)) ∙ sym (ap (λ l. has_name l q) is) ∙ o);
      }

  pub IsSearch-step : (seen pending seen' pending' : List (List ℕ)) (name : List ℕ) → IsSearch seen (pending ++ name ∷ []) → Opens (next name) seen pending seen' pending' → IsSearch seen' pending'
  IsSearch-step seen pending seen' pending' name walk opens =
      let named : has_name seen name ≡ true = walk.within name (last_has pending name) in
      let grows : (q : List ℕ) → has_name seen q ≡ true → has_name seen' q ≡ true = λ q h. opens.marks q ∙ or_left (has_name seen q) _ h in
      record {
        start = grows unit walk.start;
        sound = λ q h. or_cases (has_name seen q) (has_name (next name) q) (sym (opens.marks q) ∙ h)
            (walk.sound q)
            (λ m. rests_more (walk.sound name named) (Contains-has q (mentions_at sources name) (next_mentioned name q m)));
        within = λ q h. let only = opens.only q h in grind (arith, opens.marks q, walk.within q, has-push pending name q);
        closed = λ q w s o m.
            let on : same q name ≡ true → has_name (next name) w ≡ true = λ is. sym (ap (λ n. has_name (next n) w) (same_is q name is)) ∙ m in
            let opened = opens.opened q s in
            let kept = opens.keeps q in
            let closed = walk.closed q w in
            grind (arith, opens.marks w, has-push pending name q);
      }

  pub search_falls : (name : List ℕ) (seen pending seen' pending' before : List (List ℕ)) → Opens (next name) seen pending seen' pending' → before ≡ pending ++ name ∷ [] → unseen seen' (all_mentions sources) + length pending' < unseen seen (all_mentions sources) + length before
  search_falls name seen pending seen' pending' before opens is =
      let falls = opens.falls (all_mentions sources) (λ q h. has-Contains q (all_mentions sources) (mentioned_somewhere mentions_in refl sources name q (Contains-has q (mentions_at sources name) (next_mentioned name q h)))) in
      let more = longer before pending name is in
      omega (arith, falls, more)

  -- no unit rests on the name that is known to be whole
  abbrev IsOpen : List ℕ → Type 0
  IsOpen v = (n : List ℕ) → is_whole_hint (hints n) ≡ true → Rests sources n v → ⊥

  next_seen : (seen : List (List ℕ)) → IsSearch seen [] → (u w : List ℕ) → has_name seen u ≡ true → is_whole_hint (hints u) ≡ false → Contains (mentions_at sources u) w → has_name seen w ≡ true
  next_seen seen walk u w h clear m = walk.closed u w h refl (ap (λ b. has_name (if b then [] else mentions_at sources u) w) clear ∙ has-Contains w (mentions_at sources u) m)

  reached : (seen : List (List ℕ)) → IsSearch seen [] → {u v : List ℕ} → has_name seen u ≡ true → Rests sources u v → IsOpen v → has_name seen v ≡ true
  reached seen walk h itself clear = h
  reached seen walk {u} {v} h (through {w = w} m r) clear =
      by_bool (is_whole_hint (hints u))
      (λ t. absurd (clear u t (through m r)))
      (λ f. reached seen walk (next_seen seen walk u w h f m) r clear)

  module _ (right : AreRightHints sources hints) where
    faulty_open : (v : List ℕ) → (faults_of sources v ≢ []) → IsOpen v
    faulty_open v faulty n t r = contains_nothing v (((known_sound sources hints n right t).whole.members v).1 (r, inl faulty))

    holder_open : (v holder : List ℕ) → get sources v ≡ None → Contains (parts_at sources holder) v → IsOpen holder
    holder_open v holder absent m n t r =
        contains_nothing v (((known_sound sources hints n right t).whole.members v).1 (rests_more r (part_mention sources holder v m), inr (absent, (holder, r, m))))

    recursive_open : (v : List ℕ) → IsRecursive sources v → IsOpen v
    recursive_open v rec n t r = contains_nothing v (((known_sound sources hints n right t).finite.members v).1 (r, rec))

    not_whole : (v : List ℕ) → IsOpen v → is_whole_hint (hints v) ≡ false
    not_whole v clear = by_bool (is_whole_hint (hints v)) (λ t. absurd (clear v t itself)) (λ f. f)

    module _ (seen : List (List ℕ)) (walk : IsSearch seen []) where
      -- what has an absent part is seen
      holder_seen : (v holder : List ℕ) → get sources v ≡ None → Rests sources unit holder → Contains (parts_at sources holder) v → has_name seen holder ≡ true
      holder_seen v holder absent r m = reached seen walk walk.start r (holder_open v holder absent m)

      -- all that block the unit are seen
      pub all_seen : (v : List ℕ) → Rests sources unit v → IsBlocking sources unit v → has_name seen v ≡ true
      all_seen v r (inl faulty) = reached seen walk walk.start r (faulty_open v faulty)
      all_seen v r (inr (absent, (holder, below, m))) =
          next_seen seen walk holder v (holder_seen v holder absent below m) (not_whole holder (holder_open v holder absent m)) (part_mention sources holder v m)

      -- all that reach themselves are seen
      pub recursive_seen : (v : List ℕ) → Rests sources unit v → IsRecursive sources v → has_name seen v ≡ true
      recursive_seen v r rec = reached seen walk walk.start r (recursive_open v rec)

      -- an absent part is one of what is seen
      pub part_seen : (names : List (List ℕ)) → names ≡ seen → (v : List ℕ) → get sources v ≡ None → IsPartBelow sources unit v → is_part_beyond hints sources names v ≡ true
      part_seen names is v absent (holder, below, m) =
          some_of (λ h. has_name (parts_beyond hints sources h) v) names holder
          (ap (λ l. has_name l holder) is ∙ holder_seen v holder absent below m)
          (ap (λ b. has_name (if b then [] else parts_at sources holder) v) (not_whole holder (holder_open v holder absent m)) ∙ has-Contains v (parts_at sources holder) m)

-- such a part is one of what the unit rests on
pub part_beyond_below : (hints : List ℕ → Option PlainNet) (sources : Sources) (unit : List ℕ) (names : List (List ℕ)) → ((v : List ℕ) → Contains names v → Rests sources unit v) → (v : List ℕ) → is_part_beyond hints sources names v ≡ true → IsPartBelow sources unit v
part_beyond_below hints sources unit names sound v told =
    let s = some_passes (λ h. has_name (parts_beyond hints sources h) v) names told in
    (s.0, sound s.0 (Contains-has s.0 names s.1), Contains-has v (parts_at sources s.0) (beyond s.0 s.2))
  where
    beyond : (n : List ℕ) → has_name (parts_beyond hints sources n) v ≡ true → has_name (parts_at sources n) v ≡ true
    beyond n h = grind arith

-- those among the suspects that block the unit
pub blocking_found : (hints : List ℕ → Option PlainNet) (sources : Sources) (unit : List ℕ) (names found : List (List ℕ)) (is_part : List ℕ → Bool) → AreSuspects hints sources unit names → ((v : List ℕ) → Contains names v → get sources v ≡ None → is_part v ≡ is_part_beyond hints sources names v) → found ≡ filter (is_blocking sources is_part) names → AreThose sources unit (IsBlocking sources unit) found
blocking_found hints sources unit names found is_part known told is =
    blocking_those is_part names found known.sorted known.sound known.complete
    (λ v c absent part. part_beyond_below hints sources unit names known.sound v (sym (told v c absent) ∙ part))
    (λ v c absent below. told v c absent ∙ known.holders v absent below)
    is

-- a unit that has a net is present
pub present_of_net : (sources : Sources) (unit : List ℕ) → has_net_in (tree_at sources unit) ≡ true → get sources unit ≢ None
present_of_net sources unit has = grind arith
