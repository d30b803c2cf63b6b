-- What is found under a name, after some units were put there.
use Rattle.std.proofs.Common.{◌≡◌, ℕ, Bool, true, false, ◌||◌, ◌&&◌, not, if◌then◌else◌, List, [], ◌∷◌, map, refl, sym, ap, ◌∙◌, subst, Option, Some, None, Result, Ok, Err, OnOk, OnErr, cond, unwrap_or, is_some}
use Rattle.std.proofs.{lemmas.Map.{lookup-remove_entry}, lemmas.Map.Keys.{IsDistinct-from_sorted}}
use Rattle.std.specs.{List.Sorted.{IsStrictlySortedBy}, Map.{lookup, remove_entry}, BTreeMap.{is_at, insert_entry}, BTreeSet.{BTreeSet}}
use Rattle.std.specs.{Ordering.{match_ordering, is_eq}, Cmp.{eq_by_cmp_equiv}, declared.cmp.Ordering.TheVariants.{Less, Equal, Greater}}
use Rattle.std.specs.BTreeSet as set
use Rattle.fb_text.proofs.Tests.{and_false, and_true, or_false, no_both}
use Rattle.fb_text.specs.Order.{name_cmp}
use Rattle.fb_library.specs.Seen.{has_name}
use Rattle.fb_library.proofs.{Names.{name_total, exact_name}, Places.{sorted_put, sorted_removed}, SeenLemmas.{same_is, same_self}}
use Rattle.fb_tree.specs.Mentions.{Mentioned}
use Rattle.fb_index.specs.{Users.{UsersByName, users_of, uses, UsesThese, NowUses}, Indexed.{Indexed, mark_of, is_indexed, IsIndexedAs, IsRemoved, IsReplaced}}
use Rattle.fb_index.specs.Steps.{is_only_in, HasJoined, HasLeft}
use Rattle.fb_index.proofs.Bits.{own_bits, other_bits}

pub flips : (a b : List ℕ) → is_at (name_cmp a) b ≡ is_at (name_cmp b) a
flips a b = (eq_by_cmp_equiv name_total).symm a b

module _ {V : Type 0} where
  beside : (a b : Bool) (x v : V) (r old : Option V) → (a ≡ true → b ≡ false) → r ≡ cond b (Some v) old → cond a (Some x) r ≡ cond b (Some v) (cond a (Some x) old)
  beside true true x v r old apart rest = no_both true refl (apart refl)
  beside true false x v r old apart rest = refl
  beside false b x v r old apart rest = rest

  above : (b : Bool) (x v : V) (old : Option V) → cond b (Some v) old ≡ cond b (Some v) (cond b (Some x) old)
  above true x v old = refl
  above false x v old = refl

  pub found_put : (es : List (List ℕ × V)) (k n : List ℕ) (v : V) → lookup (is_at (name_cmp n)) (insert_entry name_cmp es k v) ≡ cond (is_at (name_cmp k) n) (Some v) (lookup (is_at (name_cmp n)) es)
  found_put [] k n v = ap (λ b. cond b (Some v) None) (flips n k)
  found_put (e ∷ es) k n v =
      elim (name_cmp k e.0) as (λ o. name_cmp k e.0 ≡ o → lookup (is_at (name_cmp n)) (match_ordering o ((k, v) ∷ e ∷ es) ((e.0, v) ∷ es) (e ∷ insert_entry name_cmp es k v)) ≡ cond (is_at (name_cmp k) n) (Some v) (lookup (is_at (name_cmp n)) (e ∷ es))) [
        | Less ↦ λ _. ap (λ b. cond b (Some v) (lookup (is_at (name_cmp n)) (e ∷ es))) (flips n k)
        | Equal ↦ λ same.
            let here : is_at (name_cmp n) e.0 ≡ is_at (name_cmp k) n = ap (is_at (name_cmp n)) (sym (exact_name k e.0 same)) ∙ flips n k in
            ap (λ b. cond b (Some v) (lookup (is_at (name_cmp n)) es)) here
            ∙ above (is_at (name_cmp k) n) e.1 v (lookup (is_at (name_cmp n)) es)
            ∙ sym (ap (λ b. cond (is_at (name_cmp k) n) (Some v) (cond b (Some e.1) (lookup (is_at (name_cmp n)) es))) here)
        | Greater ↦ λ greater.
            beside (is_at (name_cmp n) e.0) (is_at (name_cmp k) n) e.1 v _ _
            (λ here. ap (is_at (name_cmp k)) (same_is n e.0 here) ∙ ap is_eq greater)
            (found_put es k n v)
      ] refl

  pub found_removed : (es : List (List ℕ × V)) (k n : List ℕ) → IsStrictlySortedBy name_cmp (map (λ e. e.0) es) → lookup (is_at (name_cmp n)) (remove_entry (is_at (name_cmp k)) es) ≡ cond (is_at (name_cmp k) n) None (lookup (is_at (name_cmp n)) es)
  found_removed es k n sorted =
      lookup-remove_entry (eq_by_cmp_equiv name_total) (is_at (name_cmp k)) (λ x y at. ap (λ z. is_at (name_cmp z) y) (same_is k x at)) n es (IsDistinct-from_sorted name_cmp _ sorted)

-- ---- names in a table

module _ {V : Type 0} where
  pub found_name : (es : List (List ℕ × V)) (n : List ℕ) → is_some (lookup (is_at (name_cmp n)) es) ≡ has_name (map (λ e. e.0) es) n
  found_name [] n = refl
  found_name (e ∷ es) n = here (is_at (name_cmp n) e.0) e.1 (lookup (is_at (name_cmp n)) es) ∙ ap (λ b. is_at (name_cmp n) e.0 || b) (found_name es n)
    where
      here : (b : Bool) (v : V) (o : Option V) → is_some (cond b (Some v) o) ≡ (b || is_some o)
      here true v o = refl
      here false v o = refl

  put_bits : (b : Bool) (v : V) (o : Option V) → is_some (cond b (Some v) o) ≡ (is_some o || b)
  put_bits true v (Some w) = refl
  put_bits true v None = refl
  put_bits false v (Some w) = refl
  put_bits false v None = refl

  removed_bits : (b : Bool) (o : Option V) → is_some (cond b None o) ≡ (is_some o && not b)
  removed_bits true (Some w) = refl
  removed_bits true None = refl
  removed_bits false (Some w) = refl
  removed_bits false None = refl

  pub name_put : (es new : List (List ℕ × V)) (k : List ℕ) (v : V) → new ≡ insert_entry name_cmp es k v → (n : List ℕ) → has_name (map (λ e. e.0) new) n ≡ (has_name (map (λ e. e.0) es) n || is_at (name_cmp k) n)
  name_put es new k v is n =
      ap (λ (t : List (List ℕ × V)). has_name (map (λ e. e.0) t) n) is
      ∙ sym (found_name (insert_entry name_cmp es k v) n)
      ∙ ap is_some (found_put es k n v)
      ∙ put_bits (is_at (name_cmp k) n) v (lookup (is_at (name_cmp n)) es)
      ∙ ap (λ b. b || is_at (name_cmp k) n) (found_name es n)

  pub name_removed : (es new : List (List ℕ × V)) (k : List ℕ) → IsStrictlySortedBy name_cmp (map (λ e. e.0) es) → new ≡ remove_entry (is_at (name_cmp k)) es → (n : List ℕ) → has_name (map (λ e. e.0) new) n ≡ (has_name (map (λ e. e.0) es) n && not (is_at (name_cmp k) n))
  name_removed es new k sorted is n =
      ap (λ (t : List (List ℕ × V)). has_name (map (λ e. e.0) t) n) is
      ∙ sym (found_name (remove_entry (is_at (name_cmp k)) es) n)
      ∙ ap is_some (found_removed es k n sorted)
      ∙ removed_bits (is_at (name_cmp k) n) (lookup (is_at (name_cmp n)) es)
      ∙ ap (λ b. b && not (is_at (name_cmp k) n)) (found_name es n)

-- ---- the table of an index

found_units : (b : Bool) (units : List (List ℕ)) (rest : Option (List (List ℕ))) → unwrap_or (cond b (Some units) rest) [] ≡ (if b then units else unwrap_or rest [])
found_units true units rest = refl
found_units false units rest = refl

found_none : (b : Bool) (rest : Option (List (List ℕ))) → unwrap_or (cond b None rest) [] ≡ (if b then [] else unwrap_or rest [])
found_none true rest = refl
found_none false rest = refl

pub users_put : (old new : UsersByName) (k : List ℕ) (units : List (List ℕ)) → new ≡ insert_entry name_cmp old k units → (n : List ℕ) → users_of new n ≡ (if is_at (name_cmp k) n then units else users_of old n)
users_put old new k units is n =
    ap (λ (t : UsersByName). users_of t n) is
    ∙ ap (λ o. unwrap_or o []) (found_put old k n units)
    ∙ found_units (is_at (name_cmp k) n) units (lookup (is_at (name_cmp n)) old)

pub users_removed : (old new : UsersByName) (k : List ℕ) (units : List (List ℕ)) → IsStrictlySortedBy name_cmp (map (λ e. e.0) old) → new ≡ remove_entry (is_at (name_cmp k)) old → units ≡ [] → (n : List ℕ) → users_of new n ≡ (if is_at (name_cmp k) n then units else users_of old n)
users_removed old new k units sorted is none n =
    ap (λ (t : UsersByName). users_of t n) is
    ∙ ap (λ o. unwrap_or o []) (found_removed old k n sorted)
    ∙ found_none (is_at (name_cmp k) n) (lookup (is_at (name_cmp n)) old)
    ∙ ap (λ us. if is_at (name_cmp k) n then us else users_of old n) (sym none)

-- ---- one unit under one name

left_bits : (b u : Bool) (mine units : List (List ℕ)) (other : List ℕ) → (b ≡ true → has_name mine other ≡ (has_name units other && not u)) → has_name (if b then mine else units) other ≡ (has_name units other && not (u && b))
left_bits true u mine units other less = less refl ∙ ap (λ c. has_name units other && not c) (sym (and_true u))
left_bits false u mine units other less = sym (ap (λ c. has_name units other && not c) (and_false u) ∙ and_true (has_name units other))

-- the unit is taken out under the name `k`
pub unit_left : (old new : UsersByName) (k unit : List ℕ) (others : List (List ℕ)) → ((other : List ℕ) → has_name others other ≡ (has_name (users_of old k) other && not (is_at (name_cmp unit) other))) → ((n : List ℕ) → users_of new n ≡ (if is_at (name_cmp k) n then others else users_of old n)) → (other n : List ℕ) → uses new other n ≡ (uses old other n && not (is_at (name_cmp unit) other && is_at (name_cmp k) n))
unit_left old new k unit others less are other n =
    ap (λ us. has_name us other) (are n)
    ∙ left_bits (is_at (name_cmp k) n) (is_at (name_cmp unit) other) others (users_of old n) other
    (λ at. less other ∙ ap (λ m. has_name (users_of old m) other && not (is_at (name_cmp unit) other)) (same_is k n at))

joined_bits : (b u : Bool) (mine units : List (List ℕ)) (other : List ℕ) → (b ≡ true → has_name mine other ≡ (has_name units other || u)) → has_name (if b then mine else units) other ≡ (has_name units other || (u && b))
joined_bits true u mine units other more = more refl ∙ ap (λ c. has_name units other || c) (sym (and_true u))
joined_bits false u mine units other more = sym (ap (λ c. has_name units other || c) (and_false u) ∙ or_false (has_name units other))

-- the unit is put under the name `k`
pub unit_joined : (old new : UsersByName) (k unit : List ℕ) (units : List (List ℕ)) → ((other : List ℕ) → has_name units other ≡ (has_name (users_of old k) other || is_at (name_cmp unit) other)) → ((n : List ℕ) → users_of new n ≡ (if is_at (name_cmp k) n then units else users_of old n)) → (other n : List ℕ) → uses new other n ≡ (uses old other n || (is_at (name_cmp unit) other && is_at (name_cmp k) n))
unit_joined old new k unit units more are other n =
    ap (λ us. has_name us other) (are n)
    ∙ joined_bits (is_at (name_cmp k) n) (is_at (name_cmp unit) other) units (users_of old n) other
    (λ at. more other ∙ ap (λ m. has_name (users_of old m) other || is_at (name_cmp unit) other) (same_is k n at))

-- ---- the rows stay in order

module _ {V T E : Type 0} where
  pub rows_put : (r : Result T E) (rows new : List (List ℕ × V)) (k : List ℕ) (v : V) → OnOk r (new ≡ insert_entry name_cmp rows k v) → OnErr r (new ≡ rows) → IsStrictlySortedBy name_cmp (map (λ e. e.0) rows) → IsStrictlySortedBy name_cmp (map (λ e. e.0) new)
  rows_put (Ok x) rows new k v is was sorted = subst (λ (t : List (List ℕ × V)). IsStrictlySortedBy name_cmp (map (λ e. e.0) t)) (sym is) (sorted_put rows k v sorted)
  rows_put (Err x) rows new k v is was sorted = subst (λ (t : List (List ℕ × V)). IsStrictlySortedBy name_cmp (map (λ e. e.0) t)) (sym was) sorted

  pub rows_removed : (r : Result T E) (rows new : List (List ℕ × V)) (k : List ℕ) → OnOk r (new ≡ remove_entry (is_at (name_cmp k)) rows) → OnErr r (new ≡ rows) → IsStrictlySortedBy name_cmp (map (λ e. e.0) rows) → IsStrictlySortedBy name_cmp (map (λ e. e.0) new)
  rows_removed (Ok x) rows new k is was sorted = subst (λ (t : List (List ℕ × V)). IsStrictlySortedBy name_cmp (map (λ e. e.0) t)) (sym is) (sorted_removed (is_at (name_cmp k)) rows sorted)
  rows_removed (Err x) rows new k is was sorted = subst (λ (t : List (List ℕ × V)). IsStrictlySortedBy name_cmp (map (λ e. e.0) t)) (sym was) sorted

-- ---- one unit with what it uses

module _ (old a new : UsersByName) (unit : List ℕ) (was now : List (List ℕ)) (before after : BTreeSet (List ℕ)) where
  -- what the two steps leave: `u` is whether it is the unit, and `ka` and `kb` whether the name is a new or an old one
  abbrev steps : (u ka kb used o n : Bool) → Bool
  steps u ka kb used o n = (used && not (u && (o && not ka))) || (u && (n && not kb))

  pub replaced : ((n : List ℕ) → set.contains name_cmp before n ≡ has_name was n) → ((n : List ℕ) → set.contains name_cmp after n ≡ has_name now n) → UsesThese old unit was → HasLeft old unit (is_only_in was after) a → HasJoined a unit (is_only_in now before) new → NowUses old unit now new
  replaced befores afters known out put = record {
    own = λ n.
        all unit n
        ∙ (λ i. steps (same_self unit i) (afters n i) (befores n i) (known n i) (has_name was n) (has_name now n))
        ∙ own_bits (has_name was n) (has_name now n);
    others = λ other n apart.
        all other n
        ∙ ap (λ u. steps u (set.contains name_cmp after n) (set.contains name_cmp before n) (uses old other n) (has_name was n) (has_name now n)) apart
        ∙ other_bits (uses old other n);
  }
    where
      all : (other n : List ℕ) → uses new other n ≡ steps (is_at (name_cmp unit) other) (set.contains name_cmp after n) (set.contains name_cmp before n) (uses old other n) (has_name was n) (has_name now n)
      all other n = put other n ∙ ap (λ x. x || (is_at (name_cmp unit) other && (has_name now n && not (set.contains name_cmp before n)))) (out other n)

-- ---- the marks

found : (b c : Bool) (o : Option Bool) → b ≡ true → cond b (Some c) o ≡ Some c
found b c o is = ap (λ b. cond b (Some c) o) is

module _ (old new : Indexed) (unit : List ℕ) (m : Mentioned) where
  pub unit_replaced : NowUses old.parts unit m.parts new.parts → NowUses old.of_values unit m.of_values new.of_values → new.units ≡ insert_entry name_cmp old.units unit m.is_structure → IsReplaced old unit m new
  unit_replaced parts of_values units = record {
    own = record { parts = parts.own; of_values = of_values.own; structure = ap (λ o. unwrap_or o false) here };
    there = ap is_some here;
    others = λ other apart. record { parts = λ n. parts.others other n apart; of_values = λ n. of_values.others other n apart; mark = mark other ∙ ap (λ b. cond b (Some m.is_structure) (mark_of old.units other)) apart };
  }
    where
      mark : (n : List ℕ) → mark_of new.units n ≡ cond (is_at (name_cmp unit) n) (Some m.is_structure) (mark_of old.units n)
      mark n = ap (λ us. mark_of us n) units ∙ found_put old.units unit n m.is_structure

      here : mark_of new.units unit ≡ Some m.is_structure
      here = mark unit ∙ found (is_at (name_cmp unit) unit) m.is_structure (mark_of old.units unit) (same_self unit)

module _ (old new : Indexed) (unit : List ℕ) where
  pub unit_removed : NowUses old.parts unit [] new.parts → NowUses old.of_values unit [] new.of_values → IsStrictlySortedBy name_cmp (map (λ e. e.0) old.units) → new.units ≡ remove_entry (is_at (name_cmp unit)) old.units → IsRemoved old unit new
  unit_removed parts of_values sorted units = record {
    own = record { parts = parts.own; of_values = of_values.own; structure = ap (λ o. unwrap_or o false) here };
    gone = ap is_some here;
    others = λ other apart. record { parts = λ n. parts.others other n apart; of_values = λ n. of_values.others other n apart; mark = mark other ∙ ap (λ b. cond b None (mark_of old.units other)) apart };
  }
    where
      mark : (n : List ℕ) → mark_of new.units n ≡ cond (is_at (name_cmp unit) n) None (mark_of old.units n)
      mark n = ap (λ us. mark_of us n) units ∙ found_removed old.units unit n sorted

      here : mark_of new.units unit ≡ None
      here = mark unit ∙ ap (λ b. cond b None (mark_of old.units unit)) (same_self unit)

-- a unit that is indexed with its mentions need not be indexed anew
pub unchanged : (it : Indexed) (unit : List ℕ) (was now : Mentioned) → IsIndexedAs it unit was → was ≡ now → is_indexed it unit ≡ true → IsReplaced it unit now it
unchanged it unit was now known same there = record {
  own = subst (IsIndexedAs it unit) same known;
  there = there;
  others = λ other apart. record { parts = λ n. refl; of_values = λ n. refl; mark = refl };
}
