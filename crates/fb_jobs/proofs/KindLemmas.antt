-- All kinds, and the keys of names with each of them.
use Rattle.std.proofs.{Common.{◌≡◌, ℕ, Bool, true, false, ◌&&◌, ◌||◌, List, [], ◌∷◌, ◌++◌, refl, sym, ap, ◌∙◌, cond, arith, None}, lemmas.Cmp.{tied_itself}}
use Rattle.std.proofs.lemmas.List.Folds.{list_any-append}
use Rattle.std.specs.{List.{AllByRecursion, Contains, list_any, flat_map}, List.Sorted.{IsStrictlySortedBy}, BTreeMap.{is_at}}
use Rattle.std.specs.{Cmp.{IsTotalOrder, on_total, nat_cmp_total}, FinMap.{nat_cmp-IsAntisymmetric}, Ordering.{ordering_then, is_eq}}
use Rattle.std.specs.{declared.cmp.Ordering.{Ordering}, declared.cmp.Ordering.TheVariants.{Less, Equal, Greater}}
use Rattle.fb_text.proofs.{Tests.{and_false}, OrderLemmas.{is_equal}}
use Rattle.fb_text.specs.Order.{name_cmp}
use Rattle.fb_deploy.specs.{Library.View.{Sources}, Library.Near.{near_of}, Flatten.Far.{far_of}}
use Rattle.fb_jobs.specs.{declared.keys.key.Kind.{Kind}, declared.keys.key.Kind.TheVariants.{Faults, Net, Deploy}, declared.keys.key.Key.{Key}}
use Rattle.fb_jobs.specs.{KeyOrder.{kind_number, kind_cmp, key_cmp, same_key}, Keys.{has_kind_at, needs_of}}
use Rattle.fb_jobs.specs.{Kinds.{all_kinds, all_keys, keys_near_and_far, keys_of_kind, names_for, needs_all}, Reads.{is_among}}
use Rattle.fb_jobs.proofs.Order.{exact_kind}

-- ---- each kind

pub kind_there : (kind : Kind) → Contains all_kinds kind
kind_there Faults = (0, omega arith, refl)
kind_there Net = (1, omega arith, refl)
kind_there Deploy = (2, omega arith, refl)

pub kinds_rise : IsStrictlySortedBy kind_cmp all_kinds
unfolding IsStrictlySortedBy
kinds_rise = ((refl, (refl, tt)), ((refl, tt), (tt, tt)))

kind_listed : (kind : Kind) → list_any (is_at (kind_cmp kind)) all_kinds ≡ true
kind_listed Faults = refl
kind_listed Net = refl
kind_listed Deploy = refl

-- a unit without a text has no key
pub no_kind : (kind : Kind) → has_kind_at kind None ≡ false
no_kind Faults = refl
no_kind Net = refl
no_kind Deploy = refl

-- what a key needs is near its unit, or all that the unit rests on
pub needs_by : (kind : Kind) (sources : Sources) (unit : List ℕ) → needs_of kind sources unit ≡ cond (needs_all kind) (far_of sources unit) (near_of sources unit)
needs_by Faults sources unit = refl
needs_by Net sources unit = refl
needs_by Deploy sources unit = refl

-- ---- which keys are there

kind_total : IsTotalOrder kind_cmp
kind_total = on_total kind_number nat_cmp_total

same_kind : (a b : Kind) → is_at (kind_cmp a) b ≡ true → a ≡ b
same_kind a b e = exact_kind a b (nat_cmp-IsAntisymmetric (kind_number a) (kind_number b) (is_equal (kind_cmp a b) e))

both_eq : (r s : Ordering) → is_eq (ordering_then r s) ≡ (is_eq r && is_eq s)
both_eq Less s = refl
both_eq Equal s = refl
both_eq Greater s = refl

and_or : (a b c : Bool) → ((a && b) || (a && c)) ≡ (a && (b || c))
and_or true b c = refl
and_or false b c = refl

-- the names with one kind
in_kind : (key : Key) (kind : Kind) (names : List (List ℕ)) → list_any (same_key key) (keys_of_kind names kind) ≡ (is_at (kind_cmp key.kind) kind && is_among key.unit names)
in_kind key kind [] = sym (and_false (is_at (kind_cmp key.kind) kind))
in_kind key kind (n ∷ ns) =
    (λ i. both_eq (kind_cmp key.kind kind) (name_cmp key.unit n) i || in_kind key kind ns i)
    ∙ and_or (is_at (kind_cmp key.kind) kind) (is_at (name_cmp key.unit) n) (is_among key.unit ns)

-- for each kind its names with it
module _ (names_of : Kind → List (List ℕ)) where
  in_kinds : (key : Key) (kinds : List Kind) → list_any (same_key key) (flat_map (λ kind. keys_of_kind (names_of kind) kind) kinds) ≡ (list_any (is_at (kind_cmp key.kind)) kinds && is_among key.unit (names_of key.kind))
  in_kinds key [] = refl
  in_kinds key (kind ∷ kinds) =
      list_any-append (same_key key) (keys_of_kind (names_of kind) kind) (flat_map (λ kind. keys_of_kind (names_of kind) kind) kinds)
      ∙ (λ i. in_kind key kind (names_of kind) i || in_kinds key kinds i)
      ∙ step (is_at (kind_cmp key.kind) kind) (list_any (is_at (kind_cmp key.kind)) kinds) (λ e. ap (λ k. is_among key.unit (names_of k)) (sym (same_kind key.kind kind e)))
    where
      step : (a b : Bool) {here there : Bool} → (a ≡ true → here ≡ there) → ((a && here) || (b && there)) ≡ ((a || b) && there)
      step true b {here} {there} same = ap (λ c. c || (b && there)) (same refl) ∙ absorbed there b
        where
          absorbed : (c d : Bool) → (c || (d && c)) ≡ c
          absorbed true d = refl
          absorbed false d = and_false d
      step false b same = refl

  in_all : (key : Key) → list_any (same_key key) (flat_map (λ kind. keys_of_kind (names_of kind) kind) all_kinds) ≡ is_among key.unit (names_of key.kind)
  in_all key = in_kinds key all_kinds ∙ ap (λ b. b && is_among key.unit (names_of key.kind)) (kind_listed key.kind)

pub in_near_and_far : (nears fars : List (List ℕ)) (key : Key) → list_any (same_key key) (keys_near_and_far nears fars) ≡ is_among key.unit (names_for nears fars key.kind)
in_near_and_far nears fars key = in_all (names_for nears fars) key

-- each name with each kind is one of all keys
pub in_all_keys : (names : List (List ℕ)) (key : Key) → list_any (same_key key) (all_keys names) ≡ is_among key.unit names
in_all_keys names key = in_all (λ kind. names) key

-- ---- they rise

abbrev Below : Key → List Key → Type 0
Below first keys = AllByRecursion (λ other. key_cmp first other ≡ Less) keys

below_of_kind : (kind : Kind) (name : List ℕ) (names : List (List ℕ)) → AllByRecursion (λ other. name_cmp name other ≡ Less) names → Below (record { kind = kind; unit = name }) (keys_of_kind names kind)
below_of_kind kind name [] below = tt
below_of_kind kind name (n ∷ ns) below = (ap (λ o. ordering_then o (name_cmp name n)) (tied_itself kind_total kind) ∙ below.0, below_of_kind kind name ns below.1)

sorted_of_kind : (kind : Kind) (names : List (List ℕ)) → IsStrictlySortedBy name_cmp names → IsStrictlySortedBy key_cmp (keys_of_kind names kind)
unfolding IsStrictlySortedBy
sorted_of_kind kind [] rise = tt
sorted_of_kind kind (n ∷ ns) rise = (below_of_kind kind n ns rise.0, sorted_of_kind kind ns rise.1)

below_before : (first : Key) (keys others : List Key) → Below first keys → Below first others → Below first (keys ++ others)
below_before first [] others below above = above
below_before first (key ∷ keys) others below above = (below.0, below_before first keys others below.1 above)

sorted_before : (keys others : List Key) → IsStrictlySortedBy key_cmp keys → AllByRecursion (λ key. Below key others) keys → IsStrictlySortedBy key_cmp others → IsStrictlySortedBy key_cmp (keys ++ others)
unfolding IsStrictlySortedBy
sorted_before [] others rise below above = above
sorted_before (key ∷ keys) others rise below above = (below_before key keys others rise.0 below.0, sorted_before keys others rise.1 below.1 above)

-- a key of a lesser kind
below_kind : (first kind : Kind) (unit : List ℕ) (names : List (List ℕ)) → kind_cmp first kind ≡ Less → Below (record { kind = first; unit = unit }) (keys_of_kind names kind)
below_kind first kind unit [] lt = tt
below_kind first kind unit (n ∷ ns) lt = (ap (λ o. ordering_then o (name_cmp unit n)) lt, below_kind first kind unit ns lt)

module _ (names : List (List ℕ)) where
  below_kinds : (first : Kind) (kinds : List Kind) (unit : List ℕ) → AllByRecursion (λ kind. kind_cmp first kind ≡ Less) kinds → Below (record { kind = first; unit = unit }) (flat_map (keys_of_kind names) kinds)
  below_kinds first [] unit below = tt
  below_kinds first (kind ∷ kinds) unit below =
      below_before (record { kind = first; unit = unit }) (keys_of_kind names kind) (flat_map (keys_of_kind names) kinds) (below_kind first kind unit names below.0) (below_kinds first kinds unit below.1)

  all_below : (first : Kind) (kinds : List Kind) (units : List (List ℕ)) → AllByRecursion (λ kind. kind_cmp first kind ≡ Less) kinds → AllByRecursion (λ key. Below key (flat_map (keys_of_kind names) kinds)) (keys_of_kind units first)
  all_below first kinds [] below = tt
  all_below first kinds (unit ∷ units) below = (below_kinds first kinds unit below, all_below first kinds units below)

  sorted_kinds : (kinds : List Kind) → IsStrictlySortedBy kind_cmp kinds → IsStrictlySortedBy name_cmp names → IsStrictlySortedBy key_cmp (flat_map (keys_of_kind names) kinds)
  unfolding IsStrictlySortedBy
  sorted_kinds [] order rise = tt
  sorted_kinds (kind ∷ kinds) order rise =
      sorted_before (keys_of_kind names kind) (flat_map (keys_of_kind names) kinds) (sorted_of_kind kind names rise) (all_below kind kinds names order.0) (sorted_kinds kinds order.1 rise)

  pub all_keys_rise : IsStrictlySortedBy name_cmp names → IsStrictlySortedBy key_cmp (all_keys names)
  all_keys_rise rise = sorted_kinds all_kinds kinds_rise rise
