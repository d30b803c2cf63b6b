-- Which names keep a unit from having a flat network.
use Rattle.std.proofs.{Common.{ℕ, ◌≡◌, Bool, true, false, List, [], None, subst, arith}, lemmas.List.Kept.{IsStrictlySortedBy-filter}}
use Rattle.std.specs.{Prelude.{Contains, ◌≢◌, ◌↔◌, filter}, FinMap.{get}, List.Sorted.{IsStrictlySortedBy}}
use Rattle.fb_types.specs.{Text.Order.{name_cmp}, Library.View.{Sources}, Library.Rests.{Rests}, Reaches.{IsRecursive, RestsOnRecursive}}
use Rattle.fb_types.proofs.Text.Members.{contains_nothing, contains_filter, passes_in_filter}
use Rattle.fb_flatten.specs.Blocking.{AreThose, IsBlocking, IsPartBelow, is_blocking, is_some_name}

pub blocking_is : (sources : Sources) (unit v : List ℕ) (is_part : List ℕ → Bool) → (get sources v ≡ None → is_part v ≡ true → IsPartBelow sources unit v) → is_blocking sources is_part v ≡ true → IsBlocking sources unit v
blocking_is sources unit v is_part below h = grind arith

is_found_blocking : (sources : Sources) (unit v : List ℕ) (is_part : List ℕ → Bool) → (get sources v ≡ None → IsPartBelow sources unit v → is_part v ≡ true) → IsBlocking sources unit v → is_blocking sources is_part v ≡ true
is_found_blocking sources unit v is_part told b = grind arith

-- the blocking ones among names that a unit rests on, where all of them are among the names, and a test tells which absent ones are parts
pub blocking_those : {sources : Sources} {unit : List ℕ} (is_part : List ℕ → Bool) (names found : List (List ℕ)) → IsStrictlySortedBy name_cmp names → ((v : List ℕ) → Contains names v → Rests sources unit v) → ((v : List ℕ) → Rests sources unit v → IsBlocking sources unit v → Contains names v) → ((v : List ℕ) → Contains names v → get sources v ≡ None → is_part v ≡ true → IsPartBelow sources unit v) → ((v : List ℕ) → Contains names v → get sources v ≡ None → IsPartBelow sources unit v → is_part v ≡ true) → found ≡ filter (is_blocking sources is_part) names → AreThose sources unit (IsBlocking sources unit) found
blocking_those {sources = sources} {unit = unit} is_part names found sorted sound complete below told is =
    let test = is_blocking sources is_part in
    rw is (record {
      sorted = IsStrictlySortedBy-filter name_cmp test names sorted;
      members = λ v. (
        λ c. let p = passes_in_filter test names v c in (sound v p.among, blocking_is sources unit v is_part (below v p.among) p.passes),
        λ r. let there = complete v r.0 r.1 in contains_filter test names v there (is_found_blocking sources unit v is_part (told v there) r.1),
      );
    })

-- the recursive ones among the names that a unit rests on
pub recursive_those : {sources : Sources} {unit : List ℕ} (names found : List (List ℕ)) → ((v : List ℕ) → Contains names v → Rests sources unit v) → ((v : List ℕ) → Rests sources unit v → Contains names v) → IsStrictlySortedBy name_cmp found → ((v : List ℕ) → Contains found v ↔ (Contains names v × IsRecursive sources v)) → AreThose sources unit (IsRecursive sources) found
recursive_those names found sound complete sorted members =
    record { sorted = sorted; members = λ v. (λ c. let m = (members v).0 c in (sound v m.0, m.1), λ r. (members v).1 (complete v r.0, r.1)) }

pub some_recursive : {sources : Sources} {unit : List ℕ} (found : List (List ℕ)) → AreThose sources unit (IsRecursive sources) found → RestsOnRecursive sources unit → found ≢ []
some_recursive found those r none = contains_nothing r.0 (subst (λ (l : List (List ℕ)). Contains l r.0) none ((those.members r.0).1 r.1))

pub some_not_none : (names : List (List ℕ)) → is_some_name names ≡ true → names ≢ []
some_not_none names h = grind arith

pub none_of_not : (names : List (List ℕ)) → is_some_name names ≡ false → names ≡ []
none_of_not names h = grind arith
