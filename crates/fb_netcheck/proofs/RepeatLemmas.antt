-- One more path among those that were seen.
use Rattle.std.proofs.Common.{◌≡◌, ℕ, ◌+◌, ◌<◌, Bool, true, false, cond, ◌||◌, List, [], ◌∷◌, ◌++◌, length, get_or, map, take, refl, sym, ap, ◌∙◌, append-nil, arith, nat_eq}
use Rattle.std.proofs.{Math.Bool.{or-false, or_assoc}, lemmas.List.{map-append}}
use Rattle.std.specs.{Cmp.Lexicographic.{lists_ties, pointwise}, HashSet.{HashSet, contains, Updates}, Prelude.{Vec}, declared.alloc.Global.{Global}}
use Rattle.fb_tree.proofs.Text.OrderLemmas.{same_name}
use Rattle.fb_tree.specs.Text.Order.{name_cmp}
use Rattle.fb_iface.specs.declared.code.Code.{Code}
use Rattle.fb_iface.proofs.{RepeatLemmas.{true_or}, PlaceLemmas.{passing, passing-all, passing-more}}
use Rattle.fb_netcheck.specs.Paths.{Path, PathUse, fault_at_path, has_path, is_repeated, repeated, same_path}

abbrev pub Key : Type 0
Key = Vec (List ℕ) Global

abbrev pub same_key : Key → Key → Bool
same_key a b = pointwise (pointwise nat_eq) a.items b.items

-- two paths are the same where they are so by their order
by_order : (a b : Path) → pointwise (pointwise nat_eq) a b ≡ same_path a b
by_order a b = lists_ties name_cmp same_name a b

has_path-push : (xs : List PathUse) (x : PathUse) (q : Path) → has_path (xs ++ x ∷ []) q ≡ (has_path xs q || same_path x.names q)
has_path-push [] x q = or-false (same_path x.names q)
has_path-push (y ∷ xs) x q = ap (λ b. same_path y.names q || b) (has_path-push xs x q) ∙ sym (or_assoc (same_path y.names q) (has_path xs q) (same_path x.names q))

-- a set that holds the paths so far holds them with one more
pub noted-push : {S : Type 0} (xs : List PathUse) (x : PathUse) (key : Key) (old new : HashSet Key S) → key.items ≡ x.names → ((q : Key) → contains same_key old q ≡ has_path xs q.items) → Updates same_key old new key true → (q : Key) → contains same_key new q ≡ has_path (xs ++ x ∷ []) q.items
noted-push xs x key old new named noted updates q =
    updates.0 q
    ∙ (λ i. cond (by_order key.items q.items i) true (noted q i))
    ∙ ap (λ names. cond (same_path names q.items) true (has_path xs q.items)) named
    ∙ true_or (same_path x.names q.items) (has_path xs q.items)
    ∙ sym (has_path-push xs x q.items)

-- second and later uses among the first n of the paths
abbrev pub repeated_among : ℕ → List PathUse → List PathUse
repeated_among n paths = passing (is_repeated paths) n paths

pub repeated_all : (paths : List PathUse) → repeated_among (length paths) paths ≡ repeated paths
repeated_all paths = passing-all (is_repeated paths) paths

-- a path that stands before is reported
pub reported-again : (code : Code) (paths : List PathUse) (n : ℕ) (x : PathUse) → n < length paths → x ≡ get_or paths n x → has_path (take n paths) x.names ≡ true → map (fault_at_path code) (repeated_among (n + 1) paths) ≡ map (fault_at_path code) (repeated_among n paths) ++ fault_at_path code x ∷ []
reported-again code paths n x within here e =
    ap (map (fault_at_path code)) (passing-more (is_repeated paths) paths n x true within here e) ∙ map-append (fault_at_path code) (repeated_among n paths) (x ∷ [])

-- and no other
pub reported-first : (code : Code) (paths : List PathUse) (n : ℕ) (x : PathUse) → n < length paths → x ≡ get_or paths n x → has_path (take n paths) x.names ≡ false → map (fault_at_path code) (repeated_among (n + 1) paths) ≡ map (fault_at_path code) (repeated_among n paths)
reported-first code paths n x within here e =
    ap (map (fault_at_path code)) (passing-more (is_repeated paths) paths n x false within here e ∙ append-nil (repeated_among n paths))

-- fewer than two paths do not repeat
pub none_repeated : (paths : List PathUse) → length paths < 2 → repeated paths ≡ []
none_repeated [] few = refl
none_repeated (x ∷ []) few = refl
none_repeated (x ∷ y ∷ paths) few = absurd (omega arith)
