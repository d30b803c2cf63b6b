-- Paths that occur twice in a list.
use Rattle.fb_laws.proofs.Common.{◌≡◌, ℕ, ◌+◌, true, false, ◌||◌, length, List, [], ◌∷◌, ◌++◌, map, take, inl, inr, refl, sym, ap, ◌∙◌, subst, true≢false, arith, nat_cmp-IsAntisymmetric, slice_cmp-IsAntisymmetric, Contains, enumerate_from, slice_get, take-append_seam, Code, Fault, at_place, in_places, contains_cases, contains_filter, contains_here, contains_later, contains_map, contains_nothing, got_in_map, map_gets, origin_in_map, passes_in_filter, Path, PathUse, fault_at_path, has_path, is_repeated, repeated, repeated_faults, same_path, filter}
use Rattle.fb_laws.proofs.Lists.{at_split, split_at}
use Rattle.std.specs.Ordering.{is_eq}
use Rattle.std.proofs.{Math.Bool.{or-true}, lemmas.Cmp.{lists_total, nat_list_cmp_total, tied_itself}, lemmas.List.{take-map}, lemmas.Map.Views.{tells_apart}}

path_exact : (a b : Path) → same_path a b ≡ true → a ≡ b
path_exact a b e = tells_apart (slice_cmp-IsAntisymmetric (slice_cmp-IsAntisymmetric nat_cmp-IsAntisymmetric)) a b e

path_itself : (a b : Path) → a ≡ b → same_path a b ≡ true
path_itself a b e = ap (same_path a) (sym e) ∙ ap is_eq (tied_itself (lists_total nat_list_cmp_total) a)

path_among : (paths : List PathUse) (q : Path) → has_path paths q ≡ true → (p : PathUse) × Contains paths p × (p.names ≡ q)
path_among [] q e = absurd (true≢false (sym e))
path_among (x ∷ xs) q e =
    (elim (same_path x.names q) as (λ b. same_path x.names q ≡ b → (b || has_path xs q) ≡ true → (has_path xs q ≡ true → (p : PathUse) × Contains xs p × (p.names ≡ q)) → (p : PathUse) × Contains (x ∷ xs) p × (p.names ≡ q)) [ true ↦ λ s h more. (x, contains_here x xs, path_exact x.names q s) | false ↦ λ s h more. let o = more h in (o.0, contains_later x xs o.0 o.1, o.2) ]) refl e (path_among xs q)

among_paths : (paths : List PathUse) (q : Path) (p : PathUse) → Contains paths p → p.names ≡ q → has_path paths q ≡ true
among_paths [] q p c e = absurd (contains_nothing p c)
among_paths (x ∷ xs) q p c e =
    elim (contains_cases x xs p c) [ inl s ↦ ap (λ b. b || has_path xs q) (path_itself x.names q (ap (λ (m : PathUse). m.names) s ∙ e)) | inr d ↦ ap (λ b. same_path x.names q || b) (among_paths xs q p d e) ∙ or-true (same_path x.names q) ]

-- an item whose path is that of an earlier one
pub record RepeatOrigin {A : Type 0} (path : A → PathUse) (items : List A) (code : Code) (f : Fault) : Type 0 where
  pub before : List A
  pub item : A
  pub after : List A
  pub split : items ≡ before ++ item ∷ after
  pub other : A
  pub seen : Contains before other
  pub same : (path other).names ≡ (path item).names
  pub is : fault_at_path code (path item) ≡ f

pub repeat_origin : {A : Type 0} (path : A → PathUse) (items : List A) (code : Code) (f : Fault) → Contains (repeated_faults code (map path items)) f → RepeatOrigin path items code f
repeat_origin path items code f c =
    let paths = map path items in
    let n = origin_in_map (fault_at_path code) (repeated paths) f c in
    let p = origin_in_map (λ (placed : ℕ × PathUse). placed.1) (filter (is_repeated paths) (enumerate_from 0 paths)) n.origin n.among in
    let r = passes_in_filter (is_repeated paths) (enumerate_from 0 paths) p.origin p.among in
    let j = in_places 0 paths p.origin r.among in
    let k = p.origin.0 in
    let number : k ≡ j.0 = j.1 ∙ (let e : 0 + j.0 ≡ j.0 = omega arith in e) in
    let at = got_in_map path items k p.origin.1 (ap (slice_get paths) number ∙ j.2) in
    let o = split_at items k at.0 at.1 in
    let q = path_among (map path (take k items)) p.origin.1.names (ap (λ (l : List PathUse). has_path l p.origin.1.names) (sym (take-map path k items)) ∙ r.passes) in
    let e = origin_in_map path (take k items) q.0 q.1 in
    grind arith

pub repeat_reported : {A : Type 0} (path : A → PathUse) (code : Code) (items before after : List A) (item other : A) → items ≡ before ++ item ∷ after → Contains before other → (path other).names ≡ (path item).names → Contains (repeated_faults code (map path items)) (fault_at_path code (path item))
repeat_reported {A = A} path code items before after item other split seen same =
    let whole = map path (before ++ item ∷ after) in
    let start : 0 + length before ≡ length before = omega arith in
    let at = at_place 0 whole (length before) (path item) (map_gets path (before ++ item ∷ after) (length before) item (at_split before item after)) in
    let there = subst (λ (k : ℕ). Contains (enumerate_from 0 whole) (k, path item)) start at in
    let earlier = take-map path (length before) (before ++ item ∷ after) ∙ ap (map path) (take-append_seam before (item ∷ after)) in
    let twice = ap (λ (l : List PathUse). has_path l (path item).names) earlier ∙ among_paths (map path before) (path item).names (path other) (contains_map path before other seen) same in
    let placed = contains_filter (is_repeated whole) (enumerate_from 0 whole) (length before, path item) there twice in
    subst (λ (l : List A). Contains (repeated_faults code (map path l)) (fault_at_path code (path item))) (sym split)
    (contains_map (fault_at_path code) (repeated whole) (path item) (contains_map (λ (placed : ℕ × PathUse). placed.1) (filter (is_repeated whole) (enumerate_from 0 whole)) (length before, path item) placed))
