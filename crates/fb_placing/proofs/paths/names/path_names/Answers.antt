-- Each point ends a name, and the last name ends with the path.
use Rattle.std.proofs.Common.{◌≡◌, ℕ, ◌<◌, ◌≤◌, ◌+◌, ◌-◌, List, [], ◌∷◌, ◌++◌, map, drop, take, get_or, length, sym, ◌∙◌, ap, subst, arith, append-nil}
use Rattle.std.proofs.lemmas.Str.{IsCharBoundary-start, IsCharBoundary-after_ascii}
use Rattle.std.specs.{Borrow.{Bor}, Str.{IsCharBoundary, IsUtf8}}
use native.Mathlib.Decide.{dec_lt}
use Rattle.fb_placing.specs.Resolved.{path_names}
use Rattle.fb_placing.proofs.PathNameLemmas.{NoPoint, name_cut, name_last, names_more}
use Rattle.fb_placing.proofs.paths.names.path_names.Goals.{then-as_bytes-i-eq46+in_ok-push, else-as_bytes-i-eq46}
use Rattle.fb_placing.proofs.paths.names.path_names.Goals as goal

-- what holds behind the bytes before a place, where the last name begins at another
record Passed (path : List ℕ) (items : List (Bor (List ℕ))) (start i : ℕ) : Type 0 where
  pub behind : start ≤ i
  pub boundary : IsCharBoundary path start
  pub none : NoPoint path start i
  pub names : path_names path ≡ map (λ n. n.now) items ++ path_names (drop start path)

behind_point : (path : List ℕ) (items : List (Bor (List ℕ))) (item : Bor (List ℕ)) (start i : ℕ) → Passed path items start i → i < length path → IsUtf8 path → get_or path i 0 ≡ 46 → item.now ≡ take (i - start) (drop start path) → Passed path (items ++ item ∷ []) (i + 1) (i + 1)
behind_point path items item start i p lt utf8 point named = record {
  behind = omega arith;
  boundary = IsCharBoundary-after_ascii path i utf8 lt (omega (arith, point));
  none = λ k low below. absurd (omega arith);
  names = names_more items item (path_names path) (path_names (drop start path)) (take (i - start) (drop start path)) (path_names (drop (i + 1) path)) p.names (name_cut path start i p.behind lt p.none point) named;
}

behind_other : (path : List ℕ) (items : List (Bor (List ℕ))) (start i : ℕ) → Passed path items start i → (get_or path i 0 ≡ 46 → ⊥) → Passed path items start (i + 1)
behind_other path items start i p other = record {
  behind = let b = p.behind in omega arith;
  boundary = p.boundary;
  none = λ k low below point. by_place k low below point;
  names = p.names;
}
  where
    by_place : (k : ℕ) → start ≤ k → k < i + 1 → get_or path k 0 ≡ 46 → ⊥
    by_place k low below point = elim (dec_lt k i) [ Prim.yes lt ↦ p.none k low lt point | Prim.no above ↦ other (let same : k ≡ i = omega arith in subst (λ (j : ℕ). get_or path j 0 ≡ 46) same point) ]

pub loop-i-init : goal.loop-i-init
loop-i-init c = record {
  behind = omega arith;
  boundary = IsCharBoundary-start c.args.path.now c.utf8.path;
  none = λ k low below. absurd (omega arith);
  names = sym (ap (λ (items : List (Bor (List ℕ))). map (λ n. n.now) items ++ path_names c.args.path.now) c.new-names.ensures.items);
}

pub loop-i-preserved : goal.loop-i-preserved
loop-i-preserved c =
    let path = c.args.path.now in
    let i = c.loop-i.i in
    let before : Passed path c.loop-i.names.items c.loop-i.start i = record { behind = c.loop-i.invariant.behind; boundary = c.loop-i.invariant.boundary; none = c.loop-i.invariant.none; names = c.loop-i.invariant.names } in
    elim c.if-as_bytes-i-eq46.branch [
      | then-as_bytes-i-eq46+in_ok-push w ↦
          let point : get_or path i 0 ≡ 46 = ap (λ (t : List ℕ). get_or t i 0) (sym c.as_bytes.ensures.value) ∙ w.if-as_bytes-i-eq46.true in
          let named : w.range.result.now ≡ take (i - c.loop-i.start) (drop c.loop-i.start path) = w.range.ensures.value in
          let p = behind_point path c.loop-i.names.items w.range.result c.loop-i.start i before c.loop-i-test.true c.utf8.path point named in
          let items : c.loop-i.names.items ++ w.range.result ∷ [] ≡ c.if-as_bytes-i-eq46.names.items = sym (ap (λ n. n.items) w.names-is ∙ w.in_ok-push.ensures.items) in
          let start : i + 1 ≡ c.if-as_bytes-i-eq46.start = sym w.start-is in
          let q = subst (λ (xs : List (Bor (List ℕ))). Passed path xs c.if-as_bytes-i-eq46.start (i + 1)) items (subst (λ (s : ℕ). Passed path (c.loop-i.names.items ++ w.range.result ∷ []) s (i + 1)) start p) in
          record { behind = q.behind; boundary = q.boundary; none = q.none; names = q.names }
      | else-as_bytes-i-eq46 w ↦
          let other : get_or path i 0 ≡ 46 → ⊥ = λ e. w.if-as_bytes-i-eq46.false (ap (λ (t : List ℕ). get_or t i 0) c.as_bytes.ensures.value ∙ e) in
          let p = behind_other path c.loop-i.names.items c.loop-i.start i before other in
          let items : c.loop-i.names.items ≡ c.if-as_bytes-i-eq46.names.items = sym (ap (λ n. n.items) w.names-is) in
          let q = subst (λ (xs : List (Bor (List ℕ))). Passed path xs c.if-as_bytes-i-eq46.start (i + 1)) items (subst (λ (s : ℕ). Passed path c.loop-i.names.items s (i + 1)) (sym w.start-is) p) in
          record { behind = q.behind; boundary = q.boundary; none = q.none; names = q.names }
    ]

pub returns : goal.returns
returns c =
    let path = c.args.path.now in
    let start = c.loop-i.start in
    let end = length path in
    let ended : end ≤ c.loop-i.i = c.loop-i-test.false in
    let within : start ≤ end = c.loop-i.invariant.boundary.0 in
    let last = name_last path start within (λ k low below. c.loop-i.invariant.none k low (omega arith)) in
    let named : c.range_from.result.now ≡ drop start path = c.range_from.ensures.value in
    let whole = names_more c.loop-i.names.items c.range_from.result (path_names path) (path_names (drop start path)) (drop start path) [] c.loop-i.invariant.names last named in
    ap (λ (xs : List (Bor (List ℕ))). map (λ n. n.now) xs) c.in_ok-push-2.ensures.items ∙ sym (whole ∙ append-nil (map (λ n. n.now) (c.loop-i.names.items ++ c.range_from.result ∷ [])))
