-- One more data connection among those before it.
use Rattle.std.proofs.Common.{◌≡◌, ℕ, ◌+◌, ◌<◌, ◌≤◌, Bool, true, false, cond, ◌||◌, ◌&&◌, List, [], ◌∷◌, ◌++◌, length, get_or, map, take, refl, sym, ap, ◌∙◌, append-nil, arith, Option, Some, None}
use Rattle.std.proofs.{Math.Seq.{take-append_seam}, lemmas.List.{length-append, map-append, take-append-le}}
use Rattle.std.proofs.lemmas.{Grind.{flat_map-append}}
use Rattle.std.specs.{declared.cmp.Ordering.{Ordering}, Ordering.{is_eq, ordering_then}, List.{enumerate_from, filter, list_any}}
use Rattle.std.specs.declared.cmp.Ordering.TheVariants.{Less, Equal, Greater}
use Rattle.fb_tree.specs.{Text.declared.name.NameUse.{NameUse}, declared.network.Connection.{Connection}}
use Rattle.fb_tree.specs.Text.Order.{name_cmp}
use Rattle.fb_tree.specs.declared.network.Sort.{Sort}
use Rattle.fb_tree.specs.declared.network.Sort.TheVariants as sorts
use Rattle.fb_iface.specs.{Names.{is_same}, declared.code.Code.TheVariants.{SecondSource}}
use Rattle.fb_iface.proofs.PlaceLemmas.{passing, passing-all, passing-more}
use Rattle.fb_netcheck.specs.Paths.{Path, PathUse, fault_at_path, has_path, is_repeated, repeated, repeated_faults, same_path}
use Rattle.fb_netcheck.specs.Repeats.{data_destination, data_destinations, end_path, path_named, second_sources}
use Rattle.fb_netcheck.specs.Again.{brings, brings_of_sort, faults_of_sort, same_port, source_faults}

module _ {A : Type 0} where
  -- what two tests agree on below n
  agreed : (f g : ℕ × A → Bool) (n k : ℕ) (xs : List A) → k + length xs ≤ n → ((j : ℕ) (x : A) → j < n → f (j, x) ≡ g (j, x)) → filter f (enumerate_from k xs) ≡ filter g (enumerate_from k xs)
  agreed f g n k [] fits same = refl
  agreed f g n k (x ∷ xs) fits same =
      let rest : filter f (enumerate_from (k + 1) xs) ≡ filter g (enumerate_from (k + 1) xs) = agreed f g n (k + 1) xs (omega arith) same in
      let here : f (k, x) ≡ g (k, x) = same k x (omega arith) in
      (λ i. cond (here i) ((k, x) ∷ rest i) (rest i))

  before_last : (k : ℕ) (xs : List A) (x : A) → take (length xs) (enumerate_from k (xs ++ x ∷ [])) ≡ enumerate_from k xs
  before_last k [] x = refl
  before_last k (y ∷ xs) x = ap (λ l. (k, y) ∷ l) (before_last (k + 1) xs x)

  last_item : (xs : List A) (x : A) → get_or (xs ++ x ∷ []) (length xs) x ≡ x
  last_item [] x = refl
  last_item (y ∷ xs) x = last_item xs x

-- one more path
repeated-push : (paths : List PathUse) (p : PathUse) → repeated (paths ++ p ∷ []) ≡ repeated paths ++ cond (has_path paths p.names) (p ∷ []) []
repeated-push paths p =
    let all = paths ++ p ∷ [] in
    let n = length paths in
    let long : length all ≡ n + 1 = length-append paths (p ∷ []) in
    let here : p ≡ get_or all n p = sym (last_item paths p) in
    let last : is_repeated all (n, p) ≡ has_path paths p.names = ap (λ l. has_path l p.names) (take-append_seam paths (p ∷ [])) in
    let same : filter (is_repeated all) (enumerate_from 0 paths) ≡ filter (is_repeated paths) (enumerate_from 0 paths) = agreed (is_repeated all) (is_repeated paths) n 0 paths (omega arith) (λ j x h. ap (λ l. has_path l x.names) (take-append-le j paths (p ∷ []) (omega arith))) in
    let old : passing (is_repeated all) n all ≡ repeated paths = ap (λ l. map (λ (placed : ℕ × PathUse). placed.1) (filter (is_repeated all) l)) (before_last 0 paths p) ∙ ap (map (λ (placed : ℕ × PathUse). placed.1)) same in
    sym (passing-all (is_repeated all) all)
    ∙ ap (λ k. passing (is_repeated all) k all) long
    ∙ passing-more (is_repeated all) all n p (has_path paths p.names) (omega arith) here last
    ∙ ap (λ l. l ++ cond (has_path paths p.names) (p ∷ []) []) old

reported-push : (paths : List PathUse) (p : PathUse) → repeated_faults SecondSource (paths ++ p ∷ []) ≡ repeated_faults SecondSource paths ++ cond (has_path paths p.names) (fault_at_path SecondSource p ∷ []) []
reported-push paths p =
    ap (map (fault_at_path SecondSource)) (repeated-push paths p)
    ∙ map-append (fault_at_path SecondSource) (repeated paths) (cond (has_path paths p.names) (p ∷ []) [])
    ∙ ap (λ l. repeated_faults SecondSource paths ++ l) (by (has_path paths p.names))
  where
    by : (b : Bool) → map (fault_at_path SecondSource) (cond b (p ∷ []) []) ≡ cond b (fault_at_path SecondSource p ∷ []) []
    by true = refl
    by false = refl

-- a path is among the destinations where a connection brings data there
any_brings : (names : Path) (connections : List Connection) → has_path (map end_path (data_destinations connections)) names ≡ list_any (brings names) connections
any_brings names [] = refl
any_brings names (c ∷ connections) = by c.sort (any_brings names connections)
  where
    by : (sort : Sort) → has_path (map end_path (data_destinations connections)) names ≡ list_any (brings names) connections → has_path (map end_path (data_destination sort c.destination ++ data_destinations connections)) names ≡ (brings_of_sort sort names c.destination || list_any (brings names) connections)
    by sorts.Data e = ap (λ b. same_path (end_path c.destination).names names || b) e
    by sorts.Event e = e
    by sorts.Adapter e = e

-- one more connection
pub sources-push : (before : List Connection) (c : Connection) → second_sources (before ++ c ∷ []) ≡ second_sources before ++ source_faults before c
sources-push before c =
    ap (λ l. repeated_faults SecondSource (map end_path l)) (flat_map-append (λ (c : Connection). data_destination c.sort c.destination) before (c ∷ []))
    ∙ by c.sort
  where
    by : (sort : Sort) → repeated_faults SecondSource (map end_path (data_destinations before ++ (data_destination sort c.destination ++ []))) ≡ second_sources before ++ faults_of_sort sort before c.destination
    by sorts.Data =
        ap (repeated_faults SecondSource) (map-append end_path (data_destinations before) (c.destination ∷ []))
        ∙ reported-push (map end_path (data_destinations before)) (end_path c.destination)
        ∙ ap (λ b. second_sources before ++ cond b (fault_at_path SecondSource (end_path c.destination) ∷ []) []) (any_brings (end_path c.destination).names before)
    by sorts.Event = ap (λ l. repeated_faults SecondSource (map end_path l)) (append-nil (data_destinations before)) ∙ sym (append-nil (second_sources before))
    by sorts.Adapter = ap (λ l. repeated_faults SecondSource (map end_path l)) (append-nil (data_destinations before)) ∙ sym (append-nil (second_sources before))

both : (r s : Ordering) → is_eq (ordering_then r s) ≡ (is_eq r && is_eq s)
both Less s = refl
both Equal s = refl
both Greater s = refl

and_true : (b : Bool) → b ≡ (b && true)
and_true true = refl
and_true false = refl

-- two ends are the same where their names and their ports are
pub same_ends : (name other : NameUse) (port other_port : Option NameUse) → (is_same name.name other.name && same_port port other_port) ≡ same_path (path_named name port) (path_named other other_port)
same_ends name other None None = sym (both (name_cmp name.name other.name) Equal)
same_ends name other None (Some q) = sym (both (name_cmp name.name other.name) Less)
same_ends name other (Some p) None = sym (both (name_cmp name.name other.name) Greater)
same_ends name other (Some p) (Some q) = sym (both (name_cmp name.name other.name) (ordering_then (name_cmp p.name q.name) Equal) ∙ ap (λ b. is_same name.name other.name && b) (both (name_cmp p.name q.name) Equal ∙ sym (and_true (is_same p.name q.name))))
