-- One more declaration in a table of first declarations.
use Rattle.std.proofs.Common.{◌≡◌, zero, suc, ℕ, Bool, true, false, cond, not, nat_eq, ◌+◌, ◌<◌, ◌≤◌, length, get_or, take, is_none, List, [], ◌∷◌, ◌++◌, append-nil, refl, sym, ap, ◌∙◌, Option, Some, None, is_some, arith}
use Rattle.std.proofs.{Math.Seq.{take-suc}, lemmas.List.{get_or_default, take_all}}
use Rattle.std.specs.{Option.{option_or}, Cmp.Lexicographic.{pointwise, nat_list_eq_equiv, same_text}, Map.{lookup}}
use Rattle.indexmap.specs.IndexMap.{insert_entry}
use Rattle.fb_tree.proofs.Text.OrderLemmas.{same_name}
use Rattle.fb_iface.proofs.PlaceLemmas.{passing, passing-all, passing-more}
use Rattle.fb_iface.specs.Names.{first_ones, is_same, stands_for, with_first, with_firsts}

pub is_it : (x q : List ℕ) → is_same x q ≡ true → q ≡ x
is_it x q e = sym (same_text x q (sym (same_name x q ∙ e)))

module _ {D : Type 0} where
  -- what an appended declaration changes
  stands_for-push : (xs : List (List ℕ × D)) (x : List ℕ × D) (q : List ℕ) → stands_for (xs ++ x ∷ []) q ≡ option_or (stands_for xs q) (cond (is_same x.0 q) (Some x.1) None)
  stands_for-push [] x q = refl
  stands_for-push (y ∷ xs) x q = by (is_same y.0 q) (stands_for-push xs x q)
    where
      by : (b : Bool) → stands_for (xs ++ x ∷ []) q ≡ option_or (stands_for xs q) (cond (is_same x.0 q) (Some x.1) None) → cond b (Some y.1) (stands_for (xs ++ x ∷ []) q) ≡ option_or (cond b (Some y.1) (stands_for xs q)) (cond (is_same x.0 q) (Some x.1) None)
      by true e = refl
      by false e = e

  the_new : (b : Bool) (v : D) (o : Option D) → (b ≡ true → o ≡ None) → cond b (Some v) o ≡ option_or o (cond b (Some v) None)
  the_new true v o absent = ap (λ a. option_or a (Some v)) (sym (absent refl))
  the_new false v None absent = refl
  the_new false v (Some w) absent = refl

  the_old : (b : Bool) (v : D) (o : Option D) → (b ≡ true → is_some o ≡ true) → o ≡ option_or o (cond b (Some v) None)
  the_old b v (Some w) there = refl
  the_old true v None there = absurd (let e : false ≡ true = there refl in let no : ⊥ = cc in no)
  the_old false v None there = refl

  pub none : (o : Option D) → is_some o ≡ false → o ≡ None
  none None e = refl
  none (Some v) e = absurd (let no : ⊥ = cc in no)

  -- a name that is new stands for its declaration from then on
  pub known-new : (xs : List (List ℕ × D)) (x : List ℕ × D) (old new : List ℕ → Option D) → ((q : List ℕ) → old q ≡ stands_for xs q) → is_some (old x.0) ≡ false → ((q : List ℕ) → new q ≡ cond (pointwise nat_eq x.0 q) (Some x.1) (old q)) → (q : List ℕ) → new q ≡ stands_for (xs ++ x ∷ []) q
  known-new xs x old new known absent updates q =
      updates q
      ∙ (λ i. cond (same_name x.0 q i) (Some x.1) (known q i))
      ∙ the_new (is_same x.0 q) x.1 (stands_for xs q) (λ e. ap (stands_for xs) (is_it x.0 q e) ∙ sym (known x.0) ∙ none (old x.0) absent)
      ∙ sym (stands_for-push xs x q)

  -- a name that is known stands for what it stood for
  pub known-old : (xs : List (List ℕ × D)) (x : List ℕ × D) (old : List ℕ → Option D) → ((q : List ℕ) → old q ≡ stands_for xs q) → is_some (old x.0) ≡ true → (q : List ℕ) → old q ≡ stands_for (xs ++ x ∷ []) q
  known-old xs x old known there q =
      known q
      ∙ the_old (is_same x.0 q) x.1 (stands_for xs q) (λ e. ap (λ n. is_some (stands_for xs n)) (is_it x.0 q e) ∙ ap is_some (sym (known x.0)) ∙ there)
      ∙ sym (stands_for-push xs x q)

  -- the first declarations among the first n
  abbrev pub first_among : ℕ → List (List ℕ × D) → List (List ℕ × D)
  first_among n declarations = passing (λ placed. is_none (stands_for (take placed.0 declarations) placed.1.0)) n declarations

  pub first_all : (declarations : List (List ℕ × D)) → first_among (length declarations) declarations ≡ first_ones declarations
  first_all declarations = passing-all (λ placed. is_none (stands_for (take placed.0 declarations) placed.1.0)) declarations

  none_or_some : (o : Option D) → is_none o ≡ not (is_some o)
  none_or_some None = refl
  none_or_some (Some v) = refl

  pub first-more : (declarations : List (List ℕ × D)) (n : ℕ) (x : List ℕ × D) (b : Bool) → n < length declarations → x ≡ get_or declarations n x → is_some (stands_for (take n declarations) x.0) ≡ not b → first_among (n + 1) declarations ≡ first_among n declarations ++ cond b (x ∷ []) []
  first-more declarations n x b within here e =
      passing-more (λ placed. is_none (stands_for (take placed.0 declarations) placed.1.0)) declarations n x b within here (none_or_some (stands_for (take n declarations) x.0) ∙ ap not e ∙ twice b)
    where
      twice : (b : Bool) → not (not b) ≡ b
      twice true = refl
      twice false = refl

  -- by one more declaration a name stands for the same among the first ones and among all
  one_more : (all : List (List ℕ × D)) (n : ℕ) (x : List ℕ × D) (q : List ℕ) → n < length all → x ≡ get_or all n x → stands_for (first_among n all) q ≡ stands_for (take n all) q → stands_for (first_among (n + 1) all) q ≡ stands_for (take n all ++ x ∷ []) q
  one_more all n x q within here known = by (is_some (stands_for (take n all) x.0)) refl
    where
      by : (b : Bool) → is_some (stands_for (take n all) x.0) ≡ b → stands_for (first_among (n + 1) all) q ≡ stands_for (take n all ++ x ∷ []) q
      by true there =
          ap (λ l. stands_for l q) (first-more all n x false within here there ∙ append-nil (first_among n all))
          ∙ known
          ∙ known-old (take n all) x (stands_for (take n all)) (λ _. refl) there q
      by false absent =
          ap (λ l. stands_for l q) (first-more all n x true within here absent)
          ∙ stands_for-push (first_among n all) x q
          ∙ ap (λ o. option_or o (cond (is_same x.0 q) (Some x.1) None)) known
          ∙ sym (stands_for-push (take n all) x q)

  stands_among : (all : List (List ℕ × D)) (n : ℕ) (q : List ℕ) → n ≤ length all → stands_for (first_among n all) q ≡ stands_for (take n all) q
  stands_among all zero q within = refl
  stands_among [] (suc n) q within = absurd (omega arith)
  stands_among (y ∷ ys) (suc n) q within =
      let all = y ∷ ys in
      let before : n < length all = omega arith in
      let next : suc n ≡ n + 1 = omega arith in
      let x = get_or all n y in
      ap (λ m. stands_for (first_among m all) q) next
      ∙ one_more all n x q before (get_or_default all n y x before) (stands_among all n q (omega arith))
      ∙ ap (λ l. stands_for l q) (sym (take-suc all n y before))

  -- a name stands for the same among the first declarations and among all
  pub stands_for-first_ones : (all : List (List ℕ × D)) (q : List ℕ) → stands_for (first_ones all) q ≡ stands_for all q
  stands_for-first_ones all q =
      ap (λ l. stands_for l q) (sym (first_all all))
      ∙ stands_among all (length all) q (omega arith)
      ∙ ap (λ l. stands_for l q) (take_all (length all) all (omega arith))

  -- a table of first declarations finds what a name stands for
  pub found_by_name : (entries : List (List ℕ × D)) (name : List ℕ) → lookup (pointwise nat_eq name) entries ≡ stands_for entries name
  found_by_name entries name =
      let tests = λ (q : List ℕ). nat_list_eq_equiv.symm name q ∙ same_name q name in
      λ i. lookup (λ q. tests q i) entries

  -- also among the first n alone
  pub found_among : (entries all : List (List ℕ × D)) (n : ℕ) (name : List ℕ) → entries ≡ first_among n all → n ≤ length all → lookup (pointwise nat_eq name) entries ≡ stands_for (take n all) name
  found_among entries all n name firsts within = found_by_name entries name ∙ ap (λ l. stands_for l name) firsts ∙ stands_among all n name within

  -- first declarations, one after another
  pub with_firsts-push : (firsts xs : List (List ℕ × D)) (x : List ℕ × D) → with_firsts firsts (xs ++ x ∷ []) ≡ with_first (with_firsts firsts xs) x
  with_firsts-push firsts [] x = refl
  with_firsts-push firsts (y ∷ xs) x = with_firsts-push (with_first firsts y) xs x

  pub with_firsts-append : (firsts xs ys : List (List ℕ × D)) → with_firsts firsts (xs ++ ys) ≡ with_firsts (with_firsts firsts xs) ys
  with_firsts-append firsts [] ys = refl
  with_firsts-append firsts (x ∷ xs) ys = with_firsts-append (with_first firsts x) xs ys

  first_next : (all : List (List ℕ × D)) (n : ℕ) (x : List ℕ × D) → n < length all → x ≡ get_or all n x → first_among (n + 1) all ≡ with_first (first_among n all) x
  first_next all n x within here = by (is_some (stands_for (take n all) x.0)) refl
    where
      same : is_some (stands_for (first_among n all) x.0) ≡ is_some (stands_for (take n all) x.0)
      same = let below : n ≤ length all = omega arith in ap is_some (stands_among all n x.0 below)

      by : (b : Bool) → is_some (stands_for (take n all) x.0) ≡ b → first_among (n + 1) all ≡ with_first (first_among n all) x
      by true there =
          first-more all n x false within here there
          ∙ append-nil (first_among n all)
          ∙ ap (λ c. cond c (first_among n all) (first_among n all ++ x ∷ [])) (sym (same ∙ there))
      by false absent =
          first-more all n x true within here absent
          ∙ ap (λ c. cond c (first_among n all) (first_among n all ++ x ∷ [])) (sym (same ∙ absent))

  firsts_among : (all : List (List ℕ × D)) (n : ℕ) → n ≤ length all → with_firsts [] (take n all) ≡ first_among n all
  firsts_among all zero within = refl
  firsts_among [] (suc n) within = absurd (omega arith)
  firsts_among (y ∷ ys) (suc n) within =
      let all = y ∷ ys in
      let before : n < length all = omega arith in
      let next : suc n ≡ n + 1 = omega arith in
      let x = get_or all n y in
      ap (with_firsts []) (take-suc all n y before)
      ∙ with_firsts-push [] (take n all) x
      ∙ ap (λ l. with_first l x) (firsts_among all n (omega arith))
      ∙ sym (first_next all n x before (get_or_default all n y x before))
      ∙ ap (λ m. first_among m all) (sym next)

  -- all of them in turn are the first declarations
  pub firsts_all : (all : List (List ℕ × D)) → with_firsts [] all ≡ first_ones all
  firsts_all all =
      ap (with_firsts []) (sym (take_all (length all) all (omega arith)))
      ∙ firsts_among all (length all) (omega arith)
      ∙ first_all all

  -- a name whose meaning is put back means what it meant
  pub put_back : (eq : List ℕ → List ℕ → Bool) (entries : List (List ℕ × D)) (name : List ℕ) (old new : D) → lookup (eq name) entries ≡ Some old → insert_entry eq (insert_entry eq entries name new) name old ≡ entries
  put_back eq [] name old new there = absurd (let no : ⊥ = cc in no)
  put_back eq (e ∷ entries) name old new there = by (eq name e.0) refl there (put_back eq entries name old new)
    where
      by : (b : Bool) → eq name e.0 ≡ b → cond b (Some e.1) (lookup (eq name) entries) ≡ Some old → (lookup (eq name) entries ≡ Some old → insert_entry eq (insert_entry eq entries name new) name old ≡ entries) → insert_entry eq (cond b ((e.0, new) ∷ entries) (e ∷ insert_entry eq entries name new)) name old ≡ e ∷ entries
      by true s h more =
          let same : e.1 ≡ old = cc in
          ap (λ b. cond b ((e.0, old) ∷ entries) ((e.0, new) ∷ insert_entry eq entries name old)) s
          ∙ ap (λ v. (e.0, v) ∷ entries) (sym same)
      by false s h more =
          ap (λ b. cond b ((e.0, old) ∷ insert_entry eq entries name new) (e ∷ insert_entry eq (insert_entry eq entries name new) name old)) s
          ∙ ap (λ l. e ∷ l) (more h)
