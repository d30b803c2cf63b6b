-- Where as many names are declared first as there are declarations, none is declared again.
use Rattle.std.proofs.Common.{◌≡◌, zero, suc, ℕ, ◌+◌, ◌<◌, ◌≤◌, Bool, true, false, cond, not, ◌||◌, List, [], ◌∷◌, ◌++◌, length, get_or, map, take, refl, sym, ap, ◌∙◌, is_some, arith, length-append}
use Rattle.std.proofs.{lemmas.List.{get_or-map, get_or_default, length-map, map-append, nil_from_length, take-map}, lemmas.Map.Made.{is_some-lookup}}
use Rattle.std.specs.List.{flat_map, list_any}
use Rattle.fb_tree.specs.Tree.{EventTree, InstanceTree, InterfaceTree, NetworkTree, VariablesTree, event_tree, instance_tree}
use Rattle.fb_tree.specs.{declared.interface.Event.{Event}, declared.network.Instance.{Instance}, Text.declared.name.NameUse.{NameUse}}
use Rattle.fb_iface.specs.{Names.{first_ones, has_name, is_repeated, is_same, repeated, stands_for}, Ports.{events_in, instances_in, variables_together}}
use Rattle.fb_iface.specs.Ports.{DeclaredEvent, DeclaredInstance}
use Rattle.fb_iface.specs.Ports.{DeclaredVariable}
use Rattle.fb_iface.proofs.{PlaceLemmas.{passing-more}, RepeatLemmas.{repeated_all, repeated_among}, TableLemmas.{first-more, first_all, first_among}}
use Rattle.fb_iface.proofs.TreeLemmas.{same_items}

any-named : (test : List ℕ → Bool) (names : List NameUse) → list_any (λ n. test n.name) names ≡ list_any test (map (λ n. n.name) names)
any-named test [] = refl
any-named test (x ∷ names) = ap (λ b. test x.name || b) (any-named test names)

twice : (b : Bool) → b ≡ not (not b)
twice true = refl
twice false = refl

-- what items before one give, and it, is part of what all give
pub given_within : {A B : Type 0} (f : A → List B) (xs : List A) (n : ℕ) (x : A) → n < length xs → x ≡ get_or xs n x → length (flat_map f (take n xs)) + length (f x) ≤ length (flat_map f xs)
given_within f [] n x within here = absurd (omega arith)
given_within f (y ∷ xs) zero x within here =
    let same : length (f x) ≡ length (f y) = ap (λ a. length (f a)) here in
    omega (arith, same, length-append (f y) (flat_map f xs))
given_within f (y ∷ xs) (suc n) x within here =
    let below : n < length xs = omega arith in
    omega (arith, length-append (f y) (flat_map f (take n xs)), length-append (f y) (flat_map f xs), given_within f xs n x below here)

one_of_two : {A B : Type 0} (b : Bool) (x : A) (y : B) → length (cond (not b) (x ∷ []) []) + length (cond b (y ∷ []) []) ≡ 1
one_of_two true x y = refl
one_of_two false x y = refl

module _ {D : Type 0} where
  -- a name means something among declarations where it is one of their names
  meant-named : (declared : List (List ℕ × D)) (names : List NameUse) (q : List ℕ) → map (λ d. d.0) declared ≡ map (λ n. n.name) names → is_some (stands_for declared q) ≡ has_name names q
  meant-named declared names q same =
      is_some-lookup (λ x. is_same x q) declared
      ∙ ap (list_any (λ x. is_same x q)) same
      ∙ sym (any-named (λ x. is_same x q) names)

  module _ (declared : List (List ℕ × D)) (names : List NameUse) (same : map (λ d. d.0) declared ≡ map (λ n. n.name) names) where
    as_long : length declared ≡ length names
    as_long = sym (length-map declared (λ d. d.0)) ∙ ap length same ∙ length-map names (λ n. n.name)

    counted_next : (n : ℕ) (x : List ℕ × D) (y : NameUse) → n < length declared → x ≡ get_or declared n x → y ≡ get_or names n y → x.0 ≡ y.name → length (first_among (n + 1) declared) + length (repeated_among (n + 1) names) ≡ (length (first_among n declared) + length (repeated_among n names)) + 1
    counted_next n x y within here there one =
        let b = has_name (take n names) y.name in
        let before : map (λ d. d.0) (take n declared) ≡ map (λ n. n.name) (take n names) = sym (take-map (λ (d : List ℕ × D). d.0) n declared) ∙ ap (take n) same ∙ take-map (λ (n : NameUse). n.name) n names in
        let known : is_some (stands_for (take n declared) x.0) ≡ b = meant-named (take n declared) (take n names) x.0 before ∙ ap (has_name (take n names)) one in
        let firsts : length (first_among (n + 1) declared) ≡ length (first_among n declared) + length (cond (not b) (x ∷ []) []) = ap length (first-more declared n x (not b) within here (known ∙ twice b)) ∙ length-append (first_among n declared) (cond (not b) (x ∷ []) []) in
        let inside : n < length names = omega (arith, as_long, within) in
        let again : length (repeated_among (n + 1) names) ≡ length (repeated_among n names) + length (cond b (y ∷ []) []) = ap length (passing-more (is_repeated names) names n y b inside there refl) ∙ length-append (repeated_among n names) (cond b (y ∷ []) []) in
        omega (arith, firsts, again, one_of_two b x y)

    counted : (n : ℕ) → n ≤ length declared → length (first_among n declared) + length (repeated_among n names) ≡ n
    counted zero within = refl
    counted (suc n) within = by declared names same refl refl (counted n (omega (arith, within)))
      where
        by : (ds : List (List ℕ × D)) (ns : List NameUse) → map (λ d. d.0) ds ≡ map (λ n. n.name) ns → ds ≡ declared → ns ≡ names → length (first_among n declared) + length (repeated_among n names) ≡ n → length (first_among (suc n) declared) + length (repeated_among (suc n) names) ≡ suc n
        by [] ns e is are before = let none : length declared ≡ 0 = ap length (sym is) in absurd (omega (arith, none, within))
        by (d ∷ ds) [] e is are before = absurd (let long : suc (length ds) ≡ 0 = sym (ap suc (length-map ds (λ x. x.0))) ∙ ap length e in omega (arith, long))
        by (d ∷ ds) (m ∷ ns) e is are before =
            let x = get_or declared n d in
            let y = get_or names n m in
            let below : n < length declared = omega (arith, within) in
            let inside : n < length names = omega (arith, as_long, below) in
            let one : x.0 ≡ y.name = sym (get_or-map (λ (d : List ℕ × D). d.0) declared n d m.name below) ∙ ap (λ l. get_or l n m.name) same ∙ get_or-map (λ (n : NameUse). n.name) names n m m.name inside in
            let next : suc n ≡ n + 1 = omega arith in
            ap (λ k. length (first_among k declared) + length (repeated_among k names)) next
            ∙ counted_next n x y below (get_or_default declared n d x below) (get_or_default names n m y inside) one
            ∙ ap (λ k. k + 1) before
            ∙ sym next

    pub none_again : length names ≤ length (first_ones declared) → repeated names ≡ []
    none_again many =
        let all = counted (length declared) (omega arith) in
        let firsts : length (first_among (length declared) declared) ≡ length (first_ones declared) = ap length (first_all declared) in
        let again : length (repeated_among (length declared) names) ≡ length (repeated names) = ap (λ n. length (repeated_among n names)) as_long ∙ ap length (repeated_all names) in
        nil_from_length (repeated names) (omega (arith, all, firsts, again, as_long, many))

-- the names of declarations of events, variables and instances

pub events_named : (i : InterfaceTree) → map (λ d. d.0) (events_in i) ≡ map (λ e. e.name.name) i.events
events_named i =
    let meant : EventTree → List ℕ × DeclaredEvent = λ e. (e.name.name, record { side = e.side; type_name = e.type_name }) in
    same_items meant (λ d. d.0) i.events

pub events_as_named : (events : List Event) → map (λ e. e.name.name) (map event_tree events) ≡ map (λ n. n.name) (map (λ e. e.name) events)
events_as_named [] = refl
events_as_named (x ∷ events) = ap (λ l. x.name.name ∷ l) (events_as_named events)

pub instances_named : (n : NetworkTree) → map (λ d. d.0) (instances_in n) ≡ map (λ i. i.name.name) n.instances
instances_named n =
    let meant : InstanceTree → List ℕ × DeclaredInstance = λ i. (i.name.name, record { role = i.role; type_name = i.type_name }) in
    same_items meant (λ d. d.0) n.instances

pub instances_as_named : (instances : List Instance) → map (λ i. i.name.name) (map instance_tree instances) ≡ map (λ n. n.name) (map (λ i. i.name) instances)
instances_as_named [] = refl
instances_as_named (x ∷ instances) = ap (λ l. x.name.name ∷ l) (instances_as_named instances)

together_named : (v : VariablesTree) → map (λ d. d.0) (variables_together v) ≡ map (λ n. n.name) v.names
together_named v =
    let meant : NameUse → List ℕ × DeclaredVariable = λ n. (n.name, record { section = v.section; type_use = v.type_use }) in
    same_items meant (λ d. d.0) v.names

pub variables_named : (groups : List VariablesTree) → map (λ d. d.0) (flat_map variables_together groups) ≡ map (λ n. n.name) (flat_map (λ v. v.names) groups)
variables_named [] = refl
variables_named (v ∷ groups) =
    map-append (λ (d : List ℕ × DeclaredVariable). d.0) (variables_together v) (flat_map variables_together groups)
    ∙ (λ i. together_named v i ++ variables_named groups i)
    ∙ sym (map-append (λ (n : NameUse). n.name) v.names (flat_map (λ v. v.names) groups))
