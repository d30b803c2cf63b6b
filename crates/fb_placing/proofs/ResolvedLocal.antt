-- What stands at the paths of a system depends on the texts alone in which it is declared.
use Rattle.std.proofs.Common.{ℕ, ◌≡◌, Bool, true, false, not, cond, List, [], ◌∷◌, Option, Some, None, refl, sym, ◌∙◌, ap, subst}
use Rattle.std.specs.{Prelude.{Contains, find, option_map, option_and_then}, Option.{option_map_or}, Str.{bytes_eq}}
use Rattle.std.specs.{FinMap.{get, slice_cmp-IsAntisymmetric, nat_cmp-IsAntisymmetric}, Cmp.Lexicographic.{nat_list_cmp_total}}
use Rattle.fb_tree.specs.Text.Order.{name_cmp}
use Rattle.fb_tree.specs.Tree.{ApplicationTree, DeclTree, InstanceTree, block_type, adapter_type, subapplication_type, system_configuration, structure_type}
use Rattle.fb_tree.specs.Mentions.{instance_types, types_in}
use Rattle.fb_tree.proofs.{Text.OrderLemmas.{in_order-members}, Text.Members.{contains_nothing, contains_here, contains_later, contains_flat_map, contains_map}}
use Rattle.fb_library.specs.{View.{Sources, tree_at, tree_of, parts_at, parts_in}, Rests.{Rests, itself}, Local.{AgreeFar}}
use Rattle.fb_library.proofs.Locality.{part_mention, rests_more}
use Rattle.fb_placing.specs.FirstEntry.{first_at}
use Rattle.fb_placing.specs.Resolved.{PlainResolved, application_called, inner_instances, is_placed, leads_nowhere, resolved_among, resolved_at, resolved_beyond, resolved_from, resolved_inside}
use Rattle.fb_placing.specs.Systems.{applications_in}
use Rattle.fb_placing.proofs.ResolvedLemmas.{beyond_nothing}

-- what is found is the form of an item
record IsFound {X Y : Type 0} (value : X → Y) (xs : List X) (y : Y) : Type 0 where
  pub item : X
  pub among : Contains xs item
  pub gives : value item ≡ y

found_in : {X Y : Type 0} (key : X → List ℕ) (value : X → Y) (xs : List X) (q : List ℕ) (y : Y) → first_at key value xs q ≡ Some y → IsFound value xs y
found_in key value [] q y e = absurd (let no : ⊥ = cc in no)
found_in {X = X} {Y = Y} key value (x ∷ xs) q y e = by_test (bytes_eq (key x) q) e (found_in key value xs q y)
  where
    by_test : (b : Bool) → option_map value (cond b (Some x) (find (λ (z : X). bytes_eq (key z) q) xs)) ≡ Some y → (first_at key value xs q ≡ Some y → IsFound value xs y) → IsFound value (x ∷ xs) y
    by_test true e more = record { item = x; among = contains_here x xs; gives = cc }
    by_test false e more = let f = more e in record { item = f.item; among = contains_later x xs f.item f.among; gives = f.gives }

-- what is rested on has parts that are rested on too
rests_on : {sources : Sources} {u v w : List ℕ} → Rests sources u v → Contains (parts_at sources v) w → Rests sources u w
rests_on {sources} {v = v} {w = w} r m = rests_more r (part_mention sources v w m)

-- the type of an instance
abbrev type_of : PlainResolved → List ℕ
type_of s = s.instance.type_name.name

among_typed : (unit : List ℕ) (instances : List InstanceTree) (name : List ℕ) (s : PlainResolved) → resolved_among unit instances name ≡ Some s → Contains (types_in instances) (type_of s)
among_typed unit instances name s e =
    let f = found_in (λ (i : InstanceTree). i.name.name) (λ (i : InstanceTree). let it : PlainResolved = record { unit = unit; instance = i } in it) instances name s e in
    subst (λ (t : List ℕ). Contains (types_in instances) t) (ap type_of f.gives) (contains_map (λ (i : InstanceTree). i.type_name.name) instances f.item f.among)

mentioned : (tree : DeclTree) (v : List ℕ) → Contains (instance_types tree) v → Contains (parts_in (Some tree)) v
mentioned tree v c = (in_order-members name_cmp nat_list_cmp_total (slice_cmp-IsAntisymmetric nat_cmp-IsAntisymmetric) (instance_types tree) v).1 c

inner_mentioned : (tree : Option DeclTree) (v : List ℕ) → Contains (types_in (inner_instances tree)) v → Contains (parts_in tree) v
inner_mentioned None v c = absurd (contains_nothing v c)
inner_mentioned (Some (block_type d)) v c = absurd (contains_nothing v c)
inner_mentioned (Some (adapter_type d)) v c = absurd (contains_nothing v c)
inner_mentioned (Some (subapplication_type d)) v c = mentioned (subapplication_type d) v c
inner_mentioned (Some (system_configuration s)) v c = absurd (contains_nothing v c)
inner_mentioned (Some (structure_type s)) v c = absurd (contains_nothing v c)

application_mentioned : (tree : Option DeclTree) (a : ApplicationTree) (v : List ℕ) → Contains (applications_in tree) a → Contains (types_in a.network.instances) v → Contains (parts_in tree) v
application_mentioned None a v c d = absurd (contains_nothing a c)
application_mentioned (Some (block_type t)) a v c d = absurd (contains_nothing a c)
application_mentioned (Some (adapter_type t)) a v c d = absurd (contains_nothing a c)
application_mentioned (Some (subapplication_type t)) a v c d = absurd (contains_nothing a c)
application_mentioned (Some (system_configuration s)) a v c d =
    mentioned (system_configuration s) v (contains_flat_map (λ (x : ApplicationTree). types_in x.network.instances) s.applications a v c d)
application_mentioned (Some (structure_type s)) a v c d = absurd (contains_nothing a c)

-- what can be placed stands in the same texts in both: that of the system, and those of types that hold instances
pub record SameInstances (a b : Sources) (unit : List ℕ) : Type 0 where
  pub own : get a unit ≡ get b unit
  pub instances : (v : List ℕ) → Rests a unit v → inner_instances (tree_at a v) ≡ inner_instances (tree_at b v)
  pub texts : (v : List ℕ) (i : InstanceTree) → Rests a unit v → Contains (inner_instances (tree_at a v)) i → get a v ≡ get b v

-- so it is where all texts are the same
pub same_instances : (a b : Sources) (unit : List ℕ) → AgreeFar unit a b → SameInstances a b unit
same_instances a b unit agree = record {
  own = agree unit itself;
  instances = λ v r. ap (λ (o : Option (List ℕ)). inner_instances (option_and_then tree_of o)) (agree v r);
  texts = λ v i r c. agree v r;
}

pub own_tree : (a b : Sources) (unit : List ℕ) → SameInstances a b unit → tree_at a unit ≡ tree_at b unit
own_tree a b unit same = ap (option_and_then tree_of) same.own

module _ (a b : Sources) (unit : List ℕ) (same : SameInstances a b unit) where
  -- the unit rests on the type of the instance
  abbrev Reached : Option PlainResolved → Type 0
  Reached o = (s : PlainResolved) → o ≡ Some s → Rests a unit (type_of s)

  inside_reached : (name : List ℕ) (s : PlainResolved) → Rests a unit (type_of s) → Reached (resolved_inside a name s)
  inside_reached name s r t e =
      rests_on r (inner_mentioned (tree_at a (type_of s)) (type_of t) (among_typed (type_of s) (inner_instances (tree_at a (type_of s))) name t e))

  inside_same : (name : List ℕ) (s : PlainResolved) → Rests a unit (type_of s) → resolved_inside a name s ≡ resolved_inside b name s
  inside_same name s r = ap (λ (is : List InstanceTree). resolved_among (type_of s) is name) (same.instances (type_of s) r)

  beyond_same : (names : List (List ℕ)) (o : Option PlainResolved) → Reached o → resolved_beyond a o names ≡ resolved_beyond b o names
  beyond_same [] o r = refl
  beyond_same (name ∷ names) None r = beyond_nothing a names ∙ sym (beyond_nothing b names)
  beyond_same (name ∷ names) (Some s) r =
      beyond_same names (resolved_inside a name s) (inside_reached name s (r s refl))
      ∙ ap (λ (o : Option PlainResolved). resolved_beyond b o names) (inside_same name s (r s refl))

  pub at_same : (names : List (List ℕ)) → resolved_at a unit (applications_in (tree_at a unit)) names ≡ resolved_at b unit (applications_in (tree_at a unit)) names
  at_same [] = refl
  at_same (first ∷ names) = by_application (application_called apps first) refl
    where
      apps : List ApplicationTree
      apps = applications_in (tree_at a unit)

      from_same : (it : ApplicationTree) → Contains apps it → (ns : List (List ℕ)) → resolved_from a unit it.network.instances ns ≡ resolved_from b unit it.network.instances ns
      from_same it c [] = refl
      from_same it c (name ∷ ns) =
          beyond_same ns (resolved_among unit it.network.instances name)
          (λ s e. rests_on itself (application_mentioned (tree_at a unit) it (type_of s) c (among_typed unit it.network.instances name s e)))

      by_application : (o : Option ApplicationTree) → application_called apps first ≡ o → option_and_then (λ (it : ApplicationTree). resolved_from a unit it.network.instances names) o ≡ option_and_then (λ (it : ApplicationTree). resolved_from b unit it.network.instances names) o
      by_application None e = refl
      by_application (Some it) e =
          let f = found_in (λ (x : ApplicationTree). x.name.name) (λ (x : ApplicationTree). x) apps first it e in
          from_same it (subst (λ (x : ApplicationTree). Contains apps x) f.gives f.among) names

  -- the unit that declares the instance has the same text in both
  abbrev Declared : Option PlainResolved → Type 0
  Declared o = (s : PlainResolved) → o ≡ Some s → get a s.unit ≡ get b s.unit

  among_declared : (u : List ℕ) (instances : List InstanceTree) (name : List ℕ) → ((i : InstanceTree) → Contains instances i → get a u ≡ get b u) → Declared (resolved_among u instances name)
  among_declared u instances name r s e =
      let f = found_in (λ (i : InstanceTree). i.name.name) (λ (i : InstanceTree). let it : PlainResolved = record { unit = u; instance = i } in it) instances name s e in
      subst (λ (v : List ℕ). get a v ≡ get b v) (ap (λ (t : PlainResolved). t.unit) f.gives) (r f.item f.among)

  beyond_declared : (names : List (List ℕ)) (o : Option PlainResolved) → Reached o → Declared o → Declared (resolved_beyond a o names)
  beyond_declared [] o r d = d
  beyond_declared (name ∷ names) None r d = λ s e. absurd (let nothing = beyond_nothing a names in let no : ⊥ = cc in no)
  beyond_declared (name ∷ names) (Some s) r d =
      beyond_declared names (resolved_inside a name s) (inside_reached name s (r s refl))
      (among_declared (type_of s) (inner_instances (tree_at a (type_of s))) name (λ i c. same.texts (type_of s) i (r s refl) c))

  pub declared_alike : (names : List (List ℕ)) → Declared (resolved_at a unit (applications_in (tree_at a unit)) names)
  declared_alike [] = λ s e. absurd (let no : ⊥ = cc in no)
  declared_alike (first ∷ names) = by_application (application_called apps first) refl
    where
      apps : List ApplicationTree
      apps = applications_in (tree_at a unit)

      from_declared : (it : ApplicationTree) → Contains apps it → (ns : List (List ℕ)) → Declared (resolved_from a unit it.network.instances ns)
      from_declared it c [] = λ s e. absurd (let no : ⊥ = cc in no)
      from_declared it c (name ∷ ns) =
          beyond_declared ns (resolved_among unit it.network.instances name)
          (λ s e. rests_on itself (application_mentioned (tree_at a unit) it (type_of s) c (among_typed unit it.network.instances name s e)))
          (among_declared unit it.network.instances name (λ i c. same.own))

      by_application : (o : Option ApplicationTree) → application_called apps first ≡ o → Declared (option_and_then (λ (it : ApplicationTree). resolved_from a unit it.network.instances names) o)
      by_application None e = λ s f. absurd (let no : ⊥ = cc in no)
      by_application (Some it) e =
          let f = found_in (λ (x : ApplicationTree). x.name.name) (λ (x : ApplicationTree). x) apps first it e in
          from_declared it (subst (λ (x : ApplicationTree). Contains apps x) f.gives f.among) names

  pub nowhere_same : (names : List (List ℕ)) → leads_nowhere a unit (applications_in (tree_at a unit)) names ≡ leads_nowhere b unit (applications_in (tree_at a unit)) names
  nowhere_same [] = refl
  nowhere_same (first ∷ []) = refl
  nowhere_same (first ∷ (name ∷ names)) =
      ap (λ (o : Option PlainResolved). option_map_or (λ (s : PlainResolved). not (is_placed s.instance.role)) o true) (at_same (first ∷ (name ∷ names)))
