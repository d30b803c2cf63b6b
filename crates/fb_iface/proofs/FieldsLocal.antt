-- What further names may name, and whether a structure carries itself, depends on what is near the unit alone.
use Rattle.std.proofs.Common.{◌≡◌, ℕ, Bool, true, false, cond, List, [], ◌∷◌, ◌++◌, if◌then◌else◌, refl, sym, ap, ◌∙◌}
use Rattle.std.specs.{FinMap.{get}, Option.{option_and_then}}
use Rattle.fb_tree.specs.Tree.{DeclTree, block_type, adapter_type, subapplication_type, system_configuration, structure_type}
use Rattle.fb_tree.proofs.Text.Members.{contains_single}
use Rattle.fb_library.specs.{Local.{Agree}, Near.{bases_at, carried_of, near_of}, Seen.{has_name}, View.{Sources, tree_of, tree_at}}
use Rattle.fb_library.proofs.{Locality.{carried_local, near_base, near_carried, near_own_carried, near_unit, same_parts}, SeenLemmas.{Contains-has}}
use Rattle.fb_iface.specs.{Fault.{fault_at}, Fields.{NoFields, fields_among, fields_near, fields_of_tree}, Recursion.{carries_itself, recursion_faults}}
use Rattle.fb_iface.specs.declared.code.Code.TheVariants.{StructRecursive}

module _ (a b : Sources) where
  -- behind types under which both have the same text
  among_local : (types : List (List ℕ)) → Agree types a b → (name : List ℕ) → fields_among a types name ≡ fields_among b types name
  among_local types agree name = by (has_name types name) refl
    where
      by : (h : Bool) → has_name types name ≡ h → cond h (fields_of_tree (tree_at a name)) NoFields ≡ cond h (fields_of_tree (tree_at b name)) NoFields
      by true e = ap (λ o. fields_of_tree (option_and_then tree_of o)) (agree name (Contains-has name types e))
      by false e = refl

  module _ (unit : List ℕ) (agree : Agree (near_of a unit) a b) where
    own : get a unit ≡ get b unit
    own = agree unit (near_unit a unit)

    carried_agree : Agree (carried_of a (bases_at a unit)) a b
    carried_agree name c = agree name (near_carried a unit name c)

    same_carried : carried_of a (bases_at a unit) ≡ carried_of b (bases_at b unit)
    same_carried =
        carried_local a b (bases_at a unit) (λ name h. agree name (near_base a unit name h)) carried_agree
        ∙ ap (λ parts. carried_of b (parts ++ unit ∷ [])) (same_parts a b unit own)

    -- what further names may name
    pub fields_local : fields_near a unit ≡ fields_near b unit
    fields_local = λ i name. (among_local (carried_of a (bases_at a unit)) carried_agree name ∙ ap (λ types. fields_among b types name) same_carried) i

    same_unit : Agree (unit ∷ []) a b
    same_unit name h = ap (λ n. get a n) (sym (contains_single unit name h)) ∙ own ∙ ap (λ n. get b n) (contains_single unit name h)

    itself_local : carries_itself a unit ≡ carries_itself b unit
    itself_local = ap (λ names. has_name names unit) (carried_local a b (unit ∷ []) same_unit (λ name c. agree name (near_own_carried a unit name c)))

    -- whether a structure carries itself
    pub recursion_local : (decl : DeclTree) → recursion_faults a unit decl ≡ recursion_faults b unit decl
    recursion_local (block_type d) = refl
    recursion_local (adapter_type d) = refl
    recursion_local (subapplication_type d) = refl
    recursion_local (system_configuration s) = refl
    recursion_local (structure_type s) = ap (λ itself. if itself then fault_at StructRecursive s.name ∷ [] else []) itself_local
