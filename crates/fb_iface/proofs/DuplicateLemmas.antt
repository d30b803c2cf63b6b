-- A name that stands in its name space before is among the faults of declarations.
use Rattle.std.proofs.{Common.{◌≡◌, ℕ, ◌+◌, List, ◌++◌, Option, Some, sym, subst, arith}, lemmas.List.Elements.{Contains-append_left, Contains-append_right}}
use Rattle.std.specs.List.{Contains, enumerate_from, filter, slice_get}
use Rattle.fb_tree.specs.{Text.declared.name.NameUse.{NameUse}, Tree.{DeclTree}}
use Rattle.fb_tree.proofs.Text.Members.{contains_filter, contains_flat_map, contains_map}
use Rattle.fb_library.specs.View.{Sources, tree_at}
use Rattle.fb_iface.specs.{declared.code.Code.TheVariants.{Duplicate}, declared.fault.Fault.{Fault}}
use Rattle.fb_iface.specs.Declarations.{declaration_faults, duplicate_faults, iface_faults_of, literal_faults_of, mixed_faults, name_faults, space_duplicates, with_faults_of}
use Rattle.fb_iface.specs.{Fault.{fault_at}, Names.{is_repeated, repeated}, Recursion.{recursion_faults}, Spaces.{spaces_of}, Types.{type_faults}}
use Rattle.fb_iface.proofs.EarlierLemmas.{IsEarlier, at_place, has_earlier}

pub duplicate_reported : (decl : DeclTree) (space : List NameUse) (later : ℕ) (again : NameUse) → Contains (spaces_of decl) space → slice_get space later ≡ Some again → IsEarlier space later again.name → Contains (duplicate_faults decl) (fault_at Duplicate again)
duplicate_reported decl space later again among at before =
    let start : 0 + later ≡ later = omega arith in
    let there = subst (λ (k : ℕ). Contains (enumerate_from 0 space) (k, again)) start (at_place 0 space later again at) in
    let placed = contains_filter (is_repeated space) (enumerate_from 0 space) (later, again) there (has_earlier space later again.name before) in
    contains_flat_map space_duplicates (spaces_of decl) space (fault_at Duplicate again) among
    (contains_map (fault_at Duplicate) (repeated space) again (contains_map (λ (placed : ℕ × NameUse). placed.1) (filter (is_repeated space) (enumerate_from 0 space)) (later, again) placed))

-- a fault of duplicates is one of the declarations of the unit
pub duplicate_in_whole : (sources : Sources) (unit : List ℕ) (decl : DeclTree) (f : Fault) → tree_at sources unit ≡ Some decl → Contains (duplicate_faults decl) f → Contains (iface_faults_of sources unit) f
duplicate_in_whole sources unit decl f present c =
    let names = name_faults unit decl ++ duplicate_faults decl in
    let mixed = names ++ mixed_faults decl in
    let types = mixed ++ type_faults sources decl in
    let withs = types ++ with_faults_of decl in
    let literals = withs ++ literal_faults_of decl in
    let in_names : Contains names f = Contains-append_right (name_faults unit decl) (duplicate_faults decl) f c in
    let in_mixed : Contains mixed f = Contains-append_left names (mixed_faults decl) f in_names in
    let in_types : Contains types f = Contains-append_left mixed (type_faults sources decl) f in_mixed in
    let in_withs : Contains withs f = Contains-append_left types (with_faults_of decl) f in_types in
    let in_literals : Contains literals f = Contains-append_left withs (literal_faults_of decl) f in_withs in
    let in_all : Contains (declaration_faults sources unit (Some decl)) f = Contains-append_left literals (recursion_faults sources unit decl) f in_literals in
    subst (λ (o : Option DeclTree). Contains (declaration_faults sources unit o) f) (sym present) in_all
