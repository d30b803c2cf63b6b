-- By the kind of the unit.
use Rattle.std.proofs.Common.{◌≡◌, List, Option, map, subst, sym, ℕ, ◌⊎◌, inl, inr}
use Rattle.std.specs.BTreeMap.{get}
use Rattle.fb_tree.specs.{Text.Order.{name_cmp}, Tree.{application_tree, decl_tree, instance_tree}, declared.declaration.Decl.{Decl}}
use Rattle.fb_tree.specs.{declared.declaration.Decl.TheVariants.{Adapter, Block, Structure}, declared.declaration.TypeDeclaration.{TypeDeclaration}}
use Rattle.fb_tree.specs.{declared.network.Instance.{Instance}, declared.system.Application.{Application}}
use Rattle.fb_tree.specs.declared.structure.Structure as structures
use Rattle.fb_types.specs.{Applications.{plain_application}, Counts.{CountsAll, CountsOn, plain_instances}, Units.{instances_in, own_instances}}
use Rattle.fb_types.specs.declared.systems.Application as plain
use Rattle.fb_types.proofs.Counting.{count_nothing, from_nothing, mapped_twice}
use Rattle.fb_types.proofs.counts.count_of_unit.Goals as goal

pub returns-in-Subapplication : goal.returns-in-Subapplication
returns-in-Subapplication c =
    let counts = get name_cmp c.args.counts.now in
    let count = c.count_instances.result in
    let items = c.in-Subapplication.declared.network.instances.items in
    subst (λ (d : Decl). CountsAll counts (own_instances (decl_tree d)) count) (sym c.in-Subapplication.is)
    (from_nothing counts (plain_instances (map instance_tree items)) count
    (subst (λ (l : List Instance). CountsOn counts 0 (plain_instances (map instance_tree l)) count) c.as_slice.ensures.value c.count_instances.ensures))

pub returns-in-System : goal.returns-in-System
returns-in-System c =
    let counts = get name_cmp c.args.counts.now in
    let count = c.count_applications.result in
    let items = c.in-System.system.applications.items in
    subst (λ (d : Decl). CountsAll counts (own_instances (decl_tree d)) count) (sym c.in-System.is)
    (subst (λ (l : List plain.Application). CountsAll counts (instances_in l) count) (sym (mapped_twice plain_application application_tree items))
    (subst (λ (l : List Application). CountsAll counts (instances_in (map (λ a. plain_application (application_tree a)) l)) count) c.as_slice-in-System.ensures.value c.count_applications.ensures))

-- types without instances, and structures
none : (counts : List ℕ → Option ℕ) (d : Decl) → ((x : TypeDeclaration) × (d ≡ Block x)) ⊎ ((x : TypeDeclaration) × (d ≡ Adapter x)) ⊎ ((x : structures.Structure) × (d ≡ Structure x)) → CountsAll counts (own_instances (decl_tree d)) 0
none counts d (inl p) = subst (λ (e : Decl). CountsAll counts (own_instances (decl_tree e)) 0) (sym p.1) (λ view all. count_nothing)
none counts d (inr (inl p)) = subst (λ (e : Decl). CountsAll counts (own_instances (decl_tree e)) 0) (sym p.1) (λ view all. count_nothing)
none counts d (inr (inr p)) = subst (λ (e : Decl). CountsAll counts (own_instances (decl_tree e)) 0) (sym p.1) (λ view all. count_nothing)

pub returns-in-Block : goal.returns-in-Block
returns-in-Block c = none (get name_cmp c.args.counts.now) c.args.decl.now c.in-Block.is

pub returns-in-Block-2 : goal.returns-in-Block-2
returns-in-Block-2 c = none (get name_cmp c.args.counts.now) c.args.decl.now c.in-Block.is

pub returns-in-Block-3 : goal.returns-in-Block-3
returns-in-Block-3 c = none (get name_cmp c.args.counts.now) c.args.decl.now c.in-Block.is
