-- Name spaces, by the function of the check.
use Rattle.fb_laws.proofs.Common.{VariablesTree, arith, ◌≡◌, ℕ, List, [], ◌++◌, map, if◌then◌else◌, Some, ◌⊎◌, inl, refl, ap, subst, Contains, slice_get, Contains-append_left, Contains-append_right, NameUse, contains_flat_map, contains_later, contains_map, contains_single, origin_in_flat_map, origin_in_map, ApplicationTree, DeclTree, InstanceTree, NetworkTree, ParameterTree, SystemTree, TypeTree, adapter_type, block_type, structure_type, subapplication_type, system_configuration, Block, chart_spaces, interface_spaces, is_block, network_spaces, parameter_names, resource_names, spaces_of, system_spaces, type_spaces, IsHeldIn, IsType, instance_of_application, instance_of_type, of_adapter, of_block, of_subapplication, flat_map}
use Rattle.fb_laws.proofs.Lists.{of_either, of_first}
use Rattle.fb_laws.specs.Spaces.{IsSpace, algorithms, applications, devices, events, fields, instances, instances_of_application, parameters, resources, states, variables}

abbrev written : InstanceTree → List NameUse
written i = map (λ (p : ParameterTree). p.name) i.parameters

-- a space, or no names
abbrev IsSpaceOrNone : DeclTree → List NameUse → Type 0
IsSpaceOrNone decl space = IsSpace decl space ⊎ (space ≡ [])

-- the spaces of a network, of a type or of an application
known_network : (decl : DeclTree) (n : NetworkTree) → IsSpace decl (map (λ (i : InstanceTree). i.name) n.instances) → ((i : InstanceTree) → Contains n.instances i → IsHeldIn decl i) → (space : List NameUse) → Contains (network_spaces n) space → IsSpaceOrNone decl space
known_network decl n named held =
    of_first {P = IsSpaceOrNone decl} _ _ (inl named)
    (λ space h. let o = origin_in_map parameter_names n.instances space h in subst (IsSpaceOrNone decl) o.gives (grind (arith, parameters)))

known_type : (decl : DeclTree) (d : TypeTree) → IsType decl d → (space : List NameUse) → Contains (type_spaces d) space → IsSpaceOrNone decl space
known_type decl d is space c = grind (arith, events, variables, states, algorithms, known_network, instances, instance_of_type)

-- those of the applications of a system
abbrev inner_spaces : SystemTree → List (List NameUse)
inner_spaces s = flat_map (λ (a : ApplicationTree). network_spaces a.network) s.applications

known_system : (s : SystemTree) (space : List NameUse) → Contains (system_spaces s) space → IsSpaceOrNone (system_configuration s) space
known_system s =
    of_first {P = IsSpaceOrNone (system_configuration s)} _ _ (inl (applications s)) (of_either {P = IsSpaceOrNone (system_configuration s)} (inner_spaces s) _
    (λ space h. let o = origin_in_flat_map (λ (a : ApplicationTree). network_spaces a.network) s.applications space h in known_network (system_configuration s) o.origin.network (instances_of_application o.among) (λ i. instance_of_application o.among) space o.has)
    (of_first {P = IsSpaceOrNone (system_configuration s)} _ _ (inl (devices s))
    (λ space h. let o = origin_in_map resource_names s.devices space h in inl (subst (IsSpace (system_configuration s)) o.gives (resources o.among)))))

known : (decl : DeclTree) (space : List NameUse) → Contains (spaces_of decl) space → IsSpaceOrNone decl space
known (block_type d) space c = known_type (block_type d) d (of_block d) space c
known (adapter_type d) space c = known_type (adapter_type d) d (of_adapter d) space c
known (subapplication_type d) space c = known_type (subapplication_type d) d (of_subapplication d) space c
known (system_configuration s) space c = known_system s space c
known (structure_type s) space c = inl (subst (IsSpace (structure_type s)) (contains_single (flat_map (λ (v : VariablesTree). v.names) s.fields) space c) (fields s))

-- what the function lists, if a name is there
pub known_space : (decl : DeclTree) (space : List NameUse) (place : ℕ) (name : NameUse) → Contains (spaces_of decl) space → slice_get space place ≡ Some name → IsSpace decl space
known_space decl space place name c at = grind (arith, known)

-- the function lists each space

of_type : (decl : DeclTree) (d : TypeTree) → IsType decl d → (space : List NameUse) → Contains (type_spaces d) space → Contains (spaces_of decl) space
of_type decl d is space c = grind arith

in_application : (s : SystemTree) (a : ApplicationTree) → Contains s.applications a → (space : List NameUse) → Contains (network_spaces a.network) space → Contains (system_spaces s) space
in_application s a among space c = contains_later _ _ space (Contains-append_left (inner_spaces s) _ space (contains_flat_map (λ (x : ApplicationTree). network_spaces x.network) s.applications a space among c))

in_network : (n : NetworkTree) (i : InstanceTree) → Contains n.instances i → i.role ≡ Block → Contains (network_spaces n) (written i)
in_network n i c e =
    contains_later _ _ (written i)
    (subst (λ (space : List NameUse). Contains (map parameter_names n.instances) space) (ap (λ r. if is_block r then written i else []) e) (contains_map parameter_names n.instances i c))

held_space : (decl : DeclTree) (i : InstanceTree) → IsHeldIn decl i → i.role ≡ Block → Contains (spaces_of decl) (written i)
held_space decl i (instance_of_type {type = d} is c) e =
    of_type decl d is (written i) (Contains-append_right (interface_spaces d.interface ++ chart_spaces d.chart) (network_spaces d.network) (written i) (in_network d.network i c e))
held_space decl i (instance_of_application {s = s} {application = a} among c) e = in_application s a among (written i) (in_network a.network i c e)

pub told_space : (decl : DeclTree) (space : List NameUse) → IsSpace decl space → Contains (spaces_of decl) space
told_space decl space (events {type = d} is) = of_type decl d is _ (0, omega arith, refl)
told_space decl space (variables {type = d} is) = of_type decl d is _ (1, omega arith, refl)
told_space decl space (states {type = d} is) = of_type decl d is _ (2, omega arith, refl)
told_space decl space (algorithms {type = d} is) = of_type decl d is _ (3, omega arith, refl)
told_space decl space (instances {type = d} is) = of_type decl d is _ (4, omega arith, refl)
told_space decl space (fields s) = (0, omega arith, refl)
told_space decl space (applications s) = (0, omega arith, refl)
told_space decl space (instances_of_application {s = s} {application = a} among) = in_application s a among _ (0, omega arith, refl)
told_space decl space (devices s) = contains_later _ _ _ (Contains-append_right (inner_spaces s) _ _ (0, omega arith, refl))
told_space decl space (resources {s = s} {device = d} among) =
    contains_later _ _ _ (Contains-append_right (inner_spaces s) _ _ (contains_later _ _ _ (contains_map resource_names s.devices d among)))
told_space decl space (parameters {instance = i} held e) = held_space decl i held e
