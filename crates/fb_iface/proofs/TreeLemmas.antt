-- The faults of a declaration are those of its mirror without memory.
use Rattle.std.proofs.{Common.{◌≡◌, List, [], ◌∷◌, ◌++◌, map, refl, sym, ap, ◌∙◌, append-nil, append_assoc}, lemmas.Grind.{flat_map-append}}
use Rattle.std.proofs.lemmas.List.Folds.{flat_map-map}
use Rattle.std.specs.List.{flat_map}
use Rattle.fb_tree.specs.Text.declared.name.NameUse.{NameUse}
use Rattle.fb_tree.specs.Tree.{InstanceTree, algorithm_tree, application_tree, chart_tree, device_tree, event_tree, instance_tree, interface_tree, network_tree, parameter_tree, resource_tree, state_tree, structure_tree, system_tree, variables_tree}
use Rattle.fb_tree.specs.{declared.chart.Chart.{Chart}, declared.interface.Interface.{Interface}, declared.network.Network.{Network}}
use Rattle.fb_tree.specs.{declared.network.Parameter.{Parameter}, declared.structure.Structure.{Structure}, declared.system.Application.{Application}}
use Rattle.fb_tree.specs.{declared.system.Device.{Device}, declared.system.System.{System}}
use Rattle.fb_iface.specs.{declared.fault.Fault.{Fault}, Declarations.{space_duplicates}}
use Rattle.fb_iface.specs.Spaces.{chart_spaces, interface_spaces, network_spaces, parameter_names, resource_names, structure_spaces, system_spaces}

-- the same of each item
pub same_items : {A B C : Type 0} (mirror : A → B) (f : B → C) (xs : List A) → map f (map mirror xs) ≡ map (λ x. f (mirror x)) xs
same_items mirror f [] = refl
same_items mirror f (x ∷ xs) = ap (λ l. f (mirror x) ∷ l) (same_items mirror f xs)

pub map_itself : {A : Type 0} (xs : List A) → map (λ x. x) xs ≡ xs
map_itself [] = refl
map_itself (x ∷ xs) = ap (λ l. x ∷ l) (map_itself xs)

flat_map-flat_map : {A B C : Type 0} (f : B → List C) (g : A → List B) (xs : List A) → flat_map f (flat_map g xs) ≡ flat_map (λ x. flat_map f (g x)) xs
flat_map-flat_map f g [] = refl
flat_map-flat_map f g (x ∷ xs) = flat_map-append f (g x) (flat_map g xs) ∙ ap (λ l. flat_map f (g x) ++ l) (flat_map-flat_map f g xs)

pub two_joined : (old a b : List Fault) → (old ++ a) ++ b ≡ old ++ (a ++ (b ++ []))
two_joined old a b = append_assoc old a b ∙ ap (λ l. old ++ (a ++ l)) (sym (append-nil b))

pub interface_joined : (old : List Fault) (interface : Interface) (variables : List NameUse) → variables ≡ flat_map (λ v. v.names.items) interface.variables.items → (old ++ space_duplicates (map (λ e. e.name) interface.events.items)) ++ space_duplicates (map (λ n. n) variables) ≡ old ++ flat_map space_duplicates (interface_spaces (interface_tree interface))
interface_joined old interface variables named =
    let declared : map (λ n. n) variables ≡ flat_map (λ v. v.names) (map variables_tree interface.variables.items) = map_itself variables ∙ named ∙ sym (flat_map-map (λ v. v.names) variables_tree interface.variables.items) in
    two_joined old _ _
    ∙ (λ i. old ++ (space_duplicates (sym (same_items event_tree (λ e. e.name) interface.events.items) i) ++ (space_duplicates (declared i) ++ [])))

pub structure_joined : (old : List Fault) (structure : Structure) (fields : List NameUse) → fields ≡ flat_map (λ v. v.names.items) structure.fields.items → old ++ space_duplicates (map (λ n. n) fields) ≡ old ++ flat_map space_duplicates (structure_spaces (structure_tree structure))
structure_joined old structure fields named =
    let declared : map (λ n. n) fields ≡ flat_map (λ v. v.names) (map variables_tree structure.fields.items) = map_itself fields ∙ named ∙ sym (flat_map-map (λ v. v.names) variables_tree structure.fields.items) in
    ap (λ l. old ++ l) (ap space_duplicates declared ∙ sym (append-nil (space_duplicates (flat_map (λ v. v.names) (map variables_tree structure.fields.items)))))

pub chart_joined : (old : List Fault) (chart : Chart) → (old ++ space_duplicates (map (λ s. s.name) chart.states.items)) ++ space_duplicates (map (λ a. a.name) chart.algorithms.items) ≡ old ++ flat_map space_duplicates (chart_spaces (chart_tree chart))
chart_joined old chart =
    two_joined old _ _
    ∙ (λ i. old ++ (space_duplicates (sym (same_items state_tree (λ s. s.name) chart.states.items) i) ++ (space_duplicates (sym (same_items algorithm_tree (λ a. a.name) chart.algorithms.items) i) ++ [])))

pub network_joined : (old : List Fault) (network : Network) → (old ++ space_duplicates (map (λ i. i.name) network.instances.items)) ++ flat_map (λ i. space_duplicates (parameter_names (instance_tree i))) network.instances.items ≡ old ++ flat_map space_duplicates (network_spaces (network_tree network))
network_joined old network =
    let parameters : flat_map (λ i. space_duplicates (parameter_names (instance_tree i))) network.instances.items ≡ flat_map space_duplicates (map parameter_names (map instance_tree network.instances.items)) = sym (flat_map-map space_duplicates parameter_names (map instance_tree network.instances.items) ∙ flat_map-map (λ i. space_duplicates (parameter_names i)) instance_tree network.instances.items) in
    append_assoc old _ _
    ∙ (λ i. old ++ (space_duplicates (sym (same_items instance_tree (λ d. d.name) network.instances.items) i) ++ parameters i))

pub parameters_named : (parameters : List Parameter) → map (λ p. p.name) parameters ≡ map (λ p. p.name) (map parameter_tree parameters)
parameters_named parameters = sym (same_items parameter_tree (λ p. p.name) parameters)

four_joined : (old a b c d : List Fault) → (((old ++ a) ++ b) ++ c) ++ d ≡ old ++ (a ++ (b ++ (c ++ d)))
four_joined old a b c d = simp append_assoc

resources_joined : (devices : List Device) → flat_map (λ d. space_duplicates (map (λ r. r.name) d.resources.items)) devices ≡ flat_map space_duplicates (map resource_names (map device_tree devices))
resources_joined [] = refl
resources_joined (d ∷ ds) = λ i. space_duplicates (sym (same_items resource_tree (λ r. r.name) d.resources.items) i) ++ resources_joined ds i

pub system_joined : (old : List Fault) (system : System) → (((old ++ space_duplicates (map (λ a. a.name) system.applications.items)) ++ flat_map (λ a. flat_map space_duplicates (network_spaces (network_tree a.network))) system.applications.items) ++ space_duplicates (map (λ d. d.name) system.devices.items)) ++ flat_map (λ d. space_duplicates (map (λ r. r.name) d.resources.items)) system.devices.items ≡ old ++ flat_map space_duplicates (system_spaces (system_tree system))
system_joined old system =
    let applications = system.applications.items in
    let devices = system.devices.items in
    let inner : flat_map (λ a. flat_map space_duplicates (network_spaces (network_tree a.network))) applications ≡ flat_map space_duplicates (flat_map (λ a. network_spaces a.network) (map application_tree applications)) =
    sym (flat_map-flat_map space_duplicates (λ a. network_spaces a.network) (map application_tree applications) ∙ flat_map-map (λ a. flat_map space_duplicates (network_spaces a.network)) application_tree applications) in
    let resources : flat_map (λ d. space_duplicates (map (λ r. r.name) d.resources.items)) devices ≡ flat_map space_duplicates (map resource_names (map device_tree devices)) =
    resources_joined devices in
    let joined : flat_map space_duplicates (system_spaces (system_tree system)) ≡ space_duplicates (map (λ a. a.name) (map application_tree applications)) ++ (flat_map space_duplicates (flat_map (λ a. network_spaces a.network) (map application_tree applications)) ++ (space_duplicates (map (λ d. d.name) (map device_tree devices)) ++ flat_map space_duplicates (map resource_names (map device_tree devices)))) =
    ap (λ l. space_duplicates (map (λ a. a.name) (map application_tree applications)) ++ l) (flat_map-append space_duplicates (flat_map (λ a. network_spaces a.network) (map application_tree applications)) (map (λ d. d.name) (map device_tree devices) ∷ map resource_names (map device_tree devices))) in
    four_joined old _ _ _ _
    ∙ (λ i. old ++ (space_duplicates (sym (same_items application_tree (λ a. a.name) applications) i) ++ (inner i ++ (space_duplicates (sym (same_items device_tree (λ d. d.name) devices) i) ++ resources i))))
    ∙ ap (λ l. old ++ l) (sym joined)

pub applications_joined : (f : InstanceTree → List Fault) (applications : List Application) → flat_map (λ a. flat_map f (network_tree a.network).instances) applications ≡ flat_map f (flat_map (λ a. a.network.instances) (map application_tree applications))
applications_joined f applications =
    sym (flat_map-flat_map f (λ a. a.network.instances) (map application_tree applications) ∙ flat_map-map (λ a. flat_map f a.network.instances) application_tree applications)
