-- The types in the mirror of a declaration are those in the declaration.
use Rattle.std.proofs.Common.{◌≡◌, ℕ, List, [], ◌∷◌, ◌++◌, map, refl, ap, ap₂}
use Rattle.std.specs.List.{flat_map}
use Rattle.fb_tree.specs.{Mentions.{types_in, variable_types}, Tree.{application_tree, instance_tree, variables_tree}, declared.network.Instance.{Instance}}
use Rattle.fb_tree.specs.Mentions.{Mentioned}
use Rattle.fb_tree.specs.{declared.interface.Variables.{Variables}, declared.system.Application.{Application}}

pub types_of_instances : (instances : List Instance) → types_in (map instance_tree instances) ≡ map (λ i. i.type_name.name) instances
types_of_instances [] = refl
types_of_instances (i ∷ is) = ap (λ names. i.type_name.name ∷ names) (types_of_instances is)

pub application_types : (applications : List Application) → flat_map (λ a. types_in a.network.instances) (map application_tree applications) ≡ flat_map (λ a. map (λ i. i.type_name.name) a.network.instances.items) applications
application_types [] = refl
application_types (a ∷ others) = ap₂ (λ (x y : List (List ℕ)). x ++ y) (types_of_instances a.network.instances.items) (application_types others)

pub types_of_variables : (groups : List Variables) → variable_types (map variables_tree groups) ≡ map (λ v. v.type_use.name.name) groups
types_of_variables [] = refl
types_of_variables (v ∷ others) = ap (λ names. v.type_use.name.name ∷ names) (types_of_variables others)

pub same_mentioned : (a b : Mentioned) → a.parts ≡ b.parts → a.of_values ≡ b.of_values → a.is_structure ≡ b.is_structure → a ≡ b
same_mentioned a b parts of_values is_structure = λ i. record { parts = parts i; of_values = of_values i; is_structure = is_structure i }
