-- Counts of instances, by the names of types.
use Rattle.std.specs.{Prelude.{ℕ, ◌≡◌, ◌+◌, List, ◌++◌, Option, None, Some, Contains, min, unwrap_or}, List.{filter_map}}
use Rattle.fb_tree.specs.Tree.{DeclTree, InstanceTree}
use Rattle.fb_network.specs.{declared.flat.count.TheConstants.{INSTANCE_LIMIT}, declared.network.InstanceKind.{InstanceKind}}
use Rattle.fb_network.specs.{declared.network.InstanceKind.TheVariants.{Block, Subapplication}, declared.network.Instance.{Instance}, Plain.{PlainNetwork}}
use Rattle.fb_network.specs.{Network.{View}, Count.{IsCount}}
use Rattle.fb_types.specs.{Networks.{plain_instance}, Units.{own_instances}}

abbrev pub count_of_kind : InstanceKind → (List ℕ → Option ℕ) → List ℕ → ℕ
count_of_kind Block counts type = 0
count_of_kind Subapplication counts type = unwrap_or (counts type) 0

-- how many instances there are inside an instance
abbrev pub count_in : (List ℕ → Option ℕ) → Instance → ℕ
count_in counts i = count_of_kind i.kind counts i.type_name

-- the instances of that type's network are counted
pub record IsCounted (view : View) (counts : List ℕ → Option ℕ) (name : List ℕ) : Type 0 where
  pub inner : PlainNetwork
  pub declared : view name ≡ Some inner
  pub count : ℕ
  pub found : counts name ≡ Some count
  pub counted : IsCount view inner.instances count

-- the types of the subapplication instances are counted
abbrev pub AreCounted : View → List Instance → (List ℕ → Option ℕ) → Type 0
AreCounted view list counts =
    (i : Instance) → Contains list i → i.kind ≡ Subapplication → IsCounted view counts i.type_name

-- a count, with one more instance and those inside it, up to one past the limit; plugs and sockets are not counted
abbrev pub counted_with : (List ℕ → Option ℕ) → ℕ → Option Instance → ℕ
counted_with counts so_far None = so_far
counted_with counts so_far (Some i) = min (so_far + 1 + count_in counts i) (INSTANCE_LIMIT + 1)

-- the blocks and subapplications among instances of a text
abbrev pub plain_instances : List InstanceTree → List Instance
plain_instances instances = filter_map plain_instance instances

-- a count of some instances, continued with these instances after them, if the types of their subapplications are counted
abbrev pub CountsOn : (List ℕ → Option ℕ) → ℕ → List Instance → ℕ → Type 0
CountsOn counts so_far instances count =
    (view : View) (prefix : List Instance)
    → AreCounted view instances counts → IsCount view prefix so_far → IsCount view (prefix ++ instances) count

-- the number of these instances, if the types of their subapplications are counted
abbrev pub CountsAll : (List ℕ → Option ℕ) → List Instance → ℕ → Type 0
CountsAll counts instances count = (view : View) → AreCounted view instances counts → IsCount view instances count

-- the number of the instances that a unit with this tree declares is under the name
pub record HasCount (counts new : List ℕ → Option ℕ) (tree : DeclTree) (name : List ℕ) : Type 0 where
  pub count : ℕ
  pub found : new name ≡ Some count
  pub counted : CountsAll counts (own_instances tree) count
