-- Types of instances that are usable, and names that are not checked because the type of an instance is not usable.
use Rattle.std.specs.Prelude.{◌≡◌, ℕ, List, Option, Some, ◌⊎◌}
use Rattle.fb_laws.specs.Common.{NameUse, TypeTree, adapter_type, block_type, subapplication_type, Role, Sources, tree_at, DeclaredInstance, stands_for, Meanings, meanings_in_type, Block, Plug, Socket, Subapplication}

-- The type of this name is usable in this role: present, not broken, and of the kind that the role needs. These are the meanings of its
-- names.
pub data IsUsable (sources : Sources) (name : List ℕ) : Role → Meanings → Type 0 where
  as_plug : (d : TypeTree) → tree_at sources name ≡ Some (adapter_type d)
      → IsUsable sources name Plug (meanings_in_type d)
  as_socket : (d : TypeTree) → tree_at sources name ≡ Some (adapter_type d)
      → IsUsable sources name Socket (meanings_in_type d)
  as_block : (d : TypeTree) → tree_at sources name ≡ Some (block_type d)
      → IsUsable sources name Block (meanings_in_type d)
  as_subapplication : (d : TypeTree) → tree_at sources name ≡ Some (subapplication_type d)
      → IsUsable sources name Subapplication (meanings_in_type d)

-- a plug or a socket
abbrev pub IsAdapter : DeclaredInstance → Type 0
IsAdapter i = i.role ≡ Plug ⊎ i.role ≡ Socket

-- `I.X`, if I means an instance for which Counts holds and whose type is not usable
pub data IsNotJudged (sources : Sources) (own : Meanings) (Counts : DeclaredInstance → Type 0) : NameUse → Option NameUse → Type 0 where
  of_unusable : {I X : NameUse} (i : DeclaredInstance) → stands_for own.instances I.name ≡ Some i → Counts i
      → ((ports : Meanings) → ¬ IsUsable sources i.type_name.name i.role ports)
      → IsNotJudged sources own Counts I (Some X)
