-- Nets that new texts leave unchanged.
use Rattle.std.specs.{Prelude.{◌≡◌, ◌⊎◌, ℕ, true, List, [], None, Some}, FinMap.{get}}
use Rattle.fb_types.specs.{Library.View.{Sources, tree_at}, Library.Rests.{Rests}, ByName.{kind_at}, Local.{HasSameInterface}}
use Rattle.fb_types.specs.{Tree.declared.kinds.UnitKind.TheVariants.{Block}, Hints.{is_whole_net}}
use Rattle.fb_faults.specs.Faults.{faults_of}
use Rattle.fb_flatten.specs.{Net.{PlainNet}, Nets.{net_at}}

-- The text under the name is unchanged, or is still that of a block type; its interface for what rests on it is the same, it has no faults, and it is
-- absent only if it was absent before.
pub record IsStill (before now : Sources) (name : List ℕ) : Type 0 where
  pub text : (get before name ≡ get now name) ⊎ (kind_at before name ≡ Some Block)
  pub says : HasSameInterface (tree_at before name) (tree_at now name)
  pub faultless : faults_of now name ≡ []
  pub absent : get now name ≡ None → get before name ≡ None

-- the unit still has its own text, and all that it rested on is unchanged for it
pub record LeavesNet (before now : Sources) (unit : List ℕ) : Type 0 where
  pub own : get before unit ≡ get now unit
  pub still : (name : List ℕ) → Rests before unit name → IsStill before now name

-- then its net, if nothing blocked it and none of what it rests on reaches itself, is unchanged
abbrev pub NetIsUnchanged : Type 0
NetIsUnchanged =
    (before now : Sources) (unit : List ℕ) (net : PlainNet)
    → LeavesNet before now unit → is_whole_net net ≡ true → net_at before unit ≡ Some net → net_at now unit ≡ Some net
