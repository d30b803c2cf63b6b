-- What rests on what, and the tree of a text without faults.
use Rattle.std.proofs.Common.{ℕ, ◌≡◌, List, [], Some, None, arith}
use Rattle.std.specs.{Prelude.{Contains, ◌≢◌}, FinMap.{get}}
use Rattle.fb_types.specs.{Tree.Tree.{DeclTree}, Library.View.{Sources, tree_at, parts_at}, Library.Rests.{PartRests, on_itself, through_part}}
use Rattle.fb_types.specs.Reaches.{Reaches, directly, onward}
use Rattle.fb_faults.specs.Faults.{faults_of, syntax_faults_of}
use Rattle.fb_flatten.proofs.NothingLemmas.{nothing_reported}

-- the unit has a tree
pub record HasTree (sources : Sources) (name : List ℕ) : Type 0 where
  pub tree : DeclTree
  pub present : tree_at sources name ≡ Some tree

-- a text without faults is not broken
pub tree_of_faultless : (sources : Sources) (name : List ℕ) → get sources name ≢ None → faults_of sources name ≡ [] → HasTree sources name
tree_of_faultless sources name here none =
    let syntax : syntax_faults_of sources name ≡ [] = (nothing_reported sources name none).syntax in
    grind arith

pub reaches_part : {sources : Sources} {u v w : List ℕ} → PartRests sources u v → Contains (parts_at sources v) w → Reaches sources u w
reaches_part on_itself m = directly m
reaches_part (through_part k r) m = onward k (reaches_part r m)

-- a unit with a tree is present
pub present_of_tree : (sources : Sources) (name : List ℕ) (tree : DeclTree) → tree_at sources name ≡ Some tree → get sources name ≢ None
present_of_tree sources name tree is none = grind arith
