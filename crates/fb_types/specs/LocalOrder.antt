-- What recursion depends on, and what an order rules out.
use Rattle.std.specs.Prelude.{ℕ, List, Contains, ◌↔◌}
use Rattle.fb_iface.specs.{Library.View.{Sources}, Library.Rests.{Rests}, Library.Local.{AgreeFar}}
use Rattle.fb_types.specs.{Reaches.{IsRecursive}, Order.{IsOrdered}}

-- which of the names that a unit rests on reach themselves depends only on the texts that it rests on
abbrev pub RecursionIsLocal : Type 0
RecursionIsLocal = (a b : Sources) (unit : List ℕ) → AgreeFar unit a b → (name : List ℕ) → (Rests a unit name × IsRecursive a name) ↔ (Rests b unit name × IsRecursive b name)

-- no name of an ordered list reaches itself
abbrev pub OrderedIsNotRecursive : Type 0
OrderedIsNotRecursive = (sources : Sources) (order : List (List ℕ)) → IsOrdered sources order → (name : List ℕ) → Contains order name → ¬ IsRecursive sources name
