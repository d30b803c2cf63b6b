-- The place of a network.
use Rattle.std.specs.Prelude.{ℕ, List}
use Rattle.fb_tree.specs.declared.kinds.UnitKind.{UnitKind}
use Rattle.fb_iface.specs.{ScopeTypes.{scope_in}, Scope.{Scope}}
use Rattle.fb_netcheck.specs.declared.setting.Setting.{Setting}

-- the unit, what it is, and what names mean in the network
pub record NetworkPlace : Type 0 where
  pub unit : List ℕ
  pub kind : UnitKind
  pub scope : Scope

abbrev pub place_in : Setting → NetworkPlace
place_in here = record { unit = here.unit; kind = here.kind; scope = scope_in here.scope }
