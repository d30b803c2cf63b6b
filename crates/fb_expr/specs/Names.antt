-- What the names of expressions mean: names of the unit and of its plugs and sockets, and fields of structures.
use Rattle.std.specs.Prelude.{ℕ, List}
use Rattle.fb_tree.specs.Tree.{TypeTree}
use Rattle.fb_iface.specs.{Library.View.{Sources}, Fields.{Fields, fields_near}, ScopeTypes.{scope_in}, CachedFields.{structures_in}, Scope.{Scope, scope_of_type}}
use Rattle.fb_expr.specs.declared.names.Names as kept

pub record Names : Type 0 where
  pub scope : Scope
  -- what may be named after a plain type of this name
  pub fields : List ℕ → Fields

-- what names mean in the expressions of a block type
abbrev pub names_of_type : Sources → List ℕ → TypeTree → Names
names_of_type sources unit d = record { scope = scope_of_type sources d; fields = fields_near sources unit }

-- what names mean by the tables that are kept
abbrev pub names_in : kept.Names → Names
names_in names = record { scope = scope_in names.scope.now; fields = structures_in names.structures.now }
