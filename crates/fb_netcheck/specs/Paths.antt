-- Paths that occur twice.
use Rattle.std.specs.{Prelude.{ℕ, ◌-◌, Bool, List, length, slice_get, map}, BTreeMap.{is_at}, Cmp.Lexicographic.{slice_cmp}, List.{list_any}}
use Rattle.std.specs.Option.{option_map_or}
use Rattle.fb_tree.specs.{Text.declared.name.NameUse.{NameUse}, Text.declared.token.Span.{Span}, Text.Order.{name_cmp}}
use Rattle.fb_iface.specs.{Names.{passes_there, passing_there}, declared.code.Code.{Code}, declared.fault.Fault.{Fault}}

-- names with points between
abbrev pub Path : Type 0
Path = List (List ℕ)

-- a path with its place
pub record PathUse : Type 0 where
  pub names : Path
  pub span : Span

-- the path of these names, from the first through the last
abbrev pub path_of_names : List NameUse → PathUse
path_of_names names = record {
  names = map (λ n. n.name) names;
  span = record {
    start = option_map_or (λ n. n.span.start) (slice_get names 0) 0;
    end = option_map_or (λ n. n.span.end) (slice_get names (length names - 1)) 0;
  };
}

-- whether two paths are the same, name by name
abbrev pub same_path : Path → Path → Bool
same_path a b = is_at (slice_cmp name_cmp a) b

-- whether one of these is the path
abbrev pub has_path : List PathUse → Path → Bool
has_path paths path = list_any (λ p. same_path p.names path) paths

-- whether a path also occurs before its place
abbrev pub is_repeated : List PathUse → ℕ × PathUse → Bool
is_repeated paths = passes_there (λ before p. has_path before p.names) paths

-- second and later uses of a path
abbrev pub repeated : List PathUse → List PathUse
repeated paths = passing_there (λ before p. has_path before p.names) paths

-- a fault at a path
abbrev pub fault_at_path : Code → PathUse → Fault
fault_at_path code path = record { code = code; span = path.span }

-- a fault at each path that also occurs before its place
abbrev pub repeated_faults : Code → List PathUse → List Fault
repeated_faults code paths = map (fault_at_path code) (repeated paths)
