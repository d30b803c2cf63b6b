-- The types that a scope keeps.
use Rattle.std.specs.{Prelude.{ℕ, List, Option, Some, None, cond, nat_eq, option_map}, Option.{option_or}, Cmp.Lexicographic.{pointwise}, HashMap.{get}}
use Rattle.fb_tree.specs.{Tree.{DeclTree}, Mentions.{unit_kind_of}, declared.network.Role.{Role}}
use Rattle.fb_iface.specs.{Ports.{Meanings, meanings_in}, Scope.{Scope, ports_where}, declared.scope.TypePorts.{TypePorts}}
use Rattle.fb_iface.specs.declared.scope.Scope as kept

-- what is kept of a type
abbrev pub kept_of : DeclTree → TypePorts
kept_of decl = record { kind = unit_kind_of decl; ports = meanings_in decl }

-- the ports of a type that is kept, if it has the kind that the role requires
abbrev pub kept_ports : Role → Option TypePorts → Option Meanings
kept_ports role None = None
kept_ports role (Some kept) = ports_where role kept.kind kept.ports

-- what names mean by what is kept
abbrev pub scope_in : kept.Scope → Scope
scope_in s = record { own = s.own; type_ports = λ role name. kept_ports role (get (pointwise nat_eq) s.types name) }

-- a table with one more type, if it isn't there yet
abbrev pub with_type : List ℕ → Option DeclTree → (List ℕ → Option TypePorts) → List ℕ → Option TypePorts
with_type name decl kept q = cond (pointwise nat_eq name q) (option_or (kept q) (option_map kept_of decl)) (kept q)
