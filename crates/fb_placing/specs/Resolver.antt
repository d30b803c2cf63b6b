-- What a resolver of paths has looked into.
use Rattle.std.specs.{Prelude.{ℕ, ◌≡◌, List, Option, option_map, refl}, Coded.{Coded, code_by, coded×, coded_list, coded_ℕ}}
use Rattle.std.specs.FinMap as map
use Rattle.fb_library.specs.View.{Sources, tree_at}
use Rattle.fb_placing.specs.{Resolved.{PlainResolved, path_names, plain_resolved, resolved_at}, Systems.{applications_in}}
use Rattle.fb_placing.specs.{Tables.{AreApplications, AreUnits, Instances}, declared.paths.resolver.Resolved.{Resolved}}

-- a system, and the texts that it is read from
pub record ResolverView : Type 0 where
  pub sources : Sources
  pub system : List ℕ

abbrev pub resolver_of : Sources → List ℕ → ResolverView
resolver_of sources system = record { sources = sources; system = system }

abbrev pub resolver_code : Coded ResolverView
resolver_code =
    code_by (Sources × List ℕ) (coded× (map.code (coded_list coded_ℕ) (coded_list coded_ℕ)) (coded_list coded_ℕ))
    (λ r. (r.sources, r.system)) (λ p. record { sources = p.0; system = p.1 }) (λ _. refl)

-- the instance that names lead to
abbrev pub resolved : ResolverView → List (List ℕ) → Option PlainResolved
resolved r names = resolved_at r.sources r.system (applications_in (tree_at r.sources r.system)) names

-- the tables have the instances of the applications and of units, and what was looked up last is what its path leads to
pub record IsResolver (r : ResolverView) (by_application by_unit : List ℕ → Option Instances) (path : List ℕ) (found : Option Resolved) : Type 0 where
  pub applications : AreApplications (applications_in (tree_at r.sources r.system)) by_application
  pub units : AreUnits r.sources by_unit
  pub last : option_map plain_resolved found ≡ resolved r (path_names path)
