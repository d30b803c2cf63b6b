-- The commands that set parameters depend on the texts alone that declare what is placed.
use Rattle.std.proofs.Common.{ℕ, ◌≡◌, ◌++◌, List, [], ◌∷◌, Option, Some, None, refl, ◌∙◌, ap, map}
use Rattle.std.specs.{Prelude.{unwrap_or}, FinMap.{get}, List.{flat_map}}
use Rattle.fb_tree.specs.Text.Order.{in_order}
use Rattle.fb_library.specs.View.{Sources, text_or_empty, tree_at}
use Rattle.fb_placing.specs.{Resolved.{PlainResolved, path_names, resolved_at}, Systems.{applications_in}, declared.homes.Home.{Home}}
use Rattle.fb_placing.specs.PlacedCommands.{home_commands, command_cmp, commands_at, write_command, write_commands}
use Rattle.fb_placing.proofs.ResolvedLocal.{SameInstances, at_same, declared_alike}

flat_map_same : {X Y : Type 0} (f g : X → List Y) (xs : List X) → ((x : X) → f x ≡ g x) → flat_map f xs ≡ flat_map g xs
flat_map_same f g [] same = refl
flat_map_same f g (x ∷ xs) same = λ k. same x k ++ flat_map_same f g xs same k

module _ (a b : Sources) (system : List ℕ) (same : SameInstances a b system) where
  text_same : (v : List ℕ) → get a v ≡ get b v → text_or_empty a v ≡ text_or_empty b v
  text_same v e = ap (λ (t : Option (List ℕ)). unwrap_or t []) e

  lines_same : (home : Home) (o : Option PlainResolved) → ((s : PlainResolved) → o ≡ Some s → get a s.unit ≡ get b s.unit) → commands_at a home o ≡ commands_at b home o
  lines_same home None r = refl
  lines_same home (Some s) r = ap (λ (text : List ℕ). map (write_command text home) s.instance.parameters) (text_same s.unit (r s refl))

  home_lines_same : (home : Home) → home_commands a system (applications_in (tree_at a system)) home ≡ home_commands b system (applications_in (tree_at a system)) home
  home_lines_same home =
      lines_same home (resolved_at a system (applications_in (tree_at a system)) (path_names home.path)) (declared_alike a b system same (path_names home.path))
      ∙ ap (commands_at b home) (at_same a b system same (path_names home.path))

  pub write_commands_same : (homes : List Home) → write_commands a system (applications_in (tree_at a system)) homes ≡ write_commands b system (applications_in (tree_at a system)) homes
  write_commands_same homes =
      ap (in_order command_cmp) (flat_map_same (home_commands a system (applications_in (tree_at a system))) (home_commands b system (applications_in (tree_at a system))) homes home_lines_same)
