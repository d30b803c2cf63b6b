-- The commands of the homes passed so far.
use Rattle.std.proofs.Common.{◌≡◌, take}
use Rattle.std.specs.List.{flat_map}
use Rattle.fb_library.specs.View.{tree_at}
use Rattle.fb_placing.specs.{PlacedCommands.{home_commands}, Resolver.{resolver_of}, Systems.{applications_in}}
use Rattle.fb_placing.proofs.plan.write_commands.all_home_commands.Given as goal

abbrev pub invariant-loop-home : goal.invariant-loop-home
invariant-loop-home g l = record {
  resolves : l.resolver ≡ resolver_of (g.V.View.sources l.view) l.system;
  placed : l.placed.items
      ≡ flat_map (home_commands (g.V.View.sources l.view) l.system (applications_in (tree_at (g.V.View.sources l.view) l.system))) (take l.home-index l.homes);
}
