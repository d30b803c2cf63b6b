-- The commands of one home more.
use Rattle.std.proofs.{Common.{List, [], ◌++◌, sym, ◌∙◌, ap, append-nil}, lemmas.Grind.{flat_map-append}}
use Rattle.std.specs.List.{flat_map}
use Rattle.fb_library.specs.View.{tree_at}
use Rattle.fb_placing.specs.{PlacedCommands.{home_commands}, Resolver.{ResolverView}, Systems.{applications_in}}
use Rattle.fb_placing.specs.declared.plan.write_commands.PlacedCommand.{PlacedCommand}
use Rattle.fb_placing.proofs.StepLemmas.{step_added}
use Rattle.fb_placing.proofs.plan.write_commands.all_home_commands.Goals as goal

pub loop-home-preserved : goal.loop-home-preserved
loop-home-preserved g c =
    let sources = g.V.View.sources c.args.view.now in
    let lines_of = home_commands sources c.args.system.now (applications_in (tree_at sources c.args.system.now)) in
    let x = c.home-item.result in
    let before = c.loop-home.placed.items in
    record {
      resolves = c.push_home_commands.ensures.same ∙ c.loop-home.invariant.resolves;
      placed = step_added (flat_map lines_of) (flat_map-append lines_of) c.args.homes.now c.loop-home.home-index x [] before c.push_home_commands.new.placed.items c.loop-home-test.true c.home-item.is c.loop-home.invariant.placed
          (c.in_ok-push_home_commands.ensures.placed
          ∙ ap (λ (r : ResolverView). before ++ home_commands r.sources r.system (applications_in (tree_at r.sources r.system)) x) c.loop-home.invariant.resolves
          ∙ ap (λ (l : List PlacedCommand). before ++ l) (sym (append-nil (lines_of x))));
    }
