-- One link further.
use Rattle.std.proofs.{Common.{◌<◌, [], ◌∷◌, ◌++◌, length, map, ap, ◌∙◌, arith}, lemmas.List.Elements.{filter-append, filter_map-append}}
use Rattle.fb_placing.specs.{HomeTable.{home_by_path}, Cuts.{cuts_of, is_cut}, CommandIndexes.{plain_command}}
use Rattle.fb_placing.specs.{SystemCommands.{connection_command, connection_commands}, declared.homes.table.HomeTable.{HomeTable}}
use Rattle.fb_network.specs.Numbered.{link_numbered}
use Rattle.fb_placing.proofs.{CreateLemmas.{link_there}, StepLemmas.{step_added}}
use Rattle.fb_placing.proofs.plan.assigned_commands.push_links.Goals as goal

pub loop-link-preserved : goal.loop-link-preserved
loop-link-preserved c =
    let flat = c.args.flat.now in
    let homes = home_by_path c.args.homes.now.by_path in
    let n = c.loop-link.link in
    let x = link_numbered flat n in
    let lt : n < length flat.links = omega (arith, c.loop-link-test.true, c.in_ok-count.ensures.same, c.link_count.ensures) in
    let there = link_there flat.links n x lt in
    record {
      homes = c.push_link.ensures.homes ∙ c.loop-link.invariant.homes;
      cuts = step_added (cuts_of homes) (filter-append (is_cut homes)) flat.links n x (map (link_numbered flat) c.args.cuts.now.items) _ _ lt there c.loop-link.invariant.cuts
          (c.in_ok-push_link.ensures.cuts ∙ ap (λ (t : HomeTable). map (link_numbered flat) c.loop-link.cuts.items ++ cuts_of (home_by_path t.by_path) (x ∷ [])) c.loop-link.invariant.homes);
      commands = λ writes. step_added (connection_commands homes) (filter_map-append (connection_command homes)) flat.links n x (map (plain_command flat writes) c.args.commands.now.items) _ _ lt there (c.loop-link.invariant.commands writes)
          (c.in_ok-push_link.ensures.commands writes ∙ ap (λ (t : HomeTable). map (plain_command flat writes) c.loop-link.commands.items ++ connection_commands (home_by_path t.by_path) (x ∷ [])) c.loop-link.invariant.homes);
    }
