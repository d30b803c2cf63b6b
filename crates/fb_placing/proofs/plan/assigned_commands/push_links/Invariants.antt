-- The links passed so far are cut, or have their commands.
use Rattle.std.proofs.Common.{ℕ, ◌≡◌, ◌++◌, List, map, take}
use Rattle.fb_placing.specs.{HomeTable.{home_by_path}, Cuts.{cuts_of}, CommandIndexes.{plain_command}, SystemCommands.{connection_commands}}
use Rattle.fb_network.specs.Numbered.{link_numbered}
use Rattle.fb_placing.proofs.plan.assigned_commands.push_links.Given as goal

abbrev pub invariant-loop-link : goal.invariant-loop-link
invariant-loop-link l = record {
  homes : l.ends.homes.now ≡ l.homes;
  cuts : map (link_numbered l.flat) l.cuts.items
      ≡ map (link_numbered l.flat) l.fn.cuts.items ++ cuts_of (home_by_path l.homes.by_path) (take l.link l.flat.links);
  commands :
      (writes : List (List ℕ))
      → map (plain_command l.flat writes) l.commands.items
      ≡ map (plain_command l.flat writes) l.fn.commands.items ++ connection_commands (home_by_path l.homes.by_path) (take l.link l.flat.links);
}
