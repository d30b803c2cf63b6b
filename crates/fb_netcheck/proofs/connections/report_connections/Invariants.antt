use Rattle.std.proofs.Common.{◌≡◌, ◌++◌, take}
use Rattle.std.specs.{BTreeMap.{get}, List.{flat_map}}
use Rattle.fb_netcheck.specs.{Connections.{connection_faults}, Known.{AreSpellings, part_cmp}, Settings.{place_in}, Types.{joined_types}}
use Rattle.fb_netcheck.proofs.connections.report_connections.Given as goal

abbrev pub invariant-loop-connection : goal.invariant-loop-connection
invariant-loop-connection g l = record {
  kept : AreSpellings (g.V.View.sources l.view) (get part_cmp l.known);
  reported : l.found.items ≡ l.initial.found.items ++ flat_map (connection_faults (place_in l.here)) (take l.connection-index l.connections);
  typed : l.of_types.items ≡ flat_map (joined_types (g.V.View.sources l.view) (place_in l.here)) (take l.connection-index l.connections);
}
