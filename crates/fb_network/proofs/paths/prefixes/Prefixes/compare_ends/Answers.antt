-- Both paths have the same start, or are empty.
use Rattle.std.proofs.Common.{rules, ◌≡◌, Some, None, string_bytes, refl}
use Rattle.std.proofs.lemmas.Option.{slice_get-map, slice_get_past, slice_get_read}
use Rattle.std.specs.Prelude.{slice_get}
use Rattle.fb_network.specs.{Starts.{prefix_in}}
use Rattle.fb_network.proofs.Tellings.{by_ends}
use Rattle.fb_network.proofs.paths.prefixes.Prefixes.compare_ends.Goals as goal

pub returns-in-Some : goal.returns-in-Some
returns-in-Some c =
    let rows = c.deref.result.now in
    let there : slice_get rows c.args.prefix ≡ Some c.in-Some.prefix.now = slice_get_read rows _ c.args.prefix c.in-Some.prefix.now refl (search rules) (search rules) in
    rw (← c.self.view_is, ← c.deref.ensures.value, slice_get-map (prefix_in (string_bytes c.self.inside.starts)) rows c.args.prefix, there) (search (rules, by_ends))

pub returns-in-None : goal.returns-in-None
returns-in-None c =
    let rows = c.deref.result.now in
    let there : slice_get rows c.args.prefix ≡ None = slice_get_past rows c.args.prefix (search rules) in
    rw (← c.self.view_is, ← c.deref.ensures.value, slice_get-map (prefix_in (string_bytes c.self.inside.starts)) rows c.args.prefix, there) refl
