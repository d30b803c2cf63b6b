use Rattle.std.proofs.Common.{◌≡◌, map}
use Rattle.fb_parse.specs.SystemContents.{system_contents_tree, system_joined}
use Rattle.fb_parse.proofs.system.joined.Given as goal

abbrev pub invariant-loop-section : goal.invariant-loop-section
invariant-loop-section l = system_contents_tree l.contents ≡ system_joined (map system_contents_tree l.yielded)
