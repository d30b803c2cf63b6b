use Rattle.std.proofs.Common.{◌≡◌, map}
use Rattle.fb_parse.specs.Contents.{contents_tree, joined}
use Rattle.fb_parse.proofs.contents.joined.Given as goal

abbrev pub invariant-loop-section : goal.invariant-loop-section
invariant-loop-section l = contents_tree l.contents ≡ joined (map contents_tree l.yielded)
