use Rattle.std.proofs.Common.{length, map}
use Rattle.fb_grammar.specs.{Reading.{read_each}, Repetition.{with_prefix}}
use Rattle.fb_grammar.proofs.Repeating.{IsSoFar}
use Rattle.fb_grammar.proofs.repetition.append_each.Given as goal

abbrev pub invariant-loop-alloc : goal.invariant-loop-alloc
invariant-loop-alloc g l =
    IsSoFar (g.R.Reader.reads l.reader) l.kinds (map g.R.Reader.view l.items.items) l.tokens
    (with_prefix (map g.R.Reader.view l.fn.items.items) (read_each (g.R.Reader.reads l.reader) l.kinds (length l.fn.tokens) l.fn.tokens))

abbrev pub decreases-loop-alloc : goal.decreases-loop-alloc
decreases-loop-alloc g l = length l.tokens
