-- The entry that is gone is counted no more.
use Rattle.std.proofs.Common.{Some, arith}
use Rattle.fb_entries.proofs.Counts.{unkept-remove}
use Rattle.fb_entries.proofs.entry_map.EntryMap.remove.Goals as goal

pub overflow_sub-self : goal.overflow_sub-self
overflow_sub-self c =
    omega (arith, c.self.invariant, c.one_if_pending.ensures, unkept-remove c.args.key.now c.self.inside.entries.entries c.remove.new.self.entries (Some c.in-Some.entry) c.in-Some.ensures.value c.in-Some.ensures.entries)

pub invariant_of-self : goal.invariant_of-self
invariant_of-self c =
    omega (arith, c.self.invariant, c.one_if_pending.ensures, unkept-remove c.args.key.now c.self.inside.entries.entries c.remove.new.self.entries (Some c.in-Some.entry) c.in-Some.ensures.value c.in-Some.ensures.entries)
