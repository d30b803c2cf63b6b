-- The new entry is counted, and the one in whose place it is no more.
use Rattle.std.proofs.Common.{Some, None, arith, sym, ◌∙◌}
use Rattle.fb_entries.proofs.Counts.{unkept-insert}
use Rattle.fb_entries.proofs.entry_map.EntryMap.insert.Goals as goal

pub overflow_sub-self : goal.overflow_sub-self
overflow_sub-self c =
    omega (arith, c.self.invariant, c.one_if_pending-now.ensures, c.one_if_pending.ensures, unkept-insert c.args.key c.self.inside.entries.entries c.insert.new.self.entries (Some c.in-Some.was) c.args.entry c.in-Ok.ensures.was_ordered (sym c.in-Some.is ∙ c.in-Ok.ensures.old) c.in-Ok.ensures.entries)

pub invariant_of-self-in-Some : goal.invariant_of-self-in-Some
invariant_of-self-in-Some c =
    omega (arith, c.self.invariant, c.one_if_pending-now.ensures, c.one_if_pending.ensures, unkept-insert c.args.key c.self.inside.entries.entries c.insert.new.self.entries (Some c.in-Some.was) c.args.entry c.in-Ok.ensures.was_ordered (sym c.in-Some.is ∙ c.in-Ok.ensures.old) c.in-Ok.ensures.entries)

pub invariant_of-self-in_default-old : goal.invariant_of-self-in_default-old
invariant_of-self-in_default-old c =
    omega (arith, c.self.invariant, c.one_if_pending-now.ensures, unkept-insert c.args.key c.self.inside.entries.entries c.insert.new.self.entries None c.args.entry c.in-Ok.ensures.was_ordered (sym c.in_default-old.is ∙ c.in-Ok.ensures.old) c.in-Ok.ensures.entries)
