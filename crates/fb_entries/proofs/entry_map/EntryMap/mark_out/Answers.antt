-- The entry that is written through is the one at the key, and it has a value or not as before.
use Rattle.std.proofs.Common.{refl, arith, rules}
use Rattle.fb_entries.specs.{declared.entry.Entry.{Entry}, Marking.{with_out}}
use Rattle.fb_entries.proofs.{Counts.{unkept-set}, Writes.{written, unwritten}}
use Rattle.fb_entries.proofs.entry_map.EntryMap.mark_out.Goals as goal

pub invariant_of-self-2 : goal.invariant_of-self-2
invariant_of-self-2 c =
    let old = c.in-Some.entry.now in
    let w : Entry = record old { out = c.args.out } in
    omega (arith, c.self.invariant, unkept-set c.args.key.now c.self.inside.entries.entries (c.get_mut.follows.lender w).entries old w c.in-Some.ensures.value (c.get_mut.follows.holds w).0)

pub returns : goal.returns
returns c =
    let old = c.in-Some.entry.now in
    let w : Entry = record old { out = c.args.out } in
    written c.self.inside.entries (c.get_mut.follows.lender w) c.args.self.now c.args.key.now (with_out c.args.out) c.self.view_is old w c.in-Some.ensures.value refl (c.get_mut.follows.holds w)

pub returns-in_default : goal.returns-in_default
returns-in_default c =
    unwritten c.self.inside.entries c.get_mut.follows.lender-at-none c.args.self.now c.args.key.now (with_out c.args.out) c.self.view_is (search rules) c.get_mut.follows.holds-at-none
