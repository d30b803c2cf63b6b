-- The entry that is written through is the one at the key, and it has a value then.
use Rattle.std.proofs.Common.{Some, None, false, refl, arith, rules}
use Rattle.fb_entries.specs.{declared.entry.Entry.{Entry}, Marking.{with_value}}
use Rattle.fb_entries.proofs.{Counts.{unkept-set}, Writes.{written, unwritten}}
use Rattle.fb_entries.proofs.entry_map.EntryMap.keep.Goals as goal

pub invariant_of-self-2 : goal.invariant_of-self-2
invariant_of-self-2 c =
    let old = c.in-Some.entry.now in
    let w : Entry = record old { is_pending = false; out = false; found = None; last = Some c.args.derivation } in
    omega (arith, c.self.invariant, c.one_if_pending-was.ensures, unkept-set c.args.key.now c.self.inside.entries.entries (c.get_mut.follows.lender w).entries old w c.in-Some.ensures.value (c.get_mut.follows.holds w).0)

pub returns : goal.returns
returns c =
    let old = c.in-Some.entry.now in
    let w : Entry = record old { is_pending = false; out = false; found = None; last = Some c.args.derivation } in
    written c.self.inside.entries (c.get_mut.follows.lender w) c.args.self.now c.args.key.now (with_value c.args.derivation) c.self.view_is old w c.in-Some.ensures.value refl (c.get_mut.follows.holds w)

pub returns-in_default : goal.returns-in_default
returns-in_default c =
    unwritten c.self.inside.entries c.get_mut.follows.lender-at-none c.args.self.now c.args.key.now (with_value c.args.derivation) c.self.view_is (search rules) c.get_mut.follows.holds-at-none
