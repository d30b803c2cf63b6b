-- The entry that is written through is the one at the key, and it has no value then.
use Rattle.std.proofs.Common.{◌≡◌, true, false, sym, arith, rules}
use Rattle.fb_entries.specs.{declared.entry.Entry.{Entry}, Marking.{waiting}}
use Rattle.fb_entries.proofs.{Counts.{unkept-set}, Writes.{written, unwritten}}
use Rattle.fb_entries.proofs.entry_map.EntryMap.renew.Goals as goal

pub invariant_of-self-2 : goal.invariant_of-self-2
invariant_of-self-2 c =
    let old = c.in-Some.entry.now in
    let w : Entry = record old { is_pending = true; out = false; found = c.take.new.self } in
    omega (arith, c.self.invariant, c.one_if_pending-was.ensures, unkept-set c.args.key.now c.self.inside.entries.entries (c.get_mut.follows.lender w).entries old w c.in-Some.ensures.value (c.get_mut.follows.holds w).0)

pub returns : goal.returns
returns c =
    let old = c.in-Some.entry.now in
    let w : Entry = record old { is_pending = true; out = false; found = c.take.new.self } in
    let is : waiting old ≡ w = λ i. record old { is_pending = true; out = false; found = sym c.take.ensures.after i } in
    written c.self.inside.entries (c.get_mut.follows.lender w) c.args.self.now c.args.key.now waiting c.self.view_is old w c.in-Some.ensures.value is (c.get_mut.follows.holds w)

pub returns-in_default : goal.returns-in_default
returns-in_default c =
    unwritten c.self.inside.entries c.get_mut.follows.lender-at-none c.args.self.now c.args.key.now waiting c.self.view_is (search rules) c.get_mut.follows.holds-at-none
