-- The two halves together are the shelf that they were.
use Rattle.std.proofs.Common.{◌≡◌, ◌+◌, ◌-◌, ◌<◌, ◌++◌, suc, [], length, take, drop, get_or, refl, ap, ◌∙◌, arith, slice_get, Some}
use Rattle.std.proofs.lemmas.List.{length-append}
use Rattle.fb_library.specs.{Entries.{shelf_of}, Shelves.{names_of}}
use Rattle.fb_library.proofs.{Halves.{joined_lower, joined_upper, joined_last, last_counts}, ShelfRows.{split_wider}}
use Rattle.fb_library.proofs.shelves.halve.Goals as goal

pub returns : goal.returns
returns g c =
    let entries = g.E.Entries.entries in
    let low = entries c.in_ok-low.low in
    let high = entries c.in_ok-low.high in
    let old = c.index.result.now in
    let all = entries old.entries.value in
    let k = length low - 1 in
    let joined : low ++ high ≡ all = c.in_ok-low.ensures ∙ ap entries c.deref.ensures in
    let next : c.args.at + 1 ≡ suc c.args.at = omega arith in
    let place : c.saturating_sub.result ≡ k = omega (arith, c.saturating_sub.ensures, c.len-2.ensures) in
    let named : Some c.in-Some.last ≡ slice_get (names_of low) k = c.in-Some.ensures ∙ ap (slice_get (names_of low)) place in
    let count : suc k ≡ length low = last_counts low c.in-Some.last named in
    let some : suc k < length all = omega (arith, count, ap length joined, length-append low high, c.if-len-eq0.false, c.len.ensures) in
    let ends : c.in-Some.last ≡ get_or (names_of all) k [] = joined_last low high k c.in-Some.last named ∙ (λ i. get_or (names_of (joined i)) k []) in
    let lower : entries c.in_ok-low-2.low.value ≡ take (suc k) all = ap entries c.in_ok-low-2.ensures.ok ∙ joined_lower low high k count ∙ (λ i. take (suc k) (joined i)) in
    let upper : entries c.in_ok-high.high.value ≡ drop (suc k) all = ap entries c.in_ok-high.ensures.ok ∙ joined_upper low high k count ∙ (λ i. drop (suc k) (joined i)) in
    let wider = split_wider (shelf_of entries) c.args.shelves.now.items c.insert.new.self.items c.args.at (c.args.at + 1) k old (record { last = c.in-Some.last; entries = c.in_ok-low-2.low }) c.index_mut.result.now (record { last = c.index_mut.result.now.last; entries = c.in_ok-high.high })
    c.requires.at next some c.index.ensures c.in_ok-insert.ensures.items c.index_mut.ensures.value refl ends lower upper c.requires.order in
    record { order = wider.order; same = wider.same; room = wider.room }
