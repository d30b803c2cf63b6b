use Rattle.std.proofs.{Common.{◌≡◌, ◌≤◌, ◌∙◌, ℕ, take, refl, sym, subst, arith}, lemmas.Option.{slice_get_read}}
use Rattle.fb_locked.specs.Closing.{IsReceiptRight, times}
use Rattle.fb_locked.proofs.Closings.{right_more, none_times, some_times}
use Rattle.fb_locked.proofs.receipts.check_by_pairs.Goals as goal

pub returns-then-is_among : goal.returns-then-is_among
returns-then-is_among c =
    let i = c.loop-place.place in
    let rs = c.args.receipts.now in
    let r = c.index-receipts-place.result in
    let right : IsReceiptRight c.args.bench.now r = c.is_record.ensures.0 c.if-not-is_record.false in
    let some : 1 ≤ times c.number-number.result (take i rs) = some_times c.number-number.result (take i rs) (sym c.is_among.ensures ∙ c.if-is_among.true) in (
      i,
      (
        c.loop-place.invariant,
        (r, slice_get_read rs _ i r refl c.loop-place-test.true c.index-receipts-place.is, sym c.number-number.ensures, right),
        omega (arith, some, c.loop-place.invariant.once c.number-number.result),
      ),
    )

pub loop-place-preserved : goal.loop-place-preserved
loop-place-preserved c =
    let i = c.loop-place.place in
    let rs = c.args.receipts.now in
    let r = c.index-receipts-place.result in
    let right : IsReceiptRight c.args.bench.now r = c.is_record.ensures.0 c.if-not-is_record.false in
    let none : times c.number-number.result (take i rs) ≡ 0 = none_times c.number-number.result (take i rs) (sym c.is_among.ensures ∙ c.if-is_among.false) in
    let new : times r.number (take i rs) ≡ 0 = subst (λ (n : ℕ). times n (take i rs) ≡ 0) c.number-number.ensures none in
    right_more c.args.bench.now rs i r c.loop-place-test.true c.index-receipts-place.is c.loop-place.invariant right new
