use Rattle.std.proofs.Common.{◌≡◌, ◌≤◌, ◌<◌, ◌-◌, ◌+◌, ℕ, length, take, get_or, false, true, cond, ap, refl, sym, ◌∙◌, arith, length-set, subst}
use Rattle.std.proofs.{lemmas.Grind.{common_steps}, lemmas.Option.{slice_get_read}}
use Rattle.fb_locked.specs.Closing.{IsReceiptRight, times}
use Rattle.fb_locked.proofs.Closings.{placed, right_more, marks_more}
use Rattle.fb_locked.proofs.receipts.check_by_marks.Goals as goal

pub returns-then-index : goal.returns-then-index
returns-then-index c =
    let inv = c.loop-receipt.invariant in
    let r = c.receipt-item.result in
    let i = c.loop-receipt.receipt-index in
    let rs = c.args.receipts.now in
    let marks = c.loop-receipt.marks.items in
    let before : ℕ = c.args.bench.now.origin.before in
    let here : IsReceiptRight c.args.bench.now r = c.is_record.ensures.0 c.if-not-is_record.false in
    let there = placed c.args.bench.now.log.records (r.number - before) r.entry here in
    let within : r.number - before - 1 < length marks = omega (arith, there.1, inv.size) in
    let marked : get_or marks (r.number - before - 1) false ≡ true = grind (arith, common_steps, c.number-number.ensures, c.before-before.ensures) in
    let same : before + (r.number - before - 1) + 1 ≡ r.number = omega (arith, there.0) in
    let once : times r.number (take i rs) ≡ 1 = subst (λ (n : ℕ). times n (take i rs) ≡ 1) same (sym (inv.marks (r.number - before - 1) within) ∙ ap (λ b. cond b 1 0) marked) in
    rw c.number-number.ensures (i, (inv.right, (r, slice_get_read rs _ i r refl c.loop-receipt-test.true c.receipt-item.is, refl, here), once))

pub index_mut-requires : goal.index_mut-requires
index_mut-requires c =
    let r = c.receipt-item.result in
    let before : ℕ = c.args.bench.now.origin.before in
    let there = placed c.args.bench.now.log.records (r.number - before) r.entry (c.is_record.ensures.0 c.if-not-is_record.false) in
    rw (c.number-number.ensures, c.before-before.ensures) (omega (arith, there.1, c.loop-receipt.invariant.size, c.loop-receipt.marks.ok.0))

pub loop-receipt-preserved : goal.loop-receipt-preserved
loop-receipt-preserved c =
    let inv = c.loop-receipt.invariant in
    let r = c.receipt-item.result in
    let i = c.loop-receipt.receipt-index in
    let marks = c.loop-receipt.marks.items in
    let before : ℕ = c.args.bench.now.origin.before in
    let here : IsReceiptRight c.args.bench.now r = c.is_record.ensures.0 c.if-not-is_record.false in
    let there = placed c.args.bench.now.log.records (r.number - before) r.entry here in
    let within : r.number - before - 1 < length marks = omega (arith, there.1, inv.size) in
    let unmarked : get_or marks (r.number - before - 1) false ≡ false = grind (arith, common_steps, c.number-number.ensures, c.before-before.ensures) in
    let same : before + (r.number - before - 1) + 1 ≡ r.number = omega (arith, there.0) in
    let new : times r.number (take i c.args.receipts.now) ≡ 0 = subst (λ (n : ℕ). times n (take i c.args.receipts.now) ≡ 0) same (sym (inv.marks (r.number - before - 1) within) ∙ ap (λ b. cond b 1 0) unmarked) in
    rw (c.number-number.ensures, c.before-before.ensures) record {
      right = right_more _ _ i r c.loop-receipt-test.true c.receipt-item.is inv.right here new;
      size = length-set _ _ _ ∙ inv.size;
      marks = λ n below. marks_more before _ i r marks c.loop-receipt-test.true c.receipt-item.is there.0 within new n (inv.marks n (omega (arith, length-set marks (r.number - before - 1) true)));
    }
