use Rattle.std.proofs.Common.{◌≡◌, ◌+◌, ◌∙◌, ◌∷◌, [], ◌++◌, Some, ap, arith, sym}
use Rattle.std.specs.{declared.sync.Arc.{Arc}, declared.alloc.Global.{Global}}
use Rattle.fb_history.specs.{BenchView.{Record, record_numbered}, Records.{records_in}}
use Rattle.fb_history.proofs.Numbers.{shares_pushed}
use Rattle.fb_bench.proofs.Telling.{records_more, records_up_to}
use Rattle.fb_bench.proofs.bench.Bench.records_up_to.Goals as goal

pub loop-number-preserved : goal.loop-number-preserved
loop-number-preserved c =
    let bench = c.args.self.now in
    let number = c.loop-number.number in
    let it = c.in-Some.record.now.value in
    let there : Some it ≡ record_numbered bench (number + 1) = rw c.in-Some.is at c.shared_record.ensures in
    let more = records_more bench c.args.first number it c.requires.begins (omega arith) (omega (arith, c.requires.within, c.loop-number-test.true)) (sym there) in
    let copy : c.in_ok-clone.field-0.value ≡ it = grind (arith, c.in_ok-clone.ensures.cases) in
    shares_pushed c.loop-number.records.items c.push.new.self.items c.in_ok-clone.field-0 c.in_ok-push.ensures.items
    ∙ ap (λ rs. rs ++ c.in_ok-clone.field-0.value ∷ []) c.loop-number.invariant
    ∙ ap (λ x. records_up_to bench c.args.first number ++ x ∷ []) copy
    ∙ sym more

pub returns : goal.returns
returns c =
    let last : c.loop-number.number ≡ c.args.at = omega arith in
    c.loop-number.invariant ∙ ap (records_up_to c.args.self.now c.args.first) last
