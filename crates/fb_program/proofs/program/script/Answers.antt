use Rattle.std.proofs.Common.{◌≡◌, ◌∙◌, None, arith, refl, sym}
use Rattle.fb_wire.specs.{RunErrors.{error_of}, declared.end.RunEnd.{RunEnd}}
use Rattle.fb_wire.specs.declared.end.RunEnd.TheVariants as end
use Rattle.fb_program.proofs.program.script.Goals as goal

ended : (it : RunEnd) → None ≡ error_of it → it ≡ end.End
ended end.End e = refl
ended end.LineTooLong e = cc
ended end.ReadFailed e = cc
ended end.WriteFailed e = cc
ended end.TurnsOver e = cc
ended end.Memory e = cc

pub returns-in-None-clause-said : goal.returns-in-None-clause-said
returns-in-None-clause-said g c =
    let t = c.run_script-end.ensures.0 in
    let says = rw c.new-bench.ensures at c.run_script-end.ensures.2 in
    (t.bytes, t.out, t.given, t.written, (λ zero. (says.1 (ended _ (sym c.in-None.is ∙ c.error_of.ensures))).0, λ one. absurd (omega (arith, one))))

pub returns-in-None-clause-whole : goal.returns-in-None-clause-whole
returns-in-None-clause-whole g c = λ zero. c.run_script-end.ensures.0.shown.whole (ended _ (sym c.in-None.is ∙ c.error_of.ensures))

pub returns-in-None-clause-flushed : goal.returns-in-None-clause-flushed
returns-in-None-clause-flushed g c = c.run_script-end.ensures.0.shown.flushed

pub returns-in-Some-clause-said : goal.returns-in-Some-clause-said
returns-in-Some-clause-said g c =
    let t = c.run_script-end.ensures.0 in
    let says = rw c.new-bench.ensures at c.run_script-end.ensures.2 in
    (t.bytes, t.out, t.given, t.written, (λ zero. absurd (omega (arith, zero)), λ one. says.0))

pub returns-in-Some-clause-whole : goal.returns-in-Some-clause-whole
returns-in-Some-clause-whole g c = λ zero. absurd (omega (arith, zero))

pub returns-in-Some-clause-flushed : goal.returns-in-Some-clause-flushed
returns-in-Some-clause-flushed g c = c.run_script-end.ensures.0.shown.flushed
