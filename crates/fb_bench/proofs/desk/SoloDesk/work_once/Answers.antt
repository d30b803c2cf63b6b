-- A round of the workbench that is lent is one of its desk.
use Rattle.std.proofs.Common.{None, Option, Some, Result, Ok, Err, refl, ap}
use Rattle.std.proofs.lemmas.Result.{err_from_is_err_and}
use Rattle.std.specs.Bool.{then_some}
use mathlib.Core.Logic.{inl, inr}
use Rattle.fb_history.specs.{BenchView.{BenchView}, declared.answers.Delivered.{Delivered}, declared.answers.Delivered.TheVariants.{Accepted}}
use Rattle.fb_bench.specs.{Calls.{ServesRound}, Refusals.{refused_as}, Solo.{IsCallStep, SoloCall}, declared.desk.Solo.{Solo}}
use Rattle.fb_bench.specs.{declared.desk.DeskError.{DeskError}, declared.desk.DeskError.TheVariants.{HistoryFull, Behind, Memory}}
use Rattle.fb_bench.proofs.desk.SoloDesk.work_once.Goals as goal

abbrev lent : Solo → BenchView → Solo
lent desk bench = record desk { bench = record desk.bench { now = bench } }

round_lent : (desk : Solo) (new : BenchView) (result : Result (Option Delivered) DeskError)
    → ServesRound (IsCallStep desk.caller) desk.bench.now result new → ServesRound SoloCall desk result (lent desk new)
round_lent desk new (Ok None) step = (step, refl, refl)
round_lent desk new (Ok (Some answer)) made = (lent desk made.0, made.1, (made.2, refl, refl), (made.3, refl, refl))
round_lent desk new (Err HistoryFull) (inl step) = inl (step, refl, refl)
round_lent desk new (Err HistoryFull) (inr made) = inr (lent desk made.0, made.1, (made.2, refl, refl), (made.3, refl, refl))
round_lent desk new (Err Behind) (inl step) = absurd step
round_lent desk new (Err Behind) (inr made) = absurd made.3
round_lent desk new (Err Memory) (inl same) = inl (ap (lent desk) same)
round_lent desk new (Err Memory) (inr made) = inr (lent desk made.0, made.1, (made.2, refl, refl), ap (lent desk) made.3)

pub returns-in_err-has_worked-clause-round : goal.returns-in_err-has_worked-clause-round
returns-in_err-has_worked-clause-round c =
    let refused = err_from_is_err_and c.from_residual.result c.from_residual.ensures.1 in
    rw (refused.1, refused.2) (round_lent c.args.self.now c.work_once.new.self (Err (refused_as c.in_err-has_worked.field-0.0)) c.in_err-has_worked.ensures.round)

pub returns-clause-round : goal.returns-clause-round
returns-clause-round c = rw c.then_some.ensures (round_lent c.args.self.now c.work_once.new.self (Ok (then_some c.in_ok-has_worked.has_worked Accepted)) c.in_ok-has_worked.ensures.round)
