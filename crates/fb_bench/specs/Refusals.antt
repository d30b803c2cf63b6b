-- Why a workbench does not record a call.
use Rattle.std.specs.Prelude.{◌≡◌, ◌↔◌, Bool, Option, Result, Ok, Err}
use Rattle.std.specs.Bool.{then_some}
use Rattle.fb_history.specs.{BenchView.{Log, IsFull}, declared.answers.Delivered.{Delivered}, declared.answers.Delivered.TheVariants.{Accepted}, declared.answers.Refused.{Refused}}
use Rattle.fb_bench.specs.declared.desk.DeskError.{DeskError}
use Rattle.fb_bench.specs.declared.desk.DeskError.TheVariants as desk
use Rattle.fb_history.specs.declared.answers.Refused.TheVariants as bench

-- the refusal is `HistoryFull` if and only if the history has the number of calls that it may have
abbrev pub IsFullRefusal : {R : Type 0} → Log → Result R Refused → Type 0
IsFullRefusal log result = (result ≡ Err bench.HistoryFull) ↔ IsFull log

-- the refusal, as a desk says it
abbrev pub refused_as : Refused → DeskError
refused_as bench.HistoryFull = desk.HistoryFull
refused_as bench.Memory = desk.Memory

-- a round of the workbench, as a desk says it: what was delivered is accepted
abbrev pub round_as : Result Bool Refused → Result (Option Delivered) DeskError
round_as (Ok worked) = Ok (then_some worked Accepted)
round_as (Err refused) = Err (refused_as refused)
