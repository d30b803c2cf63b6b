-- What a workbench answers to the bytes of a script: a function of the two.
use Rattle.std.specs.Prelude.{◌≡◌, ℕ, [], ◌∷◌, ◌++◌, false, if◌then◌else◌, List, length, nat_lt, None}
use Rattle.serde_json.specs.Data.{Data}
use Rattle.fb_bench.specs.{History.Checkpoints.{checking, bench_checked}, History.Limits.{Bounds}, History.Machine.{Call, reply}}
use Rattle.fb_bench.specs.{History.BenchView.{BenchView, recorded, state_of}, Calls.{Answer, Checked, CheckpointAnswer, FullHistory, Replied}}
use Rattle.fb_wire.specs.{Lines.{is_blank, lines_of}, Conversations.{Jobs, Plan, asks, checks, plan_of, reads, says}, declared.end.RunEnd.{RunEnd}}
use Rattle.fb_wire.specs.declared.end.RunEnd.TheVariants.{End}
use Rattle.fb_messages.specs.{Replies.{reply_line}, Requests.{request_of}}

-- the answer to a call: the machine's, if the history has room
abbrev pub answer_from : BenchView → Call → Answer
answer_from bench call = if nat_lt (length bench.log.records) bench.log.limit then Replied (reply (state_of bench) call) else FullHistory

-- the workbench after the call: it is recorded, or nothing has changed
abbrev pub bench_after : ℕ → BenchView → Call → BenchView
bench_after caller bench call = if nat_lt (length bench.log.records) bench.log.limit then recorded bench caller call else bench

-- the answer to a checkpoint: its result
abbrev pub checkpoint_from : BenchView → Bounds → CheckpointAnswer
checkpoint_from bench limits = Checked (checking limits bench)

-- the workbench after a checkpoint: the history begins again, or nothing has changed
abbrev pub bench_anew : BenchView → Bounds → BenchView
bench_anew bench limits = bench_checked (checking limits bench) limits bench

-- the result of a line: its reply, the jobs that are held and the workbench
pub record LineResult : Type 0 where
  pub reply : Data
  pub held : Jobs
  pub bench : BenchView

-- the calls and checkpoints of a plan, each answered by the workbench
unfoldable pub line_result : ℕ → Plan → BenchView → LineResult
line_result caller (says reply held) bench = record { reply = reply; held = held; bench = bench }
line_result caller (asks call next) bench = line_result caller (next (answer_from bench call)) (bench_after caller bench call)
line_result caller (checks limits next) bench = line_result caller (next (checkpoint_from bench limits)) (bench_anew bench limits)
-- no line of a script is a read
line_result caller (reads reading next) bench = line_result caller (next None) bench

-- what is written, and the workbench then
pub record Script : Type 0 where
  pub out : List ℕ
  pub bench : BenchView

-- a reply, and the replies to the lines after its line
abbrev pub reply_before : LineResult → (Jobs → BenchView → Script) → Script
reply_before line more = let rest = more line.held line.bench in record { out = reply_line line.reply ++ rest.out; bench = rest.bench }

-- a reply to each line that is not blank, in order
abbrev pub script_from : ℕ → List (List ℕ) → Jobs → BenchView → Script
script_from caller [] held bench = record { out = []; bench = bench }
script_from caller (line ∷ lines) held bench =
    if is_blank line then script_from caller lines held bench
    else reply_before (line_result caller (plan_of held (request_of false line)) bench) (script_from caller lines)

-- all replies to the bytes, and the workbench then
unfoldable pub script : ℕ → BenchView → List ℕ → Script
script caller bench bytes = script_from caller (lines_of bytes) [] bench

abbrev pub IsPrefixOf : List ℕ → List ℕ → Type 0
IsPrefixOf prefix all = (rest : List ℕ) × (all ≡ prefix ++ rest)

-- A prefix of what the script gives was written; at the end of the input all of it, and the workbench is as after it.
abbrev pub SaysBy : RunEnd → ℕ → BenchView → List ℕ → List ℕ → BenchView → Type 0
SaysBy stop caller bench bytes out new =
    IsPrefixOf out (script caller bench bytes).out
    × (stop ≡ End → (out ≡ (script caller bench bytes).out) × (new ≡ (script caller bench bytes).bench))
