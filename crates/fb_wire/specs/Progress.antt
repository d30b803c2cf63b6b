-- For private clauses: how far a plan has come on a desk.
use Rattle.std.specs.Prelude.{[], ◌∷◌, ◌++◌, ⊤, ◌≡◌, ℕ, ◌+◌, Bool, Err, List, MatchResult, None, Ok, Option, Result, Some, Vec, false, length, option_map}
use Rattle.std.specs.{declared.alloc.AllocError.{AllocError}, declared.alloc.Global.{Global}}
use Rattle.serde_json.specs.Data.{Data}
use Rattle.fb_bench.specs.{History.Checkpoints.{KeptUpTo, OverNumbers, OverUnits}, History.Machine.{Reply as MachineReply}}
use Rattle.fb_bench.specs.Calls.{Answer, BehindHistory, Checked, CheckpointAnswer, Exchange, FullHistory, Replied, SharedHistory}
use Rattle.fb_bench.specs.{History.Reads.{Showing, showing_in}, declared.desk.DeskCheckpointError.{DeskCheckpointError}}
use Rattle.fb_bench.specs.History.declared.reading.Showing as made
use Rattle.fb_bench.specs.{declared.desk.DeskError.{DeskError}, declared.desk.DeskError.TheVariants.{Behind, HistoryFull, Memory}}
use Rattle.fb_bench.specs.declared.desk.DeskCheckpointError.TheVariants as checkpoint
use Rattle.fb_library.specs.{Texts.{Edit}, Changes.{edit_of, edits_of}, declared.change.Change.{Change}}
use Rattle.fb_wire.specs.{declared.change.ChangeError.{ChangeError}, Lines.{Fits, IsTooLong, is_blank, lines_of}, Ends.{IsNothing, IsPrefixOfReply, OutputAt}}
use Rattle.fb_wire.specs.declared.end.RunEnd.{RunEnd}
use Rattle.fb_wire.specs.{Conversations.{AnswersLine, AnswersLines, Jobs, BeginsWith, Plan, Runs, held_after, plan_of, says}, Said.{said_to}}
use Rattle.fb_wire.specs.declared.change.ChangeError.TheVariants as fault
use Rattle.fb_messages.specs.{Requests.{request_of}, ReplyView.{data_of, refusal_text}, declared.reply.Reply.{Reply}}
use Rattle.fb_messages.specs.declared.reply.Refusal.{Refusal}
use Rattle.fb_wire.specs.declared.end.RunEnd.TheVariants as end
use Rattle.fb_messages.specs.declared.reply.Refusal.TheVariants as because

-- some calls and checkpoints of the plan lead the desk from old to new, and this is left of it
abbrev pub ProgressTo : {S : Type 0} → (S → Exchange → S → Type 0) → Plan → S → Plan → S → Type 0
ProgressTo Step plan old rest new = (pairs : List Exchange) × BeginsWith plan pairs rest × Runs Step old pairs new

-- the plan reached its reply, or memory ran out on the way
abbrev pub Progress : {S : Type 0} → (S → Exchange → S → Type 0) → Plan → S → Result Reply AllocError → Jobs → S → Type 0
Progress Step plan old (Ok reply) held new = ProgressTo Step plan old (says (data_of reply) held) new
Progress Step plan old (Err e) held new = (rest : Plan) × ProgressTo Step plan old rest new

-- the answer of a desk that does not record a call, or none for lack of memory
abbrev pub unrecorded : DeskError → Option Answer
unrecorded HistoryFull = Some FullHistory
unrecorded Behind = Some BehindHistory
unrecorded Memory = None

-- the answer that a call's result is
abbrev pub answer_in : {R : Type 0} → (R → MachineReply) → Result R DeskError → Option Answer
answer_in reply_of (Ok r) = Some (Replied (reply_of r))
answer_in reply_of (Err why) = unrecorded why

-- the word that a reply has for it, or none for lack of memory
abbrev pub refusal_for : DeskError → Option Refusal
refusal_for HistoryFull = Some because.HistoryFull
refusal_for Behind = Some because.Behind
refusal_for Memory = None

-- the answer that a checkpoint's result is, or none for lack of memory
abbrev pub checked_in : Result ℕ DeskCheckpointError → Option CheckpointAnswer
checked_in (Ok before) = Some (Checked (KeptUpTo before))
checked_in (Err (checkpoint.UnitsOver units)) = Some (Checked (OverUnits units))
checked_in (Err checkpoint.NumbersOver) = Some (Checked OverNumbers)
checked_in (Err checkpoint.NotAlone) = Some SharedHistory
checked_in (Err checkpoint.Memory) = None

-- what a read's result shows, or none for lack of memory
abbrev pub read_in : Result (Option made.Showing) AllocError → Option (Option Showing)
read_in (Ok shown) = Some (option_map showing_in shown)
read_in (Err e) = None

-- the reply that was made, as JSON
abbrev pub data_in : Result Reply AllocError → Option Data
data_in (Ok reply) = Some (data_of reply)
data_in (Err e) = None

-- the reply to a take, and the jobs that are held after it
abbrev pub KeepsTaken : Jobs → Option Answer → Option Data → Jobs → Type 0
KeepsTaken old answered None new = Unit {0}
KeepsTaken old None (Some reply) new = ⊥
KeepsTaken old (Some answer) (Some reply) new = (reply ≡ said_to (length old + 1) answer) × (new ≡ held_after old answer)

-- ---- lines

-- what of a reply's line was written where the run stops
abbrev pub IsPartAt : RunEnd → Plan → List ℕ → Type 0
IsPartAt end.WriteFailed rest part = IsPrefixOfReply rest part
IsPartAt end.Memory rest part = IsNothing rest part
IsPartAt _ rest part = ⊥

abbrev pub LineSaid : (has_reads : Bool) → {S : Type 0} → (S → Exchange → S → Type 0) → List ℕ → Jobs → S → List ℕ → Result ⊤ RunEnd → Jobs → S → List ℕ → Type 0
LineSaid has_reads Step line old_jobs old old_held (Ok u) jobs new held =
    (pairs : List Exchange) × (out : List ℕ) × AnswersLine has_reads line old_jobs pairs out jobs × Runs Step old pairs new × (held ≡ old_held ++ out)
LineSaid has_reads Step line old_jobs old old_held (Err stop) jobs new held =
    (pairs : List Exchange) × (part : List ℕ) × (rest : Plan) × (is_blank line ≡ false) × BeginsWith (plan_of old_jobs (request_of has_reads line)) pairs rest
    × Runs Step old pairs new × (held ≡ old_held ++ part) × IsPartAt stop rest part

-- ---- bytes

-- all lines that have their line feed were answered, and this was read of the next one
abbrev pub ConversationAt : (has_reads : Bool) → {S : Type 0} → (S → Exchange → S → Type 0) → S → List ℕ → List ℕ → Jobs → List ℕ → S → Type 0
ConversationAt has_reads Step start given partial jobs out new =
    (lines : List (List ℕ)) × (pairs : List Exchange) × (lines_of given ≡ lines ++ partial ∷ []) × Fits partial × AnswersLines has_reads lines [] pairs out jobs × Runs Step start pairs new

-- A piece of the bytes was taken, whatever came before it; or the run stops in it, with these bytes after it.
abbrev pub PieceTaken : (has_reads : Bool) → {S : Type 0} → (S → Exchange → S → Type 0) → S → List ℕ → Jobs → List ℕ → List ℕ → List ℕ → Result ⊤ RunEnd → S → List ℕ → Jobs → List ℕ → Type 0
PieceTaken has_reads {S} Step old old_line old_jobs old_held piece behind result new line jobs held =
    (start : S) (given out : List ℕ) → ConversationAt has_reads Step start given old_line old_jobs out old →
    MatchResult result
    (λ _. (more : List ℕ) × (held ≡ old_held ++ more) × ConversationAt has_reads Step start (given ++ piece) line jobs (out ++ more) new)
    (λ stop. (more : List ℕ) × (pairs : List Exchange) × (held ≡ old_held ++ more) × Runs Step start pairs new × OutputAt has_reads stop (given ++ (piece ++ behind)) pairs (out ++ more))

-- the line has the bytes at its end, unless it would be too long or memory ran out
abbrev pub Extends : List ℕ → List ℕ → Result ⊤ RunEnd → List ℕ → Type 0
Extends old bytes (Ok u) new = (new ≡ old ++ bytes) × Fits new
Extends old bytes (Err end.LineTooLong) new = IsTooLong (old ++ bytes)
Extends old bytes (Err end.Memory) new = Fits (old ++ bytes)
Extends old bytes (Err _) new = ⊥

-- the ends that may come inside the bytes
abbrev pub StopsInside : RunEnd → Type 0
StopsInside end.LineTooLong = Unit {0}
StopsInside end.WriteFailed = Unit {0}
StopsInside end.Memory = Unit {0}
StopsInside _ = ⊥

-- ---- the changes of a commit

-- the change is the edit that was asked for, or the refusal is its; or memory ran out
abbrev pub ChangeMade : Result Edit (List ℕ) → Result Change ChangeError → Type 0
ChangeMade asked (Ok change) = asked ≡ Ok (edit_of change)
ChangeMade asked (Err (fault.Refused refusal)) = asked ≡ Err (refusal_text refusal)
ChangeMade asked (Err fault.Memory) = Unit {0}

abbrev pub ChangesMade : Result (List Edit) (List ℕ) → Result (Vec Change Global) ChangeError → Type 0
ChangesMade asked (Ok changes) = asked ≡ Ok (edits_of changes.items)
ChangesMade asked (Err (fault.Refused refusal)) = asked ≡ Err (refusal_text refusal)
ChangesMade asked (Err fault.Memory) = Unit {0}
