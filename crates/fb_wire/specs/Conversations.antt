-- The reply to each line, and what the line asks of a desk.
use Rattle.std.specs.Prelude.{◌≡◌, ◌⊎◌, ℕ, ◌+◌, Bool, [], ◌∷◌, ◌++◌, if◌then◌else◌, Err, List, MatchBool, None, Ok, Option, Result, Some, length, map, nat_le, slice_get, suc, take, zero}
use mathlib.Core.Logic.{inl, inr}
use Rattle.serde_json.specs.Data.{Data}
use Rattle.fb_text.specs.{Name.{name_of}, declared.name.NameFault.{NameFault}}
use Rattle.fb_library.specs.{Parse.Source.{longest_text}, Texts.{Edit, Puts, Removes}}
use Rattle.fb_messages.specs.{Jobs.Reads.{PlainJob}, Replies.{refused, reply_line, work_done, work_refused}, ReplyView.{refusal_text}}
use Rattle.fb_messages.specs.Requests.{Change, Request, puts, removes, request_of}
use Rattle.fb_bench.specs.{History.Machine.{Call, OfDeliver, OfTake, ToAsk, ToCommit, ToDeliver, ToGiveBack, ToTake, most_changes}, History.Limits.{Bounds}}
use Rattle.fb_bench.specs.{History.Reads.{Showing}, History.declared.reading.Reading.{Reading}, History.declared.reading.Reading.TheVariants.{Entry, Events, Status, Text, Units}}
use Rattle.fb_bench.specs.Calls.{Answer, AskedCall, AskedCheckpoint, AskedRead, BehindHistory, CheckpointAnswer, Exchange, FullHistory, Replied}
use Rattle.fb_bench.specs.History.declared.answers.Delivered.TheVariants.{Accepted}
use Rattle.fb_wire.specs.{Lines.{Fits, is_blank}, Said.{checkpoint_said, read_said, said_to}}
use Rattle.fb_messages.specs.declared.reply.Refusal.TheVariants as because
use Rattle.fb_messages.specs.Requests as asked

-- the jobs that a run holds, by their keys and what they read
abbrev pub Jobs : Type 0
Jobs = List PlainJob

abbrev pub answer_of : Exchange → Answer ⊎ (CheckpointAnswer ⊎ Option Showing)
answer_of (AskedCall call answer) = inl answer
answer_of (AskedCheckpoint limits answer) = inr (inl answer)
answer_of (AskedRead reading shown) = inr (inr shown)

abbrev pub answers_of : List Exchange → List (Answer ⊎ (CheckpointAnswer ⊎ Option Showing))
answers_of exchanges = map answer_of exchanges

-- Calls, checkpoints and reads, each after the answer to the one before, and at the end a reply and the jobs that are held then.
pub data Plan : Type 0 where
  says : Data → Jobs → Plan
  asks : Call → (Answer → Plan) → Plan
  checks : Bounds → (CheckpointAnswer → Plan) → Plan
  reads : Reading → (Option Showing → Plan) → Plan

-- These calls, checkpoints and reads with these answers are the plan's first ones, and this is what is left of it.
abbrev pub BeginsWith : Plan → List Exchange → Plan → Type 0
BeginsWith plan [] rest = rest ≡ plan
BeginsWith (asks call next) (AskedCall made answer ∷ more) rest = (made ≡ call) × BeginsWith (next answer) more rest
BeginsWith (checks limits next) (AskedCheckpoint made answer ∷ more) rest = (made ≡ limits) × BeginsWith (next answer) more rest
BeginsWith (reads reading next) (AskedRead made shown ∷ more) rest = (made ≡ reading) × BeginsWith (next shown) more rest
BeginsWith plan (exchange ∷ more) rest = ⊥

-- ---- the plan of each request

-- one call, whose answer is the reply
abbrev pub call_once : Jobs → Call → Plan
call_once held call = asks call (λ answer. says (said_to 0 answer) held)

-- one checkpoint, whose answer is the reply
abbrev pub checkpoint_once : Jobs → Bounds → Plan
checkpoint_once held limits = checks limits (λ answer. says (checkpoint_said answer) held)

-- one read, of which what it shows is the reply
abbrev pub read_once : Jobs → Reading → Plan
read_once held reading = reads reading (λ shown. says (read_said shown) held)

abbrev pub with_name : Jobs → Result (List ℕ) NameFault → (List ℕ → Plan) → Plan
with_name held (Err fault) next = says (refused (refusal_text because.BadName)) held
with_name held (Ok unit) next = next unit

-- a change as an edit of texts, or why it is refused
abbrev pub edit_named : Change → Result (List ℕ) NameFault → Result Edit (List ℕ)
edit_named change (Err fault) = Err (refusal_text because.BadName)
edit_named (puts name base text) (Ok unit) = if nat_le (length text) longest_text then Ok (Puts unit base text) else Err (refusal_text because.TextTooLong)
edit_named (removes name base) (Ok unit) = Ok (Removes unit base)

abbrev pub name_in : Change → List ℕ
name_in (puts name base text) = name
name_in (removes name base) = name

abbrev pub edit_in : Change → Result Edit (List ℕ)
edit_in change = edit_named change (name_of (name_in change))

abbrev pub edit_before : Edit → Result (List Edit) (List ℕ) → Result (List Edit) (List ℕ)
edit_before edit (Ok edits) = Ok (edit ∷ edits)
edit_before edit (Err reason) = Err reason

abbrev pub edits_from : Result Edit (List ℕ) → Result (List Edit) (List ℕ) → Result (List Edit) (List ℕ)
edits_from (Ok edit) edits = edit_before edit edits
edits_from (Err reason) edits = Err reason

-- all changes as edits, or the first refusal
abbrev pub edits_in : List Change → Result (List Edit) (List ℕ)
edits_in [] = Ok []
edits_in (change ∷ changes) = edits_from (edit_in change) (edits_in changes)

-- of more changes than a commit may have, one more than the most is asked, which is too many as well
abbrev pub commit_plan : Jobs → Result (List Edit) (List ℕ) → Plan
commit_plan held (Ok edits) = call_once held (ToCommit (take (most_changes + 1) edits))
commit_plan held (Err reason) = says (refused reason) held

-- the most jobs that a run holds
abbrev pub most_held : ℕ
most_held = 64

-- what a taken job adds to those that are held
abbrev pub held_after : Jobs → Answer → Jobs
held_after held (Replied (OfTake (Some job))) = held ++ job ∷ []
held_after held _ = held

abbrev pub take_plan : Jobs → Plan
take_plan held =
    if nat_le most_held (length held) then says (refused (refusal_text because.TooManyJobs)) held
    else asks ToTake (λ answer. says (said_to (length held + 1) answer) (held_after held answer))

abbrev pub deliver_held : Jobs → Option PlainJob → Plan
deliver_held held None = says (refused (refusal_text because.NoSuchJob)) held
deliver_held held (Some job) = call_once held (ToDeliver job)

-- jobs are numbered from 1
abbrev pub job_at : Jobs → ℕ → Option PlainJob
job_at held zero = None
job_at held (suc place) = slice_get held place

abbrev pub deliver_plan : Jobs → ℕ → Plan
deliver_plan held number = deliver_held held (job_at held number)

-- after an answer to a delivery: the count of accepted results continues, or the work is refused
abbrev pub after_deliver : Jobs → ℕ → (ℕ → Plan) → Answer → Plan
after_deliver held count more (Replied (OfDeliver Accepted)) = more (count + 1)
after_deliver held count more (Replied _) = more count
after_deliver held count more FullHistory = says (work_refused count (refusal_text because.HistoryFull)) held
after_deliver held count more BehindHistory = says (work_refused count (refusal_text because.Behind)) held

-- after an answer to a take: the job is delivered, or the work is done or refused
abbrev pub after_take : Jobs → ℕ → (ℕ → Plan) → Answer → Plan
after_take held count more (Replied (OfTake (Some job))) = asks (ToDeliver job) (after_deliver held count more)
after_take held count more (Replied _) = says (work_done count) held
after_take held count more FullHistory = says (work_refused count (refusal_text because.HistoryFull)) held
after_take held count more BehindHistory = says (work_refused count (refusal_text because.Behind)) held

-- take, run and deliver, at most this number of times; this many results were accepted before
unfoldable pub work_plan : Jobs → ℕ → ℕ → Plan
work_plan held zero count = says (work_done count) held
work_plan held (suc turns) count = asks ToTake (after_take held count (work_plan held turns))

abbrev pub read_plan : Jobs → asked.Reading → Plan
read_plan held asked.status_read = read_once held Status
read_plan held (asked.units_read None) = read_once held (Units None)
read_plan held (asked.units_read (Some after)) = with_name held (name_of after) (λ name. read_once held (Units (Some name)))
read_plan held (asked.text_read unit) = with_name held (name_of unit) (λ name. read_once held (Text name))
read_plan held (asked.entry_read kind unit) = with_name held (name_of unit) (λ name. read_once held (Entry (record { kind = kind; unit = name })))
read_plan held (asked.events_read after wait) = read_once held (Events after)

abbrev pub plan_of : Jobs → Option Request → Plan
plan_of held None = says (refused (refusal_text because.BadRequest)) held
plan_of held (Some (asked.commit changes)) = commit_plan held (edits_in changes)
plan_of held (Some (asked.ask kind unit)) = with_name held (name_of unit) (λ name. call_once held (ToAsk (record { kind = kind; unit = name })))
plan_of held (Some (asked.work turns)) = work_plan held turns 0
plan_of held (Some asked.take) = take_plan held
plan_of held (Some (asked.deliver number)) = deliver_plan held number
plan_of held (Some (asked.give_back kind unit)) = with_name held (name_of unit) (λ name. call_once held (ToGiveBack (record { kind = kind; unit = name })))
plan_of held (Some (asked.checkpoint limits)) = checkpoint_once held limits
plan_of held (Some (asked.read_request reading)) = read_plan held reading

-- ---- lines

-- what one line asks and gets, with the jobs that are held before it and after it; it may be a read only if the desk answers reads
abbrev pub AnswersLine : (has_reads : Bool) → List ℕ → Jobs → List Exchange → List ℕ → Jobs → Type 0
AnswersLine has_reads line held pairs out after =
    MatchBool (is_blank line) ((pairs ≡ []) × (out ≡ []) × (after ≡ held))
    ((reply : Data) × BeginsWith (plan_of held (request_of has_reads line)) pairs (says reply after) × (out ≡ reply_line reply))

-- some of what one line asks, and the part of its reply that was written; a blank line asks and gets nothing
abbrev pub LinePart : (has_reads : Bool) → (Plan → List ℕ → Type 0) → List ℕ → Jobs → List Exchange → List ℕ → Type 0
LinePart has_reads IsPart line held begun part =
    MatchBool (is_blank line) ((begun ≡ []) × (part ≡ []))
    ((rest : Plan) × BeginsWith (plan_of held (request_of has_reads line)) begun rest × IsPart rest part)

-- the lines, one after another; none of them is too long
abbrev pub AnswersLines : (has_reads : Bool) → List (List ℕ) → Jobs → List Exchange → List ℕ → Jobs → Type 0
AnswersLines has_reads [] held pairs out after = (pairs ≡ []) × (out ≡ []) × (after ≡ held)
AnswersLines has_reads (line ∷ lines) held pairs out after =
    (first rest : List Exchange) × (said more : List ℕ) × (mid : Jobs) × (pairs ≡ first ++ rest) × (out ≡ said ++ more)
    × Fits line × AnswersLine has_reads line held first said mid × AnswersLines has_reads lines mid rest more after

-- from the first state to the second by these calls, checkpoints and reads with these answers
abbrev pub Runs : {S : Type 0} → (S → Exchange → S → Type 0) → S → List Exchange → S → Type 0
Runs Step old [] new = new ≡ old
Runs {S} Step old (p ∷ ps) new = (mid : S) × Step old p mid × Runs Step mid ps new
