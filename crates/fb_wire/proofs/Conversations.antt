-- Plans, runs and talks, one after another.
use Rattle.std.proofs.Common.{◌-◌, ◌+◌, ◌<◌, ◌≡◌, ℕ, [], ◌∷◌, ◌++◌, ◌∙◌, Err, List, None, Ok, Option, Result, Some, ap, append-nil, ap₂, arith, Bool, false, length, nat_le, option_map, refl, subst, suc, sym, true}
use Rattle.std.specs.{declared.alloc.AllocError.{AllocError}, Result.{result_ok}}
use mathlib.Core.Logic.{inl, inr}
use Rattle.fb_bench.specs.{History.Reads.{Showing, showing_in}, History.declared.reading.Reading.{Reading}}
use Rattle.fb_bench.specs.History.declared.reading.Showing as made
use Rattle.fb_bench.specs.{History.Checkpoints.{KeptUpTo, OverNumbers, OverUnits}, History.Limits.{Bounds}}
use Rattle.fb_bench.specs.{History.Machine.{Call, OfDeliver, OfTake, Reply as MachineReply, ToDeliver, ToTake}, Solo.{IsStep, SoloStep}}
use Rattle.fb_bench.specs.declared.desk.Solo.{Solo}
use Rattle.fb_bench.specs.Calls.{Answer, AskedCall, AskedCheckpoint, AskedRead, BehindHistory, Checked, CheckpointAnswer, DeliversTaken, Exchange, Exchanges, FullHistory, Replied, Serves, ServesCheckpoint, ServesRead, ServesRound, SharedHistory, take_reply}
use Rattle.fb_bench.specs.{declared.answers.Taken.{Taken}, History.declared.answers.Delivered.{Delivered}, History.declared.answers.Delivered.TheVariants.{Accepted, NoSuchKey, NotPending, Stale}, declared.desk.DeskError.{DeskError}}
use Rattle.fb_bench.specs.{declared.desk.DeskError.TheVariants.{Behind, HistoryFull, Memory}, declared.desk.DeskCheckpointError.{DeskCheckpointError}}
use Rattle.fb_messages.specs.{Replies.{refused, work_done, work_refused}, ReplyView.{data_of, refusal_text}}
use Rattle.fb_messages.specs.{declared.reply.Refusal.{Refusal}, declared.reply.Reply.{Reply}}
use Rattle.fb_wire.specs.{Lines.{is_blank}, Said.{checkpoint_said, read_said, said_to}}
use Rattle.fb_wire.specs.Progress.{KeepsTaken, LineSaid, Progress, ProgressTo, answer_in, checked_in, data_in, read_in, refusal_for, unrecorded}
use Rattle.fb_wire.specs.Conversations.{Jobs, BeginsWith, Plan, Runs, after_deliver, after_take, asks, call_once, checkpoint_once, checks, held_after, read_once, reads, says, take_plan, work_plan}
use Rattle.fb_bench.specs.declared.desk.DeskCheckpointError.TheVariants as checkpoint
use Rattle.serde_json.specs.Data.{Data}

pub BeginsWith-append : (plan mid rest : Plan) (ps qs : List Exchange) → BeginsWith plan ps mid → BeginsWith mid qs rest → BeginsWith plan (ps ++ qs) rest
BeginsWith-append plan mid rest [] qs first more = let P : Plan → Type 0 = λ q. BeginsWith q qs rest in subst P first more
BeginsWith-append (says reply jobs) mid rest (p ∷ ps) qs first more = absurd first
BeginsWith-append (asks call next) mid rest (AskedCall made answer ∷ ps) qs first more = (first.0, BeginsWith-append (next answer) mid rest ps qs first.1 more)
BeginsWith-append (asks call next) mid rest (AskedCheckpoint made answer ∷ ps) qs first more = absurd first
BeginsWith-append (asks call next) mid rest (AskedRead made shown ∷ ps) qs first more = absurd first
BeginsWith-append (checks limits next) mid rest (AskedCall made answer ∷ ps) qs first more = absurd first
BeginsWith-append (checks limits next) mid rest (AskedCheckpoint made answer ∷ ps) qs first more = (first.0, BeginsWith-append (next answer) mid rest ps qs first.1 more)
BeginsWith-append (checks limits next) mid rest (AskedRead made shown ∷ ps) qs first more = absurd first
BeginsWith-append (reads reading next) mid rest (AskedCall made answer ∷ ps) qs first more = absurd first
BeginsWith-append (reads reading next) mid rest (AskedCheckpoint made answer ∷ ps) qs first more = absurd first
BeginsWith-append (reads reading next) mid rest (AskedRead made shown ∷ ps) qs first more = (first.0, BeginsWith-append (next shown) mid rest ps qs first.1 more)

-- ---- calls that are not recorded

pub refused_said : (n : ℕ) (why : DeskError) (r : Result Refusal AllocError) → result_ok r ≡ refusal_for why → option_map (said_to n) (unrecorded why) ≡ option_map (λ it. refused (refusal_text it)) (result_ok r)
refused_said n HistoryFull r is = rw is refl
refused_said n Behind r is = rw is refl
refused_said n Memory r is = rw is refl

pub refused_delivery : (held : Jobs) (count : ℕ) (more : ℕ → Plan) (why : DeskError) (r : Result Refusal AllocError) → result_ok r ≡ refusal_for why
    → option_map (after_deliver held count more) (unrecorded why) ≡ option_map (λ it. says (work_refused count (refusal_text it)) held) (result_ok r)
refused_delivery held count more HistoryFull r is = rw is refl
refused_delivery held count more Behind r is = rw is refl
refused_delivery held count more Memory r is = rw is refl

pub after_refused : (held : Jobs) (count : ℕ) (more : ℕ → Plan) (answer : Delivered) → (answer ≡ Accepted → ⊥) → after_deliver held count more (Replied (OfDeliver answer)) ≡ more count
after_refused held count more Accepted not = absurd (not refl)
after_refused held count more NoSuchKey not = refl
after_refused held count more NotPending not = refl
after_refused held count more (Stale name) not = refl

pub refused_kept : (old : Jobs) (why : DeskError) (reply : Option Data) → ((n : ℕ) → option_map (said_to n) (unrecorded why) ≡ reply) → KeepsTaken old (unrecorded why) reply old
refused_kept old why None is = tt
refused_kept old HistoryFull (Some reply) is = let same : Some (said_to (length old + 1) FullHistory) ≡ Some reply = is (length old + 1) in (cc, refl)
refused_kept old Behind (Some reply) is = let same : Some (said_to (length old + 1) BehindHistory) ≡ Some reply = is (length old + 1) in (cc, refl)
refused_kept old Memory (Some reply) is = let none : None ≡ Some reply = is 0 in absurd cc

-- what is left of a work's plan after one round, where `more` continues with a count; none for lack of memory
abbrev left_after : Jobs → ℕ → (ℕ → Plan) → Result (Option Delivered) DeskError → Option Plan
left_after held count more (Ok None) = Some (says (work_done count) held)
left_after held count more (Ok (Some answer)) = Some (after_deliver held count more (Replied (OfDeliver answer)))
left_after held count more (Err why) = option_map (after_deliver held count more) (unrecorded why)

-- ---- plans

module _ {S : Type 0} (Step : S → Exchange → S → Type 0) where
  pub Runs-append : (old mid new : S) (ps qs : List Exchange) → Runs Step old ps mid → Runs Step mid qs new → Runs Step old (ps ++ qs) new
  Runs-append old mid new [] qs first more = let P : S → Type 0 = λ s. Runs Step s qs new in subst P first more
  Runs-append old mid new (p ∷ ps) qs first more = (first.0, first.1, Runs-append first.0 mid new ps qs first.2 more)

  -- no call yet
  pub reaches_itself : (plan : Plan) (old : S) → ProgressTo Step plan old plan old
  reaches_itself plan old = ([], refl, refl)

  pub reaches_on : (plan mid rest : Plan) (old between new : S) → ProgressTo Step plan old mid between → ProgressTo Step mid between rest new → ProgressTo Step plan old rest new
  reaches_on plan mid rest old between new first more =
      (first.0 ++ more.0, BeginsWith-append plan mid rest first.0 more.0 first.1 more.1, Runs-append old between new first.0 more.0 first.2 more.2)

  -- memory ran out before any call
  pub none_served : (plan : Plan) (old : S) (e : AllocError) (held : Jobs) → Progress Step plan old (Err e) held old
  none_served plan old e held = (plan, reaches_itself plan old)

  -- one more round of a work
  work_goes_on : (plan left : Plan) (old mid new : S) (held : Jobs) (turns i count : ℕ) → i < turns → ProgressTo Step plan old (work_plan held (turns - i) count) mid
      → ProgressTo Step (asks ToTake (after_take held count (work_plan held (turns - (i + 1))))) mid left new → ProgressTo Step plan old left new
  unfolding work_plan
  work_goes_on plan left old mid new held turns i count within far served =
      let width : turns - i ≡ suc (turns - (i + 1)) = omega arith in
      let Q : ℕ → Type 0 = λ n. ProgressTo Step plan old (work_plan held n count) mid in
      reaches_on plan (work_plan held (suc (turns - (i + 1))) count) left old mid new (subst Q width far) served

  pub work_ends : (plan : Plan) (old new : S) (held : Jobs) (left count : ℕ) → left ≡ 0 → ProgressTo Step plan old (work_plan held left count) new → ProgressTo Step plan old (says (work_done count) held) new
  unfolding work_plan
  work_ends plan old new held left count none far =
      let Q : ℕ → Type 0 = λ n. ProgressTo Step plan old (work_plan held n count) new in subst Q none far

  -- ---- lines

  pub blank_said : (has_reads : Bool) (line : List ℕ) (old_jobs jobs : Jobs) (old new : S) (held : List ℕ) → is_blank line ≡ true → jobs ≡ old_jobs → new ≡ old → LineSaid has_reads Step line old_jobs old held (Ok tt) jobs new held
  blank_said has_reads line old_jobs jobs old new held blank same is = ([], [], rw blank (refl, refl, same), is, sym (append-nil held))

-- ---- calls, a checkpoint and a read of a desk

module _ {S : Type 0} (CallStep : S → Call → Answer → S → Type 0) (CheckpointStep : S → Bounds → CheckpointAnswer → S → Type 0) (ReadStep : S → Reading → Option Showing → S → Type 0) where
  abbrev Step : S → Exchange → S → Type 0
  Step = Exchanges CallStep CheckpointStep ReadStep

  -- one call, and its answer
  reaches_by : (old new : S) (call : Call) (next : Answer → Plan) (answer : Answer) → CallStep old call answer new → ProgressTo Step (asks call next) old (next answer) new
  reaches_by old new call next answer step = (AskedCall call answer ∷ [], (refl, refl), (new, step, refl))

  call_replied : (old new : S) (call : Call) (answer : Answer) (reply : Reply) (held : Jobs) → CallStep old call answer new → Some (said_to 0 answer) ≡ Some (data_of reply)
      → ProgressTo Step (call_once held call) old (says (data_of reply) held) new
  call_replied old new call answer reply held step is =
      let same : said_to 0 answer ≡ data_of reply = cc in
      (AskedCall call answer ∷ [], (refl, ap (λ d. says d held) (sym same)), (new, step, refl))

  checkpoint_replied : (old new : S) (limits : Bounds) (answer : CheckpointAnswer) (reply : Reply) (held : Jobs) → CheckpointStep old limits answer new → Some (checkpoint_said answer) ≡ Some (data_of reply)
      → ProgressTo Step (checkpoint_once held limits) old (says (data_of reply) held) new
  checkpoint_replied old new limits answer reply held step is =
      let same : checkpoint_said answer ≡ data_of reply = cc in
      (AskedCheckpoint limits answer ∷ [], (refl, ap (λ d. says d held) (sym same)), (new, step, refl))

  -- a call whose answer alone is the reply
  pub call_served : {R : Type 0} (old new : S) (call : Call) (reply_of : R → MachineReply) (r : Result R DeskError) (reply : Result Reply AllocError) (held : Jobs)
      → Serves CallStep old call reply_of r new → option_map (said_to 0) (answer_in reply_of r) ≡ data_in reply → Progress Step (call_once held call) old reply held new
  call_served old new call reply_of (Ok r) (Ok reply) held step is = call_replied old new call (Replied (reply_of r)) reply held step is
  call_served old new call reply_of (Err HistoryFull) (Ok reply) held step is = call_replied old new call FullHistory reply held step is
  call_served old new call reply_of (Err Behind) (Ok reply) held step is = call_replied old new call BehindHistory reply held step is
  call_served old new call reply_of (Err Memory) (Ok reply) held same is = absurd cc
  call_served old new call reply_of (Ok r) (Err e) held step is = absurd cc
  call_served old new call reply_of (Err HistoryFull) (Err e) held step is = absurd cc
  call_served old new call reply_of (Err Behind) (Err e) held step is = absurd cc
  call_served old new call reply_of (Err Memory) (Err e) held same is = (call_once held call, ([], refl, same))

  -- a checkpoint, whose answer is the reply
  pub checkpoint_served : (old new : S) (limits : Bounds) (r : Result ℕ DeskCheckpointError) (reply : Result Reply AllocError) (held : Jobs)
      → ServesCheckpoint CheckpointStep old limits r new → option_map checkpoint_said (checked_in r) ≡ data_in reply → Progress Step (checkpoint_once held limits) old reply held new
  checkpoint_served old new limits (Ok before) (Ok reply) held step is = checkpoint_replied old new limits (Checked (KeptUpTo before)) reply held step is
  checkpoint_served old new limits (Err (checkpoint.UnitsOver units)) (Ok reply) held step is = checkpoint_replied old new limits (Checked (OverUnits units)) reply held step is
  checkpoint_served old new limits (Err checkpoint.NumbersOver) (Ok reply) held step is = checkpoint_replied old new limits (Checked OverNumbers) reply held step is
  checkpoint_served old new limits (Err checkpoint.NotAlone) (Ok reply) held step is = checkpoint_replied old new limits SharedHistory reply held step is
  checkpoint_served old new limits (Err checkpoint.Memory) (Ok reply) held same is = absurd cc
  checkpoint_served old new limits (Ok before) (Err e) held step is = absurd cc
  checkpoint_served old new limits (Err (checkpoint.UnitsOver units)) (Err e) held step is = absurd cc
  checkpoint_served old new limits (Err checkpoint.NumbersOver) (Err e) held step is = absurd cc
  checkpoint_served old new limits (Err checkpoint.NotAlone) (Err e) held step is = absurd cc
  checkpoint_served old new limits (Err checkpoint.Memory) (Err e) held same is = (checkpoint_once held limits, ([], refl, same))

  read_replied : (old new : S) (reading : Reading) (shown : Option Showing) (reply : Reply) (held : Jobs) → ReadStep old reading shown new → Some (read_said shown) ≡ Some (data_of reply)
      → ProgressTo Step (read_once held reading) old (says (data_of reply) held) new
  read_replied old new reading shown reply held step is =
      let same : read_said shown ≡ data_of reply = cc in
      (AskedRead reading shown ∷ [], (refl, ap (λ d. says d held) (sym same)), (new, step, refl))

  -- a read, of which what it shows is the reply
  pub read_served : (old new : S) (reading : Reading) (r : Result (Option made.Showing) AllocError) (reply : Result Reply AllocError) (held : Jobs)
      → ServesRead ReadStep old reading r new → option_map read_said (read_in r) ≡ data_in reply → Progress Step (read_once held reading) old reply held new
  read_served old new reading (Ok shown) (Ok reply) held step is = read_replied old new reading (option_map showing_in shown) reply held step is
  read_served old new reading (Err e) (Ok reply) held same is = absurd cc
  read_served old new reading (Ok shown) (Err e) held step is = absurd cc
  read_served old new reading (Err e) (Err f) held same is = (read_once held reading, ([], refl, same))

  by_plan : (old new : S) (call : Call) (next : Answer → Plan) (answer : Answer) (rest : Plan) → CallStep old call answer new → Some (next answer) ≡ Some rest → ProgressTo Step (asks call next) old rest new
  by_plan old new call next answer rest step is =
      let same : next answer ≡ rest = cc in
      let P : Plan → Type 0 = λ p. ProgressTo Step (asks call next) old p new in
      subst P same (reaches_by old new call next answer step)

  -- a served call leads to what its answer leaves of the plan
  pub by_answer : {R : Type 0} (old new : S) (call : Call) (next : Answer → Plan) (reply_of : R → MachineReply) (r : Result R DeskError) (rest : Plan)
      → Serves CallStep old call reply_of r new → option_map next (answer_in reply_of r) ≡ Some rest → ProgressTo Step (asks call next) old rest new
  by_answer old new call next reply_of (Ok r) rest step is = by_plan old new call next (Replied (reply_of r)) rest step is
  by_answer old new call next reply_of (Err HistoryFull) rest step is = by_plan old new call next FullHistory rest step is
  by_answer old new call next reply_of (Err Behind) rest step is = by_plan old new call next BehindHistory rest step is
  by_answer old new call next reply_of (Err Memory) rest same is = absurd cc

  -- a served call leads somewhere, also where memory ran out
  pub by_any : {R : Type 0} (old new : S) (call : Call) (next : Answer → Plan) (reply_of : R → MachineReply) (r : Result R DeskError)
      → Serves CallStep old call reply_of r new → (rest : Plan) × ProgressTo Step (asks call next) old rest new
  by_any old new call next reply_of (Ok r) step = (next (Replied (reply_of r)), reaches_by old new call next (Replied (reply_of r)) step)
  by_any old new call next reply_of (Err HistoryFull) step = (next FullHistory, reaches_by old new call next FullHistory step)
  by_any old new call next reply_of (Err Behind) step = (next BehindHistory, reaches_by old new call next BehindHistory step)
  by_any old new call next reply_of (Err Memory) same = (asks call next, ([], refl, same))

  taken_by : (old new : S) (answer : Answer) (reply : Data) (held after : Jobs) → nat_le 64 (length held) ≡ false → CallStep old ToTake answer new
      → reply ≡ said_to (length held + 1) answer → after ≡ held_after held answer → ProgressTo Step (take_plan held) old (says reply after) new
  taken_by old new answer reply held after room step said left =
      (AskedCall ToTake answer ∷ [], rw room (refl, ap₂ says said left), (new, step, refl))

  -- a take where there is room for another job
  pub take_served : (old new : S) (r : Result Taken DeskError) (reply : Result Reply AllocError) (held after : Jobs) → nat_le 64 (length held) ≡ false
      → Serves CallStep old ToTake take_reply r new → KeepsTaken held (answer_in take_reply r) (data_in reply) after → Progress Step (take_plan held) old reply after new
  take_served old new (Ok r) (Ok reply) held after room step kept = taken_by old new (Replied (take_reply r)) (data_of reply) held after room step kept.0 kept.1
  take_served old new (Err HistoryFull) (Ok reply) held after room step kept = taken_by old new FullHistory (data_of reply) held after room step kept.0 kept.1
  take_served old new (Err Behind) (Ok reply) held after room step kept = taken_by old new BehindHistory (data_of reply) held after room step kept.0 kept.1
  take_served old new (Err Memory) (Ok reply) held after room step kept = absurd kept
  take_served old new r (Err e) held after room step kept =
      let next : Answer → Plan = λ answer. says (said_to (length held + 1) answer) (held_after held answer) in
      let P : Plan → Type 0 = λ p. (rest : Plan) × ProgressTo Step p old rest new in
      let open_plan : asks ToTake next ≡ take_plan held = rw room refl in
      subst P open_plan (by_any old new ToTake next take_reply r step)

  -- a round whose job was taken goes on by its delivery
  round_delivers : (old new : S) (held : Jobs) (count : ℕ) (more : ℕ → Plan) (r : Result Delivered DeskError) (left : Plan) (made : DeliversTaken CallStep old r new)
      → ProgressTo Step (asks (ToDeliver made.1) (after_deliver held count more)) made.0 left new → ProgressTo Step (asks ToTake (after_take held count more)) old left new
  round_delivers old new held count more r left made far =
      reaches_on Step (asks ToTake (after_take held count more)) (asks (ToDeliver made.1) (after_deliver held count more)) left old made.0 new
      (reaches_by old made.0 ToTake (after_take held count more) (Replied (OfTake (Some made.1))) made.2) far

  round_served : (old new : S) (held : Jobs) (count : ℕ) (more : ℕ → Plan) (r : Result (Option Delivered) DeskError) (left : Plan)
      → ServesRound CallStep old r new → left_after held count more r ≡ Some left → ProgressTo Step (asks ToTake (after_take held count more)) old left new
  round_served old new held count more (Ok None) left step is = by_plan old new ToTake (after_take held count more) (Replied (OfTake None)) left step is
  round_served old new held count more (Ok (Some answer)) left made is =
      round_delivers old new held count more (Ok answer) left made (by_answer made.0 new (ToDeliver made.1) (after_deliver held count more) OfDeliver (Ok answer) left made.3 is)
  round_served old new held count more (Err HistoryFull) left (inl step) is = by_plan old new ToTake (after_take held count more) FullHistory left step is
  round_served old new held count more (Err Behind) left (inl step) is = by_plan old new ToTake (after_take held count more) BehindHistory left step is
  round_served old new held count more (Err Memory) left (inl same) is = absurd cc
  round_served old new held count more (Err why) left (inr made) is =
      round_delivers old new held count more (Err why) left made (by_answer made.0 new (ToDeliver made.1) (after_deliver held count more) OfDeliver (Err why) left made.3 is)

  -- a round that ended by an error
  round_stopped : (old new : S) (held : Jobs) (count : ℕ) (more : ℕ → Plan) (why : DeskError) → ServesRound CallStep old (Err why) new → (rest : Plan) × ProgressTo Step (asks ToTake (after_take held count more)) old rest new
  round_stopped old new held count more why (inl step) = by_any old new ToTake (after_take held count more) take_reply (Err why) step
  round_stopped old new held count more why (inr made) =
      let far = by_any made.0 new (ToDeliver made.1) (after_deliver held count more) OfDeliver (Err why) made.3 in
      (far.0, round_delivers old new held count more (Err why) far.0 made far.1)

  -- what the work has left after a round
  pub work_left : (plan : Plan) (old mid new : S) (held : Jobs) (turns i count : ℕ) (r : Result (Option Delivered) DeskError) (left : Plan) → i < turns → ProgressTo Step plan old (work_plan held (turns - i) count) mid
      → ServesRound CallStep mid r new → left_after held count (work_plan held (turns - (i + 1))) r ≡ Some left → ProgressTo Step plan old left new
  work_left plan old mid new held turns i count r left within far served is =
      work_goes_on Step plan left old mid new held turns i count within far (round_served mid new held count (work_plan held (turns - (i + 1))) r left served is)

  pub work_stops : (plan : Plan) (old mid new : S) (held : Jobs) (turns i count : ℕ) (why : DeskError) → i < turns → ProgressTo Step plan old (work_plan held (turns - i) count) mid
      → ServesRound CallStep mid (Err why) new → (rest : Plan) × ProgressTo Step plan old rest new
  work_stops plan old mid new held turns i count why within far served =
      let stopped = round_stopped mid new held count (work_plan held (turns - (i + 1))) why served in
      (stopped.0, work_goes_on Step plan stopped.0 old mid new held turns i count within far stopped.1)

-- a run on a lent workbench
pub Runs-solo : (old new : Solo) (pairs : List Exchange) → Runs SoloStep old pairs new → Runs (IsStep old.caller) old.bench.now pairs new.bench.now × (new.bench.ghost_name ≡ old.bench.ghost_name)
Runs-solo old new [] same = (ap (λ s. s.bench.now) same, ap (λ s. s.bench.ghost_name) same)
Runs-solo old new (AskedCall call answer ∷ ps) h =
    let rest = Runs-solo h.0 new ps h.2 in
    let P : ℕ → Type 0 = λ caller. Runs (IsStep caller) h.0.bench.now ps new.bench.now in
    ((h.0.bench.now, h.1.0, subst P h.1.1 rest.0), rest.1 ∙ h.1.2)
Runs-solo old new (AskedCheckpoint limits answer ∷ ps) h =
    let rest = Runs-solo h.0 new ps h.2 in
    let P : ℕ → Type 0 = λ caller. Runs (IsStep caller) h.0.bench.now ps new.bench.now in
    ((h.0.bench.now, h.1.0, subst P h.1.1 rest.0), rest.1 ∙ h.1.2)
Runs-solo old new (AskedRead reading shown ∷ ps) h = absurd h.1
