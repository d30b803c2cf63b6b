-- What was said on a workbench is what the script says.
use Rattle.std.proofs.Common.{◌≡◌, ◌<◌, ◌≤◌, ℕ, [], ◌∷◌, ◌++◌, ◌∙◌, Bool, List, MatchBool, ap, append-nil, append_assoc, arith, cond, drop, false, length, nat_lt, refl, subst, sym, true}
use Rattle.std.proofs.{lemmas.Bool.Decides.{nat_tests}, lemmas.List.{take-append-drop}}
use Rattle.serde_json.specs.Data.{Data}
use Rattle.fb_bench.specs.{History.Checkpoints.{bench_checked}, History.Machine.{Call, reply}, History.Limits.{Bounds}}
use Rattle.fb_bench.specs.Calls.{Answer, AskedCall, AskedCheckpoint, AskedRead, BehindHistory, Checked, CheckpointAnswer, Exchange, FullHistory, Replied, SharedHistory}
use Rattle.fb_bench.specs.{Solo.{IsCallStep, IsCheckpointStep, IsStep}, History.BenchView.{BenchView}}
use Rattle.fb_wire.specs.{Ends.{IsNothing, IsPrefixOfReply, OutputAt}, Lines.{is_blank, lines_of}}
use Rattle.fb_wire.specs.Script.{IsPrefixOf, SaysBy, Script, answer_from, bench_after, bench_anew, checkpoint_from, line_result, reply_before, script, script_from}
use Rattle.fb_wire.specs.{Conversations.{AnswersLines, Jobs, BeginsWith, Plan, Runs, asks, checks, plan_of, reads, says}, declared.end.RunEnd.{RunEnd}}
use Rattle.fb_messages.specs.{Replies.{reply_line}, Requests.{request_of}}
use Rattle.fb_wire.specs.declared.end.RunEnd.TheVariants as end

has_room : (n limit : ℕ) → n < limit → nat_lt n limit ≡ true
has_room n limit room = grind (arith, nat_tests)

has_none : (n limit : ℕ) → limit ≤ n → nat_lt n limit ≡ false
has_none n limit full = grind (arith, nat_tests)

-- a call on the workbench gives its answer, and leaves it as it is after the call
pub call_is : (caller : ℕ) (bench : BenchView) (call : Call) (answer : Answer) (new : BenchView) → IsCallStep caller bench call answer new → (answer ≡ answer_from bench call) × (new ≡ bench_after caller bench call)
call_is caller bench call (Replied answer) new step =
    let room : nat_lt (length bench.log.records) bench.log.limit ≡ true = has_room _ _ step.0 in
    rw room (ap Replied step.1, step.2)
call_is caller bench call FullHistory new step =
    let full : nat_lt (length bench.log.records) bench.log.limit ≡ false = has_none _ _ step.0 in
    rw full (refl, step.1)
call_is caller bench call BehindHistory new step = absurd step

-- a checkpoint gives its answer, and leaves the workbench as it is after it
pub checkpoint_is : (bench : BenchView) (limits : Bounds) (answer : CheckpointAnswer) (new : BenchView) → IsCheckpointStep bench limits answer new → (answer ≡ checkpoint_from bench limits) × (new ≡ bench_anew bench limits)
checkpoint_is bench limits (Checked checking) new step = (ap Checked step.0, step.1 ∙ ap (λ c. bench_checked c limits bench) step.0)
checkpoint_is bench limits SharedHistory new step = absurd step

-- what a plan asks leads to what it is told
told_is : (caller : ℕ) (plan : Plan) (pairs : List Exchange) (reply : Data) (held : Jobs) (bench new : BenchView) → BeginsWith plan pairs (says reply held) → Runs (IsStep caller) bench pairs new
    → line_result caller plan bench ≡ record { reply = reply; held = held; bench = new }
unfolding line_result
told_is caller (says d jobs) [] reply held bench new l r =
    let same : says reply held ≡ says d jobs = l in
    let first : d ≡ reply = cc in
    let second : jobs ≡ held = cc in
    λ i. record { reply = first i; held = second i; bench = (sym r) i }
told_is caller (says d jobs) (p ∷ ps) reply held bench new l r = absurd l
told_is caller (asks call next) [] reply held bench new l r = absurd cc
told_is caller (asks call next) (AskedCall made answer ∷ ps) reply held bench new l r =
    let step = call_is caller bench made answer r.0 r.1 in
    let rest = told_is caller (next answer) ps reply held r.0 new l.1 r.2 in
    let P : Call → Type 0 = λ c. line_result caller (next (answer_from bench c)) (bench_after caller bench c) ≡ record { reply = reply; held = held; bench = new } in
    subst P l.0 (rw (← step.0, ← step.1) rest)
told_is caller (asks call next) (AskedCheckpoint made answer ∷ ps) reply held bench new l r = absurd l
told_is caller (asks call next) (AskedRead made shown ∷ ps) reply held bench new l r = absurd l
told_is caller (checks limits next) [] reply held bench new l r = absurd cc
told_is caller (checks limits next) (AskedCall made answer ∷ ps) reply held bench new l r = absurd l
told_is caller (checks limits next) (AskedRead made shown ∷ ps) reply held bench new l r = absurd l
told_is caller (reads reading next) [] reply held bench new l r = absurd cc
told_is caller (reads reading next) (AskedCall made answer ∷ ps) reply held bench new l r = absurd l
told_is caller (reads reading next) (AskedCheckpoint made answer ∷ ps) reply held bench new l r = absurd l
told_is caller (reads reading next) (AskedRead made shown ∷ ps) reply held bench new l r = absurd r.1
told_is caller (checks limits next) (AskedCheckpoint made answer ∷ ps) reply held bench new l r =
    let step = checkpoint_is bench made answer r.0 r.1 in
    let rest = told_is caller (next answer) ps reply held r.0 new l.1 r.2 in
    let P : Bounds → Type 0 = λ b. line_result caller (next (checkpoint_from bench b)) (bench_anew bench b) ≡ record { reply = reply; held = held; bench = new } in
    subst P l.0 (rw (← step.0, ← step.1) rest)

-- the pairs of some lines, and those behind them
Runs-split : (caller : ℕ) (bench new : BenchView) (ps qs : List Exchange) → Runs (IsStep caller) bench (ps ++ qs) new → (mid : BenchView) × Runs (IsStep caller) bench ps mid × Runs (IsStep caller) mid qs new
Runs-split caller bench new [] qs r = (bench, refl, r)
Runs-split caller bench new (p ∷ ps) qs r =
    let rest = Runs-split caller r.0 new ps qs r.2 in
    (rest.0, (r.0, r.1, rest.1), rest.2)

-- what was said, and then a script
abbrev pub said_before : List ℕ → Script → Script
said_before out script = record { out = out ++ script.out; bench = script.bench }

one_line : (caller : ℕ) (blank : Bool) (plan : Plan) (held after : Jobs) (ps : List Exchange) (out : List ℕ) (bench new : BenchView) (more : Jobs → BenchView → Script)
    → MatchBool blank ((ps ≡ []) × (out ≡ []) × (after ≡ held)) ((reply : Data) × BeginsWith plan ps (says reply after) × (out ≡ reply_line reply)) → Runs (IsStep caller) bench ps new
    → cond blank (more held bench) (reply_before (line_result caller plan bench) more) ≡ said_before out (more after new)
one_line caller true plan held after ps out bench new more t r =
    let P : List Exchange → Type 0 = λ xs. Runs (IsStep caller) bench xs new in
    let same : new ≡ bench = subst P t.0 r in
    rw (t.1, t.2, same) refl
one_line caller false plan held after ps out bench new more t r =
    rw (told_is caller plan ps t.0 after bench new t.1 r, t.2) refl

said-said : (a b : List ℕ) (s : Script) → said_before a (said_before b s) ≡ said_before (a ++ b) s
said-said a b s = λ i. record { out = (sym (append_assoc a b s.out)) i; bench = s.bench }

-- some lines, and those behind them
pub lines_said : (caller : ℕ) (lines more : List (List ℕ)) (held after : Jobs) (ps : List Exchange) (out : List ℕ) (bench new : BenchView) → AnswersLines false lines held ps out after → Runs (IsStep caller) bench ps new
    → script_from caller (lines ++ more) held bench ≡ said_before out (script_from caller more after new)
lines_said caller [] more held after ps out bench new t r =
    let P : List Exchange → Type 0 = λ xs. Runs (IsStep caller) bench xs new in
    let same : new ≡ bench = subst P t.0 r in
    rw (t.1, t.2, same) refl
lines_said caller (line ∷ lines) more held after ps out bench new t r =
    let P : List Exchange → Type 0 = λ xs. Runs (IsStep caller) bench xs new in
    let split = Runs-split caller bench new t.0 t.1 (subst P t.5 r) in
    let here = one_line caller (is_blank line) (plan_of held (request_of false line)) held t.4 t.0 t.2 bench split.0 (script_from caller (lines ++ more)) t.8 split.1 in
    let rest = lines_said caller lines more t.4 after t.1 t.3 split.0 new t.9 split.2 in
    here ∙ ap (said_before t.2) rest ∙ said-said t.2 t.3 (script_from caller more after new) ∙ ap (λ xs. said_before xs (script_from caller more after new)) (sym t.6)

-- a prefix of what is said to a line
line_prefix : (caller : ℕ) (blank : Bool) (plan : Plan) (held : Jobs) (begun : List Exchange) (part : List ℕ) (bench new : BenchView) (more : Jobs → BenchView → Script)
    → MatchBool blank ((begun ≡ []) × (part ≡ [])) ((rest : Plan) × BeginsWith plan begun rest × IsPrefixOfReply rest part) → Runs (IsStep caller) bench begun new
    → IsPrefixOf part (cond blank (more held bench) (reply_before (line_result caller plan bench) more)).out
line_prefix caller true plan held begun part bench new more t r = ((more held bench).out, rw t.1 refl)
line_prefix caller false plan held begun part bench new more t r =
    let reply = t.2.0 in
    let P : Plan → Type 0 = λ q. BeginsWith plan begun q in
    let is = told_is caller plan begun reply t.2.1 bench new (subst P t.2.3 t.1) r in
    let all : reply_line reply ≡ part ++ drop t.2.2 (reply_line reply) = rw t.2.4 (sym (take-append-drop t.2.2 (reply_line reply))) in
    let rest = (more t.2.1 new).out in
    (drop t.2.2 (reply_line reply) ++ rest, rw is (ap (λ xs. xs ++ rest) all ∙ append_assoc part (drop t.2.2 (reply_line reply)) rest))

nothing_more : (blank : Bool) (plan : Plan) (begun : List Exchange) (part : List ℕ)
    → MatchBool blank ((begun ≡ []) × (part ≡ [])) ((rest : Plan) × BeginsWith plan begun rest × IsNothing rest part) → part ≡ []
nothing_more true plan begun part t = t.1
nothing_more false plan begun part t = t.2

-- the lines that were answered, of all lines
prefix_said : (caller : ℕ) (bench new : BenchView) (bytes : List ℕ) (lines more : List (List ℕ)) (after : Jobs) (pairs : List Exchange) (out : List ℕ) → lines_of bytes ≡ lines ++ more
    → AnswersLines false lines [] pairs out after → Runs (IsStep caller) bench pairs new → script caller bench bytes ≡ said_before out (script_from caller more after new)
unfolding script
prefix_said caller bench new bytes lines more after pairs out is t r =
    ap (λ ls. script_from caller ls [] bench) is ∙ lines_said caller lines more [] after pairs out bench new t r

-- what stands at each end is a prefix of what the script says
says_prefix : (stop : RunEnd) (caller : ℕ) (bench new : BenchView) (bytes : List ℕ) (pairs : List Exchange) (out : List ℕ) → OutputAt false stop bytes pairs out → Runs (IsStep caller) bench pairs new
    → IsPrefixOf out (script caller bench bytes).out
says_prefix end.End caller bench new bytes pairs out t r =
    let is = prefix_said caller bench new bytes (lines_of bytes) [] t.0 pairs out (sym (append-nil (lines_of bytes))) t.1 r in
    ([], ap (λ s. s.out) is)
says_prefix end.ReadFailed caller bench new bytes pairs out t r =
    let is = prefix_said caller bench new bytes t.0 (t.1 ∷ []) t.2 pairs out t.3 t.5 r in
    ((script_from caller (t.1 ∷ []) t.2 new).out, ap (λ s. s.out) is)
says_prefix end.TurnsOver caller bench new bytes pairs out t r =
    let is = prefix_said caller bench new bytes t.0 (t.1 ∷ []) t.2 pairs out t.3 t.5 r in
    ((script_from caller (t.1 ∷ []) t.2 new).out, ap (λ s. s.out) is)
says_prefix end.LineTooLong caller bench new bytes pairs out t r =
    let is = prefix_said caller bench new bytes t.0 (t.2 ∷ t.1) t.3 pairs out t.4 t.6 r in
    ((script_from caller (t.2 ∷ t.1) t.3 new).out, ap (λ s. s.out) is)
says_prefix end.WriteFailed caller bench new bytes pairs out t r =
    let P : List Exchange → Type 0 = λ xs. Runs (IsStep caller) bench xs new in
    let split = Runs-split caller bench new t.3 t.4 (subst P t.10 r) in
    let is = prefix_said caller bench split.0 bytes t.0 (t.2 ∷ t.1) t.7 t.3 t.5 t.8 t.12 split.1 in
    let line = line_prefix caller (is_blank t.2) (plan_of t.7 (request_of false t.2)) t.7 t.4 t.6 split.0 new (script_from caller t.1) t.13 split.2 in
    (line.0, ap (λ s. s.out) is ∙ ap (λ xs. t.5 ++ xs) line.1 ∙ sym (append_assoc t.5 t.6 line.0) ∙ ap (λ xs. xs ++ line.0) (sym t.11))
says_prefix end.Memory caller bench new bytes pairs out t r =
    let P : List Exchange → Type 0 = λ xs. Runs (IsStep caller) bench xs new in
    let split = Runs-split caller bench new t.3 t.4 (subst P t.10 r) in
    let is = prefix_said caller bench split.0 bytes t.0 (t.2 ∷ t.1) t.7 t.3 t.5 t.8 t.12 split.1 in
    let none = nothing_more (is_blank t.2) (plan_of t.7 (request_of false t.2)) t.4 t.6 t.13 in
    let same : out ≡ t.5 = t.11 ∙ ap (λ xs. t.5 ++ xs) none ∙ append-nil t.5 in
    let rest = (script_from caller (t.2 ∷ t.1) t.7 split.0).out in
    (rest, ap (λ s. s.out) is ∙ ap (λ xs. xs ++ rest) (sym same))

-- at the end of the input it is all of it
says_all : (caller : ℕ) (bench new : BenchView) (bytes : List ℕ) (pairs : List Exchange) (out : List ℕ) → OutputAt false end.End bytes pairs out → Runs (IsStep caller) bench pairs new
    → (out ≡ (script caller bench bytes).out) × (new ≡ (script caller bench bytes).bench)
says_all caller bench new bytes pairs out t r =
    let is = prefix_said caller bench new bytes (lines_of bytes) [] t.0 pairs out (sym (append-nil (lines_of bytes))) t.1 r in
    (sym (ap (λ s. s.out) is ∙ append-nil out), sym (ap (λ s. s.bench) is))

pub says_by : (stop : RunEnd) (caller : ℕ) (bench new : BenchView) (bytes : List ℕ) (pairs : List Exchange) (out : List ℕ) → OutputAt false stop bytes pairs out → Runs (IsStep caller) bench pairs new
    → SaysBy stop caller bench bytes out new
says_by stop caller bench new bytes pairs out t r = (
  says_prefix stop caller bench new bytes pairs out t r,
  λ is.
      let P : RunEnd → Type 0 = λ e. OutputAt false e bytes pairs out in
      says_all caller bench new bytes pairs out (subst P is t) r,
)
