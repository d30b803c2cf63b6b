-- A conversation is decided by its bytes and by what decides its answers.
use Rattle.std.proofs.Common.{◌≡◌, ℕ, [], ◌∷◌, ◌++◌, ◌∙◌, Bool, List, MatchBool, ap, ap₂, arith, false, inl, inr, Option, refl, subst, sym, true}
use Rattle.serde_json.specs.Data.{Data}
use Rattle.fb_bench.specs.{History.Limits.{Bounds}, History.Machine.{Call}, Calls.{Answer, AskedCall, AskedCheckpoint, AskedRead, CheckpointAnswer, Exchange}, History.Reads.{Showing}, History.declared.reading.Reading.{Reading}}
use Rattle.fb_bench.specs.{Solo.{IsCallStep, IsCheckpointStep, IsStep}, History.BenchView.{BenchView}}
use Rattle.fb_wire.specs.{Lines.{Fits, IsTooLong, is_blank, lines_of}, Ends.{AnsweredAll, AnsweredEnded, IsBetweenLines, OutputAt}}
use Rattle.fb_wire.specs.{Conversations.{AnswersLines, Jobs, BeginsWith, Plan, Runs, answers_of, asks, checks, plan_of, reads, says}, declared.end.RunEnd.{RunEnd}}
use Rattle.fb_messages.specs.{Requests.{request_of}, Replies.{reply_line}}
use Rattle.fb_wire.specs.declared.end.RunEnd.TheVariants as end
use Rattle.fb_wire.proofs.Scripts.{call_is, checkpoint_is}

-- pairs that agree agree on the answer to one call, checkpoint or read, and behind it
module _ (has_reads : Bool) (Agrees : List Exchange → List Exchange → Type 0)
    (first_call : (call : Call) (a b : Answer) (ps qs : List Exchange) → Agrees (AskedCall call a ∷ ps) (AskedCall call b ∷ qs) → (a ≡ b) × Agrees ps qs)
    (first_checkpoint : (limits : Bounds) (a b : CheckpointAnswer) (ps qs : List Exchange) → Agrees (AskedCheckpoint limits a ∷ ps) (AskedCheckpoint limits b ∷ qs) → (a ≡ b) × Agrees ps qs)
    (first_read : (reading : Reading) (a b : Option Showing) (ps qs : List Exchange) → Agrees (AskedRead reading a ∷ ps) (AskedRead reading b ∷ qs) → (a ≡ b) × Agrees ps qs) where
  same_plan : (plan : Plan) (ps qs more others : List Exchange) (r s : Data) (a b : Jobs) → BeginsWith plan ps (says r a) → BeginsWith plan qs (says s b)
      → Agrees (ps ++ more) (qs ++ others) → (ps ≡ qs) × (r ≡ s) × (a ≡ b) × Agrees more others
  same_plan (says d jobs) [] [] more others r s a b l k e = let both : says r a ≡ says s b = l ∙ sym k in (refl, cc, cc, e)
  same_plan (says d jobs) [] (q ∷ qs) more others r s a b l k e = absurd k
  same_plan (says d jobs) (p ∷ ps) qs more others r s a b l k e = absurd l
  same_plan (asks call next) [] qs more others r s a b l k e = absurd cc
  same_plan (asks call next) (p ∷ ps) [] more others r s a b l k e = absurd cc
  same_plan (asks call next) (AskedCall c x ∷ ps) (AskedCall d y ∷ qs) more others r s a b l k e =
      let P : Call → Type 0 = λ z. Agrees (AskedCall z x ∷ (ps ++ more)) (AskedCall d y ∷ (qs ++ others)) in
      let calls : c ≡ d = l.0 ∙ sym k.0 in
      let step = first_call d x y (ps ++ more) (qs ++ others) (subst P calls e) in
      let Q : Answer → Type 0 = λ z. BeginsWith (next z) qs (says s b) in
      let rest = same_plan (next x) ps qs more others r s a b l.1 (subst Q (sym step.0) k.1) step.1 in
      (λ i. AskedCall (calls i) (step.0 i) ∷ rest.0 i, rest.1, rest.2, rest.3)
  same_plan (asks call next) (AskedCall c x ∷ ps) (AskedCheckpoint d y ∷ qs) more others r s a b l k e = absurd k
  same_plan (asks call next) (AskedCall c x ∷ ps) (AskedRead d y ∷ qs) more others r s a b l k e = absurd k
  same_plan (asks call next) (AskedCheckpoint c x ∷ ps) (q ∷ qs) more others r s a b l k e = absurd l
  same_plan (asks call next) (AskedRead c x ∷ ps) (q ∷ qs) more others r s a b l k e = absurd l
  same_plan (checks limits next) [] qs more others r s a b l k e = absurd cc
  same_plan (checks limits next) (p ∷ ps) [] more others r s a b l k e = absurd cc
  same_plan (checks limits next) (AskedCheckpoint c x ∷ ps) (AskedCheckpoint d y ∷ qs) more others r s a b l k e =
      let P : Bounds → Type 0 = λ z. Agrees (AskedCheckpoint z x ∷ (ps ++ more)) (AskedCheckpoint d y ∷ (qs ++ others)) in
      let same : c ≡ d = l.0 ∙ sym k.0 in
      let step = first_checkpoint d x y (ps ++ more) (qs ++ others) (subst P same e) in
      let Q : CheckpointAnswer → Type 0 = λ z. BeginsWith (next z) qs (says s b) in
      let rest = same_plan (next x) ps qs more others r s a b l.1 (subst Q (sym step.0) k.1) step.1 in
      (λ i. AskedCheckpoint (same i) (step.0 i) ∷ rest.0 i, rest.1, rest.2, rest.3)
  same_plan (checks limits next) (AskedCheckpoint c x ∷ ps) (AskedCall d y ∷ qs) more others r s a b l k e = absurd k
  same_plan (checks limits next) (AskedCheckpoint c x ∷ ps) (AskedRead d y ∷ qs) more others r s a b l k e = absurd k
  same_plan (checks limits next) (AskedCall c x ∷ ps) (q ∷ qs) more others r s a b l k e = absurd l
  same_plan (checks limits next) (AskedRead c x ∷ ps) (q ∷ qs) more others r s a b l k e = absurd l
  same_plan (reads reading next) [] qs more others r s a b l k e = absurd cc
  same_plan (reads reading next) (p ∷ ps) [] more others r s a b l k e = absurd cc
  same_plan (reads reading next) (AskedRead c x ∷ ps) (AskedRead d y ∷ qs) more others r s a b l k e =
      let P : Reading → Type 0 = λ z. Agrees (AskedRead z x ∷ (ps ++ more)) (AskedRead d y ∷ (qs ++ others)) in
      let same : c ≡ d = l.0 ∙ sym k.0 in
      let step = first_read d x y (ps ++ more) (qs ++ others) (subst P same e) in
      let Q : Option Showing → Type 0 = λ z. BeginsWith (next z) qs (says s b) in
      let rest = same_plan (next x) ps qs more others r s a b l.1 (subst Q (sym step.0) k.1) step.1 in
      (λ i. AskedRead (same i) (step.0 i) ∷ rest.0 i, rest.1, rest.2, rest.3)
  same_plan (reads reading next) (AskedRead c x ∷ ps) (AskedCall d y ∷ qs) more others r s a b l k e = absurd k
  same_plan (reads reading next) (AskedRead c x ∷ ps) (AskedCheckpoint d y ∷ qs) more others r s a b l k e = absurd k
  same_plan (reads reading next) (AskedCall c x ∷ ps) (q ∷ qs) more others r s a b l k e = absurd l
  same_plan (reads reading next) (AskedCheckpoint c x ∷ ps) (q ∷ qs) more others r s a b l k e = absurd l

  same_line_by : (blank : Bool) (plan : Plan) (held : Jobs) (ps qs more others : List Exchange) (out written : List ℕ) (after last : Jobs)
      → MatchBool blank ((ps ≡ []) × (out ≡ []) × (after ≡ held)) ((reply : Data) × BeginsWith plan ps (says reply after) × (out ≡ reply_line reply))
      → MatchBool blank ((qs ≡ []) × (written ≡ []) × (last ≡ held)) ((reply : Data) × BeginsWith plan qs (says reply last) × (written ≡ reply_line reply))
      → Agrees (ps ++ more) (qs ++ others) → (ps ≡ qs) × (out ≡ written) × (after ≡ last) × Agrees more others
  same_line_by true plan held ps qs more others out written after last t u e =
      let P : List Exchange → Type 0 = λ xs. Agrees (xs ++ more) (qs ++ others) in
      let Q : List Exchange → Type 0 = λ xs. Agrees more (xs ++ others) in
      (t.0 ∙ sym u.0, t.1 ∙ sym u.1, t.2 ∙ sym u.2, subst Q u.0 (subst P t.0 e))
  same_line_by false plan held ps qs more others out written after last t u e =
      let same = same_plan plan ps qs more others t.0 u.0 after last t.1 u.1 e in
      (same.0, t.2 ∙ ap reply_line same.1 ∙ sym u.2, same.2, same.3)

  same_conversation : (lines : List (List ℕ)) (held : Jobs) (ps qs : List Exchange) (out written : List ℕ) (after last : Jobs)
      → AnswersLines has_reads lines held ps out after → AnswersLines has_reads lines held qs written last → Agrees ps qs → (ps ≡ qs) × (out ≡ written) × (after ≡ last)
  same_conversation [] held ps qs out written after last t u e = (t.0 ∙ sym u.0, t.1 ∙ sym u.1, t.2 ∙ sym u.2)
  same_conversation (line ∷ lines) held ps qs out written after last t u e =
      let P : List Exchange → Type 0 = λ xs. Agrees xs qs in
      let Q : List Exchange → Type 0 = λ xs. Agrees (t.0 ++ t.1) xs in
      let line_same = same_line_by (is_blank line) (plan_of held (request_of has_reads line)) held t.0 u.0 t.1 u.1 t.2 u.2 t.4 u.4 t.8 u.8 (subst Q u.5 (subst P t.5 e)) in
      let R : Jobs → Type 0 = λ jobs. AnswersLines has_reads lines jobs u.1 u.3 last in
      let rest = same_conversation lines t.4 t.1 u.1 t.3 u.3 after last t.9 (subst R (sym line_same.2) u.9) line_same.3 in
      (t.5 ∙ ap₂ (λ xs ys. xs ++ ys) line_same.0 rest.0 ∙ sym u.5, t.6 ∙ ap₂ (λ xs ys. xs ++ ys) line_same.1 rest.1 ∙ sym u.6, rest.2)

-- ---- by the answers

AnswersAgree : List Exchange → List Exchange → Type 0
AnswersAgree ps qs = answers_of ps ≡ answers_of qs

first_call_answers : (call : Call) (a b : Answer) (ps qs : List Exchange) → AnswersAgree (AskedCall call a ∷ ps) (AskedCall call b ∷ qs) → (a ≡ b) × AnswersAgree ps qs
unfolding AnswersAgree
first_call_answers call a b ps qs e = let both : inl a ∷ answers_of ps ≡ inl b ∷ answers_of qs = e in (cc, cc)

first_checkpoint_answers : (limits : Bounds) (a b : CheckpointAnswer) (ps qs : List Exchange) → AnswersAgree (AskedCheckpoint limits a ∷ ps) (AskedCheckpoint limits b ∷ qs) → (a ≡ b) × AnswersAgree ps qs
unfolding AnswersAgree
first_checkpoint_answers limits a b ps qs e = let both : inr (inl a) ∷ answers_of ps ≡ inr (inl b) ∷ answers_of qs = e in (cc, cc)

first_read_answers : (reading : Reading) (a b : Option Showing) (ps qs : List Exchange) → AnswersAgree (AskedRead reading a ∷ ps) (AskedRead reading b ∷ qs) → (a ≡ b) × AnswersAgree ps qs
unfolding AnswersAgree
first_read_answers reading a b ps qs e = let both : inr (inr a) ∷ answers_of ps ≡ inr (inr b) ∷ answers_of qs = e in (cc, cc)

one_by_lines : (has_reads : Bool) (lines : List (List ℕ)) (pairs others : List Exchange) (out written : List ℕ) (after last : Jobs) → AnswersLines has_reads lines [] pairs out after → AnswersLines has_reads lines [] others written last
    → answers_of pairs ≡ answers_of others → (pairs ≡ others) × (out ≡ written)
unfolding AnswersAgree
one_by_lines has_reads lines pairs others out written after last t u e =
    let same = same_conversation has_reads AnswersAgree first_call_answers first_checkpoint_answers first_read_answers lines [] pairs others out written after last t u e in
    (same.0, same.1)

none_behind : (ys : List (List ℕ)) (b : List ℕ) → [] ≡ ys ++ b ∷ [] → ⊥
none_behind [] b e = cc
none_behind (y ∷ ys) b e = cc

-- the lines before the last one
lines_before : (xs ys : List (List ℕ)) (a b : List ℕ) → xs ++ a ∷ [] ≡ ys ++ b ∷ [] → xs ≡ ys
lines_before [] [] a b e = refl
lines_before [] (y ∷ ys) a b e = let tail : [] ≡ ys ++ b ∷ [] = cc in absurd (none_behind ys b tail)
lines_before (x ∷ xs) [] a b e = let tail : xs ++ a ∷ [] ≡ [] = cc in absurd (none_behind xs a (sym tail))
lines_before (x ∷ xs) (y ∷ ys) a b e =
    let head : x ≡ y = cc in
    let tail : xs ++ a ∷ [] ≡ ys ++ b ∷ [] = cc in
    ap₂ (λ h t. h ∷ t) head (lines_before xs ys a b tail)

AllFit : List (List ℕ) → Type 0
AllFit [] = Unit {0}
AllFit (line ∷ lines) = Fits line × AllFit lines

all_fit : (has_reads : Bool) (lines : List (List ℕ)) (held after : Jobs) (pairs : List Exchange) (out : List ℕ) → AnswersLines has_reads lines held pairs out after → AllFit lines
unfolding AllFit
all_fit has_reads [] held after pairs out t = tt
all_fit has_reads (line ∷ lines) held after pairs out t = (t.7, all_fit has_reads lines t.4 after t.1 t.3 t.9)

-- the lines before the first one that is too long
lines_before_long : (xs ys ps qs : List (List ℕ)) (a b : List ℕ) → AllFit xs → AllFit ys → IsTooLong a → IsTooLong b → xs ++ a ∷ ps ≡ ys ++ b ∷ qs → xs ≡ ys
unfolding AllFit
lines_before_long [] [] ps qs a b f g h k e = refl
lines_before_long [] (y ∷ ys) ps qs a b f g h k e =
    let head : a ≡ y = cc in
    let long : IsTooLong y = subst IsTooLong head h in
    absurd (omega (arith, long, g.0))
lines_before_long (x ∷ xs) [] ps qs a b f g h k e =
    let head : b ≡ x = cc in
    let long : IsTooLong x = subst IsTooLong head k in
    absurd (omega (arith, long, f.0))
lines_before_long (x ∷ xs) (y ∷ ys) ps qs a b f g h k e =
    let head : x ≡ y = cc in
    let tail : xs ++ a ∷ ps ≡ ys ++ b ∷ qs = cc in
    ap₂ (λ h t. h ∷ t) head (lines_before_long xs ys ps qs a b f.1 g.1 h k tail)

ended_is_one : (has_reads : Bool) (bytes : List ℕ) (pairs others : List Exchange) (out written : List ℕ) → AnsweredEnded has_reads bytes pairs out → AnsweredEnded has_reads bytes others written
    → answers_of pairs ≡ answers_of others → (pairs ≡ others) × (out ≡ written)
ended_is_one has_reads bytes pairs others out written t u e =
    let P : List (List ℕ) → Type 0 = λ ls. AnswersLines has_reads ls [] pairs out t.2 in
    let same = lines_before t.0 u.0 t.1 u.1 (sym t.3 ∙ u.3) in
    one_by_lines has_reads u.0 pairs others out written t.2 u.2 (subst P same t.5) u.5 e

pub one_by_answers : (has_reads : Bool) (stop : RunEnd) (bytes : List ℕ) (pairs others : List Exchange) (out written : List ℕ) → IsBetweenLines stop → OutputAt has_reads stop bytes pairs out → OutputAt has_reads stop bytes others written
    → answers_of pairs ≡ answers_of others → (pairs ≡ others) × (out ≡ written)
one_by_answers has_reads end.End bytes pairs others out written between t u e = one_by_lines has_reads (lines_of bytes) pairs others out written t.0 u.0 t.1 u.1 e
one_by_answers has_reads end.ReadFailed bytes pairs others out written between t u e = ended_is_one has_reads bytes pairs others out written t u e
one_by_answers has_reads end.TurnsOver bytes pairs others out written between t u e = ended_is_one has_reads bytes pairs others out written t u e
one_by_answers has_reads end.LineTooLong bytes pairs others out written between t u e =
    let P : List (List ℕ) → Type 0 = λ ls. AnswersLines has_reads ls [] pairs out t.3 in
    let same = lines_before_long t.0 u.0 t.1 u.1 t.2 u.2 (all_fit has_reads t.0 [] t.3 pairs out t.6) (all_fit has_reads u.0 [] u.3 others written u.6) t.5 u.5 (sym t.4 ∙ u.4) in
    one_by_lines has_reads u.0 pairs others out written t.3 u.3 (subst P same t.6) u.6 e
one_by_answers has_reads end.WriteFailed bytes pairs others out written between t u e = absurd between
one_by_answers has_reads end.Memory bytes pairs others out written between t u e = absurd between

-- ---- by a workbench

-- a call or a checkpoint on a workbench has one answer, and leads to one workbench
one_call : (caller : ℕ) (old : BenchView) (call : Call) (a b : Answer) (left right : BenchView) → IsCallStep caller old call a left → IsCallStep caller old call b right → (a ≡ b) × (left ≡ right)
one_call caller old call a b left right s t =
    let first = call_is caller old call a left s in
    let second = call_is caller old call b right t in
    (first.0 ∙ sym second.0, first.1 ∙ sym second.1)

one_checkpoint : (old : BenchView) (limits : Bounds) (a b : CheckpointAnswer) (left right : BenchView) → IsCheckpointStep old limits a left → IsCheckpointStep old limits b right → (a ≡ b) × (left ≡ right)
one_checkpoint old limits a b left right s t =
    let first = checkpoint_is old limits a left s in
    let second = checkpoint_is old limits b right t in
    (first.0 ∙ sym second.0, first.1 ∙ sym second.1)

one_state : (caller : ℕ) (old : BenchView) (exchange : Exchange) (left right : BenchView) → IsStep caller old exchange left → IsStep caller old exchange right → left ≡ right
one_state caller old (AskedCall call answer) left right s t = (one_call caller old call answer answer left right s t).1
one_state caller old (AskedCheckpoint limits answer) left right s t = (one_checkpoint old limits answer answer left right s t).1
one_state caller old (AskedRead reading shown) left right s t = absurd s

one_run : (caller : ℕ) (start left right : BenchView) (pairs : List Exchange) → Runs (IsStep caller) start pairs left → Runs (IsStep caller) start pairs right → left ≡ right
one_run caller start left right [] r s = r ∙ sym s
one_run caller start left right (p ∷ ps) r s =
    let step = one_state caller start p r.0 s.0 r.1 s.1 in
    let P : BenchView → Type 0 = λ mid. Runs (IsStep caller) mid ps right in
    one_run caller r.0 left right ps r.2 (subst P (sym step) s.2)

module _ (caller : ℕ) (left right : BenchView) where
  -- both are runs from one workbench
  RunsAgree : List Exchange → List Exchange → Type 0
  RunsAgree ps qs = (start : BenchView) × Runs (IsStep caller) start ps left × Runs (IsStep caller) start qs right

  first_call_runs : (call : Call) (a b : Answer) (ps qs : List Exchange) → RunsAgree (AskedCall call a ∷ ps) (AskedCall call b ∷ qs) → (a ≡ b) × RunsAgree ps qs
  unfolding RunsAgree
  first_call_runs call a b ps qs e =
      let step = one_call caller e.0 call a b e.1.0 e.2.0 e.1.1 e.2.1 in
      let Q : BenchView → Type 0 = λ mid. Runs (IsStep caller) mid qs right in
      (step.0, (e.1.0, e.1.2, subst Q (sym step.1) e.2.2))

  first_checkpoint_runs : (limits : Bounds) (a b : CheckpointAnswer) (ps qs : List Exchange) → RunsAgree (AskedCheckpoint limits a ∷ ps) (AskedCheckpoint limits b ∷ qs) → (a ≡ b) × RunsAgree ps qs
  unfolding RunsAgree
  first_checkpoint_runs limits a b ps qs e =
      let step = one_checkpoint e.0 limits a b e.1.0 e.2.0 e.1.1 e.2.1 in
      let Q : BenchView → Type 0 = λ mid. Runs (IsStep caller) mid qs right in
      (step.0, (e.1.0, e.1.2, subst Q (sym step.1) e.2.2))

  first_read_runs : (reading : Reading) (a b : Option Showing) (ps qs : List Exchange) → RunsAgree (AskedRead reading a ∷ ps) (AskedRead reading b ∷ qs) → (a ≡ b) × RunsAgree ps qs
  unfolding RunsAgree
  first_read_runs reading a b ps qs e = absurd e.1.1

pub one_by_steps : (caller : ℕ) (bytes : List ℕ) (pairs others : List Exchange) (out written : List ℕ) (start left right : BenchView)
    → AnsweredAll false bytes pairs out → Runs (IsStep caller) start pairs left → AnsweredAll false bytes others written → Runs (IsStep caller) start others right
    → (pairs ≡ others) × (out ≡ written) × (left ≡ right)
unfolding RunsAgree
one_by_steps caller bytes pairs others out written start left right t r u s =
    let same = same_conversation false (RunsAgree caller left right) (first_call_runs caller left right) (first_checkpoint_runs caller left right) (first_read_runs caller left right) (lines_of bytes) [] pairs others out written t.0 u.0 t.1 u.1 (start, r, s) in
    let P : List Exchange → Type 0 = λ ps. Runs (IsStep caller) start ps right in
    (same.0, same.1, one_run caller start left right pairs r (subst P (sym same.0) s))
