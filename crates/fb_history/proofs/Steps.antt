-- One more call.
use Rattle.std.proofs.Common.{◌≡◌, ℕ, List, [], ◌∷◌, ◌++◌, map, refl, sym, ap, ◌∙◌, Some, None, true, false, cond}
use Rattle.fb_history.specs.{declared.answers.GivenBack.{GivenBack}, declared.answers.Delivered.{Delivered}}
use Rattle.fb_history.specs.declared.answers.GivenBack.TheVariants.{Returned, NothingOut}
use Rattle.fb_history.specs.Machine.{State, Call, Reply, after, reply, ToAsk, OfAsk, shown, ToTake, OfTake, taken, next, after_take, ToDeliver, OfDeliver, deliver_answer, after_deliver, ToGiveBack, OfGiveBack, give_back_answer, after_give_back, removed, ToCommit, OfCommit, commit_answer, after_commit}
use Rattle.fb_history.specs.BenchView.{Record, BenchView, opened, replay, replies, calls_of, state_of, recorded, logged, record_after, record_of, IsReplay}
use Rattle.fb_jobs.specs.{Library.Texts.{Texts, Edit}, declared.keys.key.Key.{Key}, Reads.{PlainJob, Seen, reads_for}}

pub replay_more : (s : State) (calls : List Call) (call : Call) → replay s (calls ++ call ∷ []) ≡ after (replay s calls) call
unfolding replay
replay_more s [] call = refl
replay_more s (c ∷ cs) call = replay_more (after s c) cs call

pub replies_more : (s : State) (calls : List Call) (call : Call) → replies s (calls ++ call ∷ []) ≡ replies s calls ++ reply (replay s calls) call ∷ []
unfolding replay replies
replies_more s [] call = refl
replies_more s (c ∷ cs) call = ap (λ rs. reply s c ∷ rs) (replies_more (after s c) cs call)

calls_more : (es : List Record) (e : Record) → map (λ (x : Record). x.call) (es ++ e ∷ []) ≡ map (λ (x : Record). x.call) es ++ e.call ∷ []
calls_more [] e = refl
calls_more (x ∷ xs) e = ap (λ cs. x.call ∷ cs) (calls_more xs e)

replies_pushed : (es : List Record) (e : Record) → map (λ (x : Record). x.reply) (es ++ e ∷ []) ≡ map (λ (x : Record). x.reply) es ++ e.reply ∷ []
replies_pushed [] e = refl
replies_pushed (x ∷ xs) e = ap (λ rs. x.reply ∷ rs) (replies_pushed xs e)

pub state_recorded : (bench : BenchView) (caller : ℕ) (call : Call) → state_of (recorded bench caller call) ≡ after (state_of bench) call
state_recorded bench caller call =
    ap (λ calls. replay (opened bench.origin) calls) (calls_more bench.log.records _) ∙ replay_more (opened bench.origin) (calls_of bench.log) call

pub replayed_recorded : (bench : BenchView) (caller : ℕ) (call : Call) → IsReplay bench → IsReplay (recorded bench caller call)
replayed_recorded bench caller call so_far =
    ap (λ calls. replies (opened bench.origin) calls) (calls_more bench.log.records _)
    ∙ replies_more (opened bench.origin) (calls_of bench.log) call
    ∙ ap (λ rs. rs ++ reply (state_of bench) call ∷ []) so_far
    ∙ sym (replies_pushed bench.log.records _)

pub bench_pushed : (bench now next_bench : BenchView) (caller : ℕ) (call : Call) (answer : Reply) → bench ≡ now → next_bench ≡ logged bench caller call answer → answer ≡ reply (state_of bench) call → next_bench ≡ recorded now caller call
bench_pushed bench now next_bench caller call answer known is same =
    is ∙ ap (λ a. logged bench caller call a) same ∙ ap (λ st. recorded st caller call) known

pub reply_ask : (s : State) (key : Key) → reply s (ToAsk key) ≡ OfAsk (shown s key)
unfolding reply
reply_ask s key = refl

pub after_ask : (s : State) (key : Key) → after s (ToAsk key) ≡ s
unfolding after
after_ask s key = refl

pub reply_take : (s : State) → reply s ToTake ≡ OfTake (taken (next s) s)
unfolding reply
reply_take s = refl

pub after_take_is : (s : State) → after s ToTake ≡ after_take (next s) s
unfolding after
after_take_is s = refl

pub take_none : (s : State) → None ≡ next s → OfTake None ≡ reply s ToTake
take_none s none = ap (λ o. OfTake (taken o s)) none ∙ sym (reply_take s)

pub stays_none : (s : State) → None ≡ next s → after s ToTake ≡ s
stays_none s none = after_take_is s ∙ ap (λ o. after_take o s) (sym none)

pub take_some : (s : State) (units : Texts) (k : Key) (job : PlainJob) (key : Key) (reads : List Seen) → units ≡ s.units → job ≡ record { key = k; reads = reads_for units k } → key ≡ job.key → reads ≡ job.reads → Some k ≡ next s → OfTake (Some (record { key = key; reads = reads })) ≡ reply s ToTake
take_some s units k job key reads same is at read some =
    (λ i. OfTake (Some (record { key = (at ∙ ap (λ (o : PlainJob). o.key) is) i; reads = (read ∙ ap (λ (o : PlainJob). o.reads) is) i })))
    ∙ ap (λ us. OfTake (Some (record { key = k; reads = reads_for us k }))) same
    ∙ ap (λ o. OfTake (taken o s)) some
    ∙ sym (reply_take s)

pub stays_some : (s : State) (k : Key) → Some k ≡ next s → after s ToTake ≡ after_take (Some k) s
stays_some s k some = after_take_is s ∙ ap (λ o. after_take o s) (sym some)

pub reply_deliver : (s : State) (job : PlainJob) → reply s (ToDeliver job) ≡ OfDeliver (deliver_answer s job)
unfolding reply
reply_deliver s job = refl

pub after_deliver_is : (s : State) (job : PlainJob) → after s (ToDeliver job) ≡ after_deliver (deliver_answer s job) job.key s
unfolding after
after_deliver_is s job = refl

pub reply_give_back : (s : State) (key : Key) → reply s (ToGiveBack key) ≡ OfGiveBack (give_back_answer s key)
unfolding reply
reply_give_back s key = refl

pub after_returned : (s : State) (key : Key) → s.out key ≡ true → after s (ToGiveBack key) ≡ record s { out = removed s.out key }
unfolding after
after_returned s key out = ap (λ b. after_give_back (cond b Returned NothingOut) key s) out

pub after_nothing_out : (s : State) (key : Key) → s.out key ≡ false → after s (ToGiveBack key) ≡ s
unfolding after
after_nothing_out s key free = ap (λ b. after_give_back (cond b Returned NothingOut) key s) free

pub reply_commit : (s : State) (edits : List Edit) → reply s (ToCommit edits) ≡ OfCommit (commit_answer s edits)
unfolding reply
reply_commit s edits = refl

pub after_commit_is : (s : State) (edits : List Edit) → after s (ToCommit edits) ≡ after_commit (commit_answer s edits) edits s
unfolding after
after_commit_is s edits = refl

pub give_back_is : (s : State) (key : Key) (answer : GivenBack) → answer ≡ give_back_answer s key → OfGiveBack answer ≡ reply s (ToGiveBack key)
give_back_is s key answer is = ap OfGiveBack is ∙ sym (reply_give_back s key)

pub out_returned : (s : State) (key : Key) → s.out key ≡ true → OfGiveBack Returned ≡ reply s (ToGiveBack key)
out_returned s key out = give_back_is s key Returned (sym (ap (λ b. cond b Returned NothingOut) out))

pub nothing_out : (s : State) (key : Key) → s.out key ≡ false → OfGiveBack NothingOut ≡ reply s (ToGiveBack key)
nothing_out s key free = give_back_is s key NothingOut (sym (ap (λ b. cond b Returned NothingOut) free))

pub delivers_is : (s : State) (job now : PlainJob) (answer : Delivered) → job ≡ now → answer ≡ deliver_answer s now → OfDeliver answer ≡ reply s (ToDeliver job)
delivers_is s job now answer same is = ap OfDeliver (is ∙ ap (λ o. deliver_answer s o) (sym same)) ∙ sym (reply_deliver s job)

pub delivered_is : (s : State) (job now : PlainJob) (key : Key) (answer : Delivered) → job ≡ now → key ≡ now.key → answer ≡ deliver_answer s now → after s (ToDeliver job) ≡ after_deliver answer key s
delivered_is s job now key answer same at is =
    after_deliver_is s job
    ∙ ap (λ o. after_deliver (deliver_answer s o) o.key s) same
    ∙ (λ i. after_deliver (sym is i) (sym at i) s)

-- the share of a record shows the event that the call adds
pub share_pushed : (bench now : BenchView) (e : Record) (caller : ℕ) (call : Call) (answer : Reply) → bench ≡ now → e ≡ record_after bench caller call answer → answer ≡ reply (state_of bench) call → e ≡ record_of now caller call
share_pushed bench now e caller call answer known is same = is ∙ ap (λ a. record_after bench caller call a) same ∙ ap (λ st. record_of st caller call) known
