-- One more read.
use Rattle.std.proofs.{Common.{◌≡◌, ◌+◌, ◌++◌, ◌∷◌, [], List, take, arith, ap, sym, subst, ◌∙◌}, lemmas.Grind.{common_steps}}
use Rattle.std.proofs.lemmas.List.{map-append, take_all}
use Rattle.fb_jobs.specs.{declared.keys.read.Read.{Read}, Cached.{AreJudged}, Reads.{Seen}, Values.{all_seen, seen_of}}
use Rattle.fb_jobs.proofs.kept.cached.judged_reads.Goals as goal

pub loop-read-preserved : goal.loop-read-preserved
loop-read-preserved g c =
    let kept = g.K.Cache.kept c.args.kept.now in
    let reads = c.args.reads.now in
    let i = c.loop-read.read-index in
    let read = c.read-item.result in
    let more : take (i + 1) reads ≡ take i reads ++ read ∷ [] = grind (arith, common_steps) in
    let seen_more : all_seen (take (i + 1) reads) ≡ all_seen (take i reads) ++ seen_of read ∷ [] = ap all_seen more ∙ map-append seen_of (take i reads) (read ∷ []) in
    subst (λ (rs : List Seen). AreJudged kept rs c.judge.new.found) (sym seen_more)
    (c.in_ok-judge.ensures (all_seen (take i reads)) c.loop-read.invariant)

pub returns : goal.returns
returns g c =
    let whole : take c.loop-read.read-index c.args.reads.now ≡ c.args.reads.now = take_all c.loop-read.read-index c.args.reads.now c.loop-read-test.false in
    subst (λ (reads : List Read). AreJudged (g.K.Cache.kept c.args.kept.now) (all_seen reads) c.loop-read.found) whole c.loop-read.invariant
