-- One more read.
use Rattle.std.proofs.{Common.{◌≡◌, ◌+◌, ◌++◌, ◌∷◌, [], List, take, arith, subst}, lemmas.Grind.{common_steps}, lemmas.List.{take_all}}
use Rattle.fb_jobs.specs.{declared.keys.read.Read.{Read}, Hints.{AreChosen}, Values.{all_seen}}
use Rattle.fb_jobs.proofs.HintLemmas.{nothing_chosen, of_at, one_more_read}
use Rattle.fb_jobs.proofs.kept.hints.hints_among.Goals as goal

pub loop-read-init : goal.loop-read-init
loop-read-init g c texts of = nothing_chosen texts (g.K.Cache.kept c.args.kept.now) c.args.unit.now c.new-hints.result.items c.new-hints.ensures.items

pub loop-read-preserved : goal.loop-read-preserved
loop-read-preserved g c texts of =
    let reads = c.args.reads.now in
    let i = c.loop-read.read-index in
    let read = c.read-item.result in
    let more : take (i + 1) reads ≡ take i reads ++ read ∷ [] = grind (arith, common_steps) in
    one_more_read texts (g.K.Cache.kept c.args.kept.now) c.args.unit.now (take i reads) (take (i + 1) reads) read c.loop-read.hints.items c.add_hint.new.hints.items more (c.loop-read.invariant texts of) (c.in_ok-add_hint.ensures texts (of_at texts reads i read c.loop-read-test.true c.read-item.is of))

pub returns : goal.returns
returns g c texts of =
    let whole : take c.loop-read.read-index c.args.reads.now ≡ c.args.reads.now = take_all c.loop-read.read-index c.args.reads.now c.loop-read-test.false in
    subst (λ (reads : List Read). AreChosen texts (g.K.Cache.kept c.args.kept.now) c.args.unit.now (all_seen reads) c.loop-read.hints.items) whole (c.loop-read.invariant texts of)
