use Rattle.std.proofs.{Common.{◌≡◌, ◌∙◌, ap, map, nat_cmp, rules}, lemmas.Map.Iter.{iter_end}}
use Rattle.std.specs.{BTreeMap.{get, keys}, Map.{keys_of}, Map.Iter.{deref}}
use Rattle.fb_locked.proofs.EachCaller.{counted_all, counted_more}
use Rattle.fb_locked.proofs.callers.count_calls.Goals as goal

pub loop-caller-preserved : goal.loop-caller-preserved
loop-caller-preserved c =
    λ q.
    counted_more c.args.callers c.args.bench.now c.loop-caller.yielded c.in-Some.caller q (get nat_cmp c.loop-caller.counts q) (get nat_cmp c.count_caller.new.counts q)
    (c.loop-caller.invariant q)
    (c.in_ok-count_caller.ensures q)

pub returns : goal.returns
returns c =
    let seen : map deref c.loop-caller.yielded ≡ keys c.pages.result.now = search (rules, iter_end) in
    record { pages = λ q. c.loop-caller.invariant q ∙ counted_all c.args.callers c.args.bench.now _ q (seen ∙ ap keys_of c.pages.ensures) }
