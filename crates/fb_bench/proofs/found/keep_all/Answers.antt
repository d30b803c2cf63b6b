-- One net more.
use Rattle.std.proofs.{Common.{sym, subst, ◌∙◌, length}, lemmas.Iterator.Adapters.{YieldsList-from_vec}, lemmas.Iterator.Consumers.{YieldsList-turn}}
use Rattle.std.proofs.lemmas.List.Elements.{All-contains, Contains-get_or}
use Rattle.std.specs.Prelude.{Contains}
use Rattle.fb_entries.specs.{Jobs.declared.kept.hints.Hint.{Hint}, Jobs.Hints.{IsNetOf, net_key}}
use Rattle.fb_bench.proofs.Marks.{agrees_found}
use Rattle.fb_bench.proofs.found.keep_all.Goals as goal

pub loop-it-preserved : goal.loop-it-preserved
loop-it-preserved c units commits state agrees rights =
    let it = c.in-Some.it in
    let found = c.args.found.items in
    let gives = c.into_iter-it-iterator.ensures.into_iter_gives in
    let turn = YieldsList-turn (YieldsList-from_vec found gives.0 (gives.1 ∙ c.args.found.ok.0)) c.loop-it.yielded c.loop-it.it-iterator c.loop-it.yielded_by c.next.result c.next.new.self it c.in-Some.is c.next.ensures.steps in
    let among : Contains found it = subst (λ (h : Hint). Contains found h) (sym turn.1) (Contains-get_or found (length c.loop-it.yielded) it turn.0) in
    agrees_found units commits c.loop-it.entries c.store_precomputed.new.self state (net_key it.unit) it.value (c.loop-it.invariant units commits state agrees rights) (All-contains (IsNetOf state.units) found it rights among) c.store_precomputed.ensures.entries c.store_precomputed.ensures.ready
