use Rattle.std.proofs.lemmas.Result.{IfOk-weaker}
use Rattle.fb_types.proofs.SearchOfUnit.{some_weaker, whole_of_one, loop_of_one, loop_to_one}
use Rattle.fb_types.proofs.search.inner_first.Goals as goal

pub returns-clause-whole : goal.returns-clause-whole
returns-clause-whole g c =
    IfOk-weaker c.all_inner_first.result _ _ (λ found h. some_weaker found _ _ (λ order whole v. whole_of_one (g.V.View.sources c.args.view.now) c.args.unit order.items v (whole v)) h) c.all_inner_first.ensures.whole

pub returns-clause-recursive : goal.returns-clause-recursive
returns-clause-recursive g c =
    IfOk-weaker c.all_inner_first.result _ _ (λ found h. (λ none. loop_of_one (g.V.View.sources c.args.view.now) c.args.unit (h.0 none), λ loop. h.1 (loop_to_one (g.V.View.sources c.args.view.now) c.args.unit loop))) c.all_inner_first.ensures.recursive
