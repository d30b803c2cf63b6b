-- One unit more, which has a net and a plan or not.
use Rattle.std.proofs.{Common.{◌≡◌, ◌+◌, ◌++◌, ◌∷◌, [], ap, ◌∙◌, arith, cond, sym, take, append_assoc}, lemmas.Grind.{common_steps}}
use Rattle.fb_jobs.specs.declared.keys.key.Kind.TheVariants as kind
use Rattle.fb_entries.proofs.Present.{present, present_more, the_key}
use Rattle.fb_entries.proofs.keys.add_nets_and_plans.Goals as goal

pub loop-unit-preserved : goal.loop-unit-preserved
loop-unit-preserved c =
    let library = c.args.library.now in
    let units = c.args.units.now in
    let i = c.loop-unit.unit-index in
    let unit = c.unit-item.result in
    let has = c.has_net_and_plan-has_net in
    let more : take (i + 1) units ≡ take i units ++ unit ∷ [] = grind (arith, common_steps) in
    let net = cond has.result.0 (the_key kind.Net unit ∷ []) [] in
    let plan = cond has.result.1 (the_key kind.Deploy unit ∷ []) [] in (
      c.in_ok-add_if.ensures
          ∙ ap (λ keys. keys ++ net) c.loop-unit.invariant.0
          ∙ append_assoc c.args.nets.now.items (present library kind.Net (take i units)) net
          ∙ ap (λ keys. c.args.nets.now.items ++ keys) (sym (present_more library kind.Net (take i units) (take (i + 1) units) unit more has.result.0 has.ensures.net)),
      c.in_ok-add_if-2.ensures
          ∙ ap (λ keys. keys ++ plan) c.loop-unit.invariant.1
          ∙ append_assoc c.args.plans.now.items (present library kind.Deploy (take i units)) plan
          ∙ ap (λ keys. c.args.plans.now.items ++ keys) (sym (present_more library kind.Deploy (take i units) (take (i + 1) units) unit more has.result.1 has.ensures.plan)),
    )
