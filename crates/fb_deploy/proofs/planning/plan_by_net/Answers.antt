-- By the variants of the net.
use Rattle.std.proofs.{Common.{List, Some, ℕ, sym, ◌∙◌, ap}, lemmas.Result.{IfOk-weaker}}
use Rattle.fb_mapping.specs.{Flatten.Net.{blocked, recursive, plain_net}, Flatten.Wiring.declared.nets.Net.{Net}}
use Rattle.fb_deploy.specs.Deploy.{PlainDeploy, planned_by, stopped}
use Rattle.fb_deploy.proofs.ComputedPlans.{plan_by}
use Rattle.fb_deploy.proofs.planning.plan_by_net.Goals as goal

pub returns-in_ok-names-in-Blocked : goal.returns-in_ok-names-in-Blocked
returns-in_ok-names-in-Blocked g c =
    let sources = g.V.View.sources c.args.view.now in
    plan_by sources c.args.system (plain_net c.args.net.now) c.requires.system c.requires.net
    ∙ ap (λ (n : Net). Some (planned_by sources c.args.system (plain_net n))) c.in-Blocked.is
    ∙ ap (λ (names : List (List ℕ)). Some (stopped (blocked names))) (sym (c.in_ok-names-in-Blocked.ensures ∙ c.as_slice.ensures.value))

pub returns-in_ok-names-in-Recursive : goal.returns-in_ok-names-in-Recursive
returns-in_ok-names-in-Recursive g c =
    let sources = g.V.View.sources c.args.view.now in
    plan_by sources c.args.system (plain_net c.args.net.now) c.requires.system c.requires.net
    ∙ ap (λ (n : Net). Some (planned_by sources c.args.system (plain_net n))) c.in-Recursive.is
    ∙ ap (λ (names : List (List ℕ)). Some (stopped (recursive names))) (sym (c.in_ok-names-in-Recursive.ensures ∙ c.as_slice-in-Recursive.ensures.value))

pub returns-in-TooLarge : goal.returns-in-TooLarge
returns-in-TooLarge g c =
    let sources = g.V.View.sources c.args.view.now in
    plan_by sources c.args.system (plain_net c.args.net.now) c.requires.system c.requires.net
    ∙ ap (λ (n : Net). Some (planned_by sources c.args.system (plain_net n))) c.in-TooLarge.is

pub returns-in-Flat : goal.returns-in-Flat
returns-in-Flat g c =
    let sources = g.V.View.sources c.args.view.now in
    let planned =
    plan_by sources c.args.system (plain_net c.args.net.now) c.requires.system c.requires.net
    ∙ ap (λ (n : Net). Some (planned_by sources c.args.system (plain_net n))) c.in-Flat.is in
    IfOk-weaker c.plan_flat.result _ _ (λ deploy is. planned ∙ ap (λ (p : PlainDeploy). Some p) (sym is)) c.plan_flat.ensures
