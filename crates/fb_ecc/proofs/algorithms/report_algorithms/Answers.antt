use Rattle.std.proofs.{Common.{◌≡◌, ◌++◌, ◌∙◌, ℕ, List, map, ap, nat_eq}, lemmas.Result.{on_ok_weaker}}
use Rattle.std.specs.{HashSet.{contains}, List.{flat_map}, Cmp.Lexicographic.{pointwise}}
use Rattle.fb_tree.specs.Tree.{state_tree}
use Rattle.fb_iface.specs.Names.{has_name}
use Rattle.fb_ecc.specs.Algorithms.{run_faults}
use Rattle.fb_ecc.proofs.TreeLemmas.{algorithms_joined}
use Rattle.fb_ecc.proofs.algorithms.report_algorithms.Goals as goal

pub returns : goal.returns
returns c =
    let chart = c.args.chart.now in
    let old = c.args.found.now.items in
    let declared = contains (pointwise nat_eq) c.in_ok-declared.declared in
    let known : (name : List ℕ) → declared name ≡ has_name (map (λ a. a.name) chart.algorithms.items) name = λ name. c.in_ok-declared.ensures name ∙ ap (λ l. has_name (map (λ a. a.name) l) name) c.as_slice.ensures.value in
    on_ok_weaker c.report_run.result
    (λ e. e
    ∙ (λ i. old ++ flat_map (λ s. flat_map (run_faults declared) (state_tree s).actions) (c.as_slice-2.ensures.value i))
    ∙ ap (λ l. old ++ l) (algorithms_joined chart declared known))
    c.report_run.ensures
