use Rattle.std.proofs.{Common.{◌≡◌, ◌++◌, ◌∙◌, ℕ, List, map, ap, nat_eq}, lemmas.Result.{on_ok_weaker}}
use Rattle.std.specs.{HashSet.{contains}, List.{flat_map}, Cmp.Lexicographic.{pointwise}}
use Rattle.fb_tree.specs.Tree.{transition_tree}
use Rattle.fb_iface.specs.Names.{has_name}
use Rattle.fb_ecc.specs.States.{transition_faults}
use Rattle.fb_ecc.proofs.TreeLemmas.{states_joined}
use Rattle.fb_ecc.proofs.states.report_states.Goals as goal

pub returns : goal.returns
returns c =
    let chart = c.args.chart.now in
    let old = c.args.found.now.items in
    let listed = contains (pointwise nat_eq) c.in_ok-listed.listed in
    let known : (name : List ℕ) → listed name ≡ has_name (map (λ s. s.name) chart.states.items) name = λ name. c.in_ok-listed.ensures name ∙ ap (λ l. has_name (map (λ s. s.name) l) name) c.as_slice.ensures.value in
    on_ok_weaker c.report_ends.result
    (λ e. e
    ∙ (λ i. old ++ flat_map (λ t. transition_faults listed (transition_tree t)) (c.as_slice-2.ensures.value i))
    ∙ ap (λ l. old ++ l) (states_joined chart listed known))
    c.report_ends.ensures
