use Rattle.std.proofs.{Common.{◌≡◌, ◌++◌, ◌∙◌, ap, map}, lemmas.Result.{on_ok_weaker}}
use Rattle.std.specs.List.{flat_map}
use Rattle.fb_tree.specs.Tree.{network_tree}
use Rattle.fb_iface.specs.{Declarations.{space_duplicates}, Spaces.{network_spaces}}
use Rattle.fb_iface.proofs.TreeLemmas.{system_joined}
use Rattle.fb_iface.proofs.repeats.report_in_system.Goals as goal

pub returns : goal.returns
returns c =
    let system = c.args.system.now in
    let old = c.args.found.now.items in
    let first : c.report_repeated.new.found.items ≡ old ++ space_duplicates (map (λ a. a.name) system.applications.items) = c.in_ok-report_repeated.ensures ∙ ap (λ l. old ++ space_duplicates (map (λ a. a.name) l)) c.as_slice.ensures.value in
    let second : c.report_in_applications.new.found.items ≡ (old ++ space_duplicates (map (λ a. a.name) system.applications.items)) ++ flat_map (λ a. flat_map space_duplicates (network_spaces (network_tree a.network))) system.applications.items = c.in_ok-report_in_applications.ensures ∙ (λ i. first i ++ flat_map (λ a. flat_map space_duplicates (network_spaces (network_tree a.network))) (c.as_slice-2.ensures.value i)) in
    let third : c.report_repeated-2.new.found.items ≡ ((old ++ space_duplicates (map (λ a. a.name) system.applications.items)) ++ flat_map (λ a. flat_map space_duplicates (network_spaces (network_tree a.network))) system.applications.items) ++ space_duplicates (map (λ d. d.name) system.devices.items) = c.in_ok-report_repeated-2.ensures ∙ (λ i. second i ++ space_duplicates (map (λ d. d.name) (c.as_slice-3.ensures.value i))) in
    on_ok_weaker c.report_in_devices.result
    (λ e. e
    ∙ (λ i. third i ++ flat_map (λ d. space_duplicates (map (λ r. r.name) d.resources.items)) (c.as_slice-4.ensures.value i))
    ∙ system_joined old system)
    c.report_in_devices.ensures
