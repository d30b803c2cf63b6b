-- Joining what sections hold, one section after the other.
use Rattle.std.proofs.{Common.{◌≡◌, Bool, true, false, ◌||◌, List, [], ◌∷◌, ◌++◌, map, refl, ap, ◌∙◌, append_assoc}, lemmas.List.{append-nil, map_push}}
use Rattle.fb_tree.proofs.Text.Tests.{or_assoc}
use Rattle.fb_tree.specs.Tree.{InterfaceTree, NetworkTree, ChartTree}
use Rattle.fb_parse.specs.declared.contents.Contents.{Contents}
use Rattle.fb_parse.specs.Contents.{ContentsTree, contents_tree, no_interface, no_network, no_chart, nothing, interfaces_merged, networks_merged, charts_merged, merged, joined}
use Rattle.fb_parse.specs.declared.system.SystemContents.{SystemContents}
use Rattle.fb_parse.specs.SystemContents.{SystemContentsTree, system_contents_tree, systems_merged, system_joined}

or_none : (a : Bool) → (a || false) ≡ a
or_none true = refl
or_none false = refl

interfaces_assoc : (a b c : InterfaceTree) → interfaces_merged a (interfaces_merged b c) ≡ interfaces_merged (interfaces_merged a b) c
interfaces_assoc a b c = rw (append_assoc a.events b.events c.events, append_assoc a.variables b.variables c.variables) refl

networks_assoc : (a b c : NetworkTree) → networks_merged a (networks_merged b c) ≡ networks_merged (networks_merged a b) c
networks_assoc a b c =
    rw (append_assoc a.instances b.instances c.instances, append_assoc a.connections b.connections c.connections, or_assoc a.is_written b.is_written c.is_written) refl

charts_assoc : (a b c : ChartTree) → charts_merged a (charts_merged b c) ≡ charts_merged (charts_merged a b) c
charts_assoc a b c =
    rw (append_assoc a.states b.states c.states, append_assoc a.transitions b.transitions c.transitions, append_assoc a.algorithms b.algorithms c.algorithms, or_assoc a.is_written b.is_written c.is_written) refl

merged_assoc : (a b c : ContentsTree) → merged a (merged b c) ≡ merged (merged a b) c
merged_assoc a b c =
    rw (interfaces_assoc a.interface b.interface c.interface, networks_assoc a.network b.network c.network, charts_assoc a.chart b.chart c.chart) refl

no_interface_behind : (a : InterfaceTree) → interfaces_merged a no_interface ≡ a
no_interface_behind a = rw (append-nil a.events, append-nil a.variables) refl

no_network_behind : (a : NetworkTree) → networks_merged a no_network ≡ a
no_network_behind a = rw (append-nil a.instances, append-nil a.connections, or_none a.is_written) refl

no_chart_behind : (a : ChartTree) → charts_merged a no_chart ≡ a
no_chart_behind a = rw (append-nil a.states, append-nil a.transitions, append-nil a.algorithms, or_none a.is_written) refl

nothing_behind : (a : ContentsTree) → merged a nothing ≡ a
nothing_behind a = rw (no_interface_behind a.interface, no_network_behind a.network, no_chart_behind a.chart) refl

joined_push : (sections : List ContentsTree) (section : ContentsTree) → joined (sections ++ section ∷ []) ≡ merged (joined sections) section
joined_push [] section = nothing_behind section
joined_push (first ∷ others) section = ap (merged first) (joined_push others section) ∙ merged_assoc first (joined others) section

pub joined_of_push : (sections : List Contents) (section : Contents) → joined (map contents_tree (sections ++ section ∷ [])) ≡ merged (joined (map contents_tree sections)) (contents_tree section)
joined_of_push sections section = ap joined (map_push contents_tree sections section) ∙ joined_push (map contents_tree sections) (contents_tree section)

systems_assoc : (a b c : SystemContentsTree) → systems_merged a (systems_merged b c) ≡ systems_merged (systems_merged a b) c
systems_assoc a b c =
    rw (append_assoc a.applications b.applications c.applications, append_assoc a.devices b.devices c.devices, append_assoc a.mappings b.mappings c.mappings) refl

no_system_behind : (a : SystemContentsTree) → systems_merged a (system_joined []) ≡ a
no_system_behind a = rw (append-nil a.applications, append-nil a.devices, append-nil a.mappings) refl

system_joined_push : (sections : List SystemContentsTree) (section : SystemContentsTree) → system_joined (sections ++ section ∷ []) ≡ systems_merged (system_joined sections) section
system_joined_push [] section = no_system_behind section
system_joined_push (first ∷ others) section = ap (systems_merged first) (system_joined_push others section) ∙ systems_assoc first (system_joined others) section

pub system_joined_of_push : (sections : List SystemContents) (section : SystemContents) → system_joined (map system_contents_tree (sections ++ section ∷ [])) ≡ systems_merged (system_joined (map system_contents_tree sections)) (system_contents_tree section)
system_joined_of_push sections section = ap system_joined (map_push system_contents_tree sections section) ∙ system_joined_push (map system_contents_tree sections) (system_contents_tree section)
