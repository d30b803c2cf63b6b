-- The faults in their order, and those of a broken text.
use Rattle.std.proofs.Common.{◌∙◌}
use Rattle.std.specs.Option.{option_and_then}
use Rattle.fb_tree.proofs.Text.OrderLemmas.{in_order-members, in_order-sorted}
use Rattle.fb_netcheck.specs.{Library.View.{tree_in, tree_of}, Iface.Fault.{fault_cmp, fault_cmp_total, faults_in_order}}
use Rattle.fb_netcheck.proofs.Iface.FaultLemmas.{fault_cmp-exact}
use Rattle.fb_faults.specs.Faults.{BrokenTextsHaveOneFault, FaultsAreInOrder, FaultsAreThoseReported, all_reported, body_faults, reported_of, text_faults}

pub in_order : FaultsAreInOrder
in_order sources unit = in_order-sorted fault_cmp fault_cmp_total (reported_of sources unit)

pub those_reported : FaultsAreThoseReported
those_reported sources unit fault = in_order-members fault_cmp fault_cmp_total fault_cmp-exact (reported_of sources unit) fault

-- a broken text declares nothing
pub broken_alone : BrokenTextsHaveOneFault
broken_alone sources unit text span there broken =
    (λ i. faults_in_order (all_reported sources unit (text_faults (there i)) (option_and_then tree_of (there i))))
    ∙ (λ i. faults_in_order (all_reported sources unit (body_faults (broken i)) (tree_in (broken i))))
