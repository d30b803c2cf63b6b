use Rattle.fb_iface.proofs.FaultLemmas.{fault_cmp-exact}
use Rattle.fb_iface.proofs.fault.sorted_faults.Goals as goal

pub sorted_once-requires : goal.sorted_once-requires
sorted_once-requires c = fault_cmp-exact
