use Rattle.fb_library.proofs.FarLemmas.{one_list}
use Rattle.fb_library.proofs.laws.far_is_one_list.Goals as goal

pub returns : goal.returns
returns c = one_list
