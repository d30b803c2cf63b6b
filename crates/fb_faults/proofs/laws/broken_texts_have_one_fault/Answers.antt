use Rattle.fb_faults.proofs.OrderLemmas.{broken_alone}
use Rattle.fb_faults.proofs.laws.broken_texts_have_one_fault.Goals as goal

pub returns : goal.returns
returns c = broken_alone
