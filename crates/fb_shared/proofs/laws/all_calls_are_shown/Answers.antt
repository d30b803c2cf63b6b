use Rattle.fb_shared.proofs.Histories.{all_shown}
use Rattle.fb_shared.proofs.laws.all_calls_are_shown.Goals as goal

pub returns : goal.returns
returns c = λ bench receipts right caller enough number it. all_shown bench receipts caller number it right enough
