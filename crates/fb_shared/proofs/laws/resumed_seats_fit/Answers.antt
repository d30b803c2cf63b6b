use Rattle.fb_shared.proofs.Histories.{up_to_date}
use Rattle.fb_shared.proofs.laws.resumed_seats_fit.Goals as goal

pub returns : goal.returns
returns c = λ locked n seats are k seat at. up_to_date locked n seats k seat are at
