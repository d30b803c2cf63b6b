-- The laws of checkpoints.
use Rattle.fb_history.proofs.Restarts.{are_one, numbers_go_on, unseen}
use Rattle.fb_history.proofs.laws.checkpoints_are_unseen.Goals as goal

pub returns-clause-unseen : goal.returns-clause-unseen
returns-clause-unseen c = λ limits bench begins. unseen limits bench begins

pub returns-clause-one : goal.returns-clause-one
returns-clause-one c = λ first second bench begins. are_one first second bench begins

pub returns-clause-numbers : goal.returns-clause-numbers
returns-clause-numbers c = λ limits bench. numbers_go_on limits bench
