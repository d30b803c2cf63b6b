-- The law of each entry, and of refusals.
use Rattle.fb_history.proofs.{AfterCalls.{begins_empty, entry_is, refused_stays}, Restarts.{goes_on}}
use Rattle.fb_history.proofs.laws.entries_follow_the_texts.Goals as goal

pub returns-clause-entries : goal.returns-clause-entries
returns-clause-entries c = λ origin begins calls key. entry_is origin calls key begins

pub returns-clause-begins : goal.returns-clause-begins
returns-clause-begins c = λ most_units. begins_empty most_units

pub returns-clause-goes_on : goal.returns-clause-goes_on
returns-clause-goes_on c = λ limits bench begins. goes_on limits bench begins

pub returns-clause-refused : goal.returns-clause-refused
returns-clause-refused c = λ state call refused. refused_stays state call refused
