use Rattle.fb_shared.proofs.shared.Shared.commit.Goals as goal

pub returns-clause-performs : goal.returns-clause-performs
returns-clause-performs g c = (c.hold-hold.result.state.value, c.hold-hold.ensures, (c.commit-answer.new.self, rw c.deref_mut.ensures.value at c.commit-answer.ensures.performs))
