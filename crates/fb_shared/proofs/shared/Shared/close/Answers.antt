use Rattle.fb_shared.proofs.shared.Shared.close.Goals as goal

pub returns-in-Err-clause-fault : goal.returns-in-Err-clause-fault
returns-in-Err-clause-fault c = rw (← c.self.view_is) (c.into_inner.result.bench, c.in-Err.ensures.fault)
