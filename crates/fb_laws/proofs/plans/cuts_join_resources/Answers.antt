pub returns : Rattle.fb_laws.proofs.plans.cuts_join_resources.Goals.returns
returns c = Rattle.fb_laws.proofs.PlanRows.cuts_join
