pub returns : Rattle.fb_laws.proofs.plans.links_are_cut_or_made.Goals.returns
returns c = Rattle.fb_laws.proofs.PlanRows.cut_or_made
