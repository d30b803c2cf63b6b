pub returns : Rattle.fb_laws.proofs.plans.homes_have_commands.Goals.returns
returns c = Rattle.fb_laws.proofs.PlanRows.homes_have
