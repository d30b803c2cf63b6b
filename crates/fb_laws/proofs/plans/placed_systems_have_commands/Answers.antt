pub returns : Rattle.fb_laws.proofs.plans.placed_systems_have_commands.Goals.returns
returns c = Rattle.fb_laws.proofs.PlanRows.have_commands
