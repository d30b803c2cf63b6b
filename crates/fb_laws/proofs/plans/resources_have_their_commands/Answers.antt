pub returns : Rattle.fb_laws.proofs.plans.resources_have_their_commands.Goals.returns
returns c = Rattle.fb_laws.proofs.CommandRows.resources_have
