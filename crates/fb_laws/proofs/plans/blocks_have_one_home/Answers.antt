pub returns : Rattle.fb_laws.proofs.plans.blocks_have_one_home.Goals.returns
returns c = Rattle.fb_laws.proofs.PlannedLemmas.one_home
