pub returns : Rattle.fb_laws.proofs.plans.ends_have_one_home.Goals.returns
returns c = Rattle.fb_laws.proofs.PlannedLemmas.one_end_home
