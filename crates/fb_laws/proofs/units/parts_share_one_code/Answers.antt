pub returns : Rattle.fb_laws.proofs.units.parts_share_one_code.Goals.returns
returns c = Rattle.fb_laws.proofs.PartLemmas.one_shared
