pub returns : Rattle.fb_laws.proofs.units.parts_have_own_codes.Goals.returns
returns c = Rattle.fb_laws.proofs.PartLemmas.own_codes
