pub returns : Rattle.fb_laws.proofs.units.whole_texts_are_not_reported.Goals.returns
returns c = Rattle.fb_laws.proofs.PartLemmas.whole_not_reported
