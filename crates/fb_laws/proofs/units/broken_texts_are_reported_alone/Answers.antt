pub returns : Rattle.fb_laws.proofs.units.broken_texts_are_reported_alone.Goals.returns
returns c = Rattle.fb_laws.proofs.PartLemmas.broken_reported_alone
