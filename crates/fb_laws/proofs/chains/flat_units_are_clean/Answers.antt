pub returns : Rattle.fb_laws.proofs.chains.flat_units_are_clean.Goals.returns
returns c = Rattle.fb_laws.proofs.FlatUnits.flat_clean
