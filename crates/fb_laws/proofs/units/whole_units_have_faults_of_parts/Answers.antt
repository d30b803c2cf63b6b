pub returns : Rattle.fb_laws.proofs.units.whole_units_have_faults_of_parts.Goals.returns
returns c = Rattle.fb_laws.proofs.PartLemmas.whole_units
