pub returns : Rattle.fb_laws.proofs.units.codes_are_of_their_parts.Goals.returns
returns c = Rattle.fb_laws.proofs.PartLemmas.of_their_parts
