pub returns : Rattle.fb_laws.proofs.units.constants_are_of_two_parts.Goals.returns
returns c = Rattle.fb_laws.proofs.PartLemmas.of_two_parts
