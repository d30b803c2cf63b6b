pub returns : Rattle.fb_laws.proofs.units.mappings_have_homes.Goals.returns
returns c = Rattle.fb_laws.proofs.MappingRows.have_homes
