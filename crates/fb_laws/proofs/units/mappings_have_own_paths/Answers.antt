pub returns : Rattle.fb_laws.proofs.units.mappings_have_own_paths.Goals.returns
returns c = Rattle.fb_laws.proofs.MappingRows.own_paths
