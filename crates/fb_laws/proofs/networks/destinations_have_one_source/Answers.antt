pub returns : Rattle.fb_laws.proofs.networks.destinations_have_one_source.Goals.returns
returns c = Rattle.fb_laws.proofs.NetworkRows.one_source
