pub returns : Rattle.fb_laws.proofs.networks.adapters_have_one_end.Goals.returns
returns c = Rattle.fb_laws.proofs.NetworkRows.one_end
