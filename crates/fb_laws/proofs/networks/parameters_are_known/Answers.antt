pub returns : Rattle.fb_laws.proofs.networks.parameters_are_known.Goals.returns
returns c = Rattle.fb_laws.proofs.NetworkRows.parameters_known
