pub returns : Rattle.fb_laws.proofs.networks.parameters_fit.Goals.returns
returns c = Rattle.fb_laws.proofs.NetworkRows.parameters_fit
