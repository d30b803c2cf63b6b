pub returns : Rattle.fb_laws.proofs.networks.ports_are_known.Goals.returns
returns c = Rattle.fb_laws.proofs.NetworkRows.ports_known
