pub returns : Rattle.fb_laws.proofs.networks.nothing_passes_through.Goals.returns
returns c = Rattle.fb_laws.proofs.NetworkRows.passes_nothing
