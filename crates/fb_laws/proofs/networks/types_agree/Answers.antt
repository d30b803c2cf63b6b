pub returns : Rattle.fb_laws.proofs.networks.types_agree.Goals.returns
returns c = Rattle.fb_laws.proofs.NetworkRows.of_one_type
