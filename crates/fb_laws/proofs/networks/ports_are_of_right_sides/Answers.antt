pub returns : Rattle.fb_laws.proofs.networks.ports_are_of_right_sides.Goals.returns
returns c = Rattle.fb_laws.proofs.NetworkRows.of_right_sides
