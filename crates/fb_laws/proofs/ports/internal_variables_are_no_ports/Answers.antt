pub returns : Rattle.fb_laws.proofs.ports.internal_variables_are_no_ports.Goals.returns
returns c = Rattle.fb_laws.proofs.PortRows.internal
