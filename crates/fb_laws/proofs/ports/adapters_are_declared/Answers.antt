pub returns : Rattle.fb_laws.proofs.ports.adapters_are_declared.Goals.returns
returns c = Rattle.fb_laws.proofs.ItemRows.adapters_declared
