pub returns : Rattle.fb_laws.proofs.ports.events_are_declared.Goals.returns
returns c = Rattle.fb_laws.proofs.ItemRows.events_declared
