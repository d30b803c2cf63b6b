pub returns : Rattle.fb_laws.proofs.ports.instances_stand_for_first.Goals.returns
returns c = Rattle.fb_laws.proofs.ItemRows.instances_stand
