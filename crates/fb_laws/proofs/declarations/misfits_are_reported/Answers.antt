pub returns : Rattle.fb_laws.proofs.declarations.misfits_are_reported.Goals.returns
returns c = Rattle.fb_laws.proofs.DeclarationRows.misfits_reported
