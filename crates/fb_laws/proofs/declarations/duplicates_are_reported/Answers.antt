pub returns : Rattle.fb_laws.proofs.declarations.duplicates_are_reported.Goals.returns
returns c = Rattle.fb_laws.proofs.DeclarationRows.duplicates
