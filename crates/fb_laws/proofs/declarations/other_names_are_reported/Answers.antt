pub returns : Rattle.fb_laws.proofs.declarations.other_names_are_reported.Goals.returns
returns c = Rattle.fb_laws.proofs.DeclarationRows.other_names
