pub returns : Rattle.fb_laws.proofs.declarations.recursive_structures_are_reported.Goals.returns
returns c = Rattle.fb_laws.proofs.DeclarationRows.recursive_structures
