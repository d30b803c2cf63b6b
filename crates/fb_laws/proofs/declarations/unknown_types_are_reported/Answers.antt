pub returns : Rattle.fb_laws.proofs.declarations.unknown_types_are_reported.Goals.returns
returns c = Rattle.fb_laws.proofs.DeclarationRows.unknown_types
