pub returns : Rattle.fb_laws.proofs.declarations.unknown_withs_are_reported.Goals.returns
returns c = Rattle.fb_laws.proofs.DeclarationRows.unknown_withs
