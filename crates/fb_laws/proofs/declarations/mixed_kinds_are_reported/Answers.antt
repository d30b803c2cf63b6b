pub returns : Rattle.fb_laws.proofs.declarations.mixed_kinds_are_reported.Goals.returns
returns c = Rattle.fb_laws.proofs.DeclarationRows.mixed_kinds
