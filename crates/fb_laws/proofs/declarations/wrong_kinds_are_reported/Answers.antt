pub returns : Rattle.fb_laws.proofs.declarations.wrong_kinds_are_reported.Goals.returns
returns c = Rattle.fb_laws.proofs.DeclarationRows.wrong_kinds
