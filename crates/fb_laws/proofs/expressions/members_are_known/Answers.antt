pub returns : Rattle.fb_laws.proofs.expressions.members_are_known.Goals.returns
returns c = Rattle.fb_laws.proofs.VariableRows.members
