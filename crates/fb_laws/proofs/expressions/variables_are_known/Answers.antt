pub returns : Rattle.fb_laws.proofs.expressions.variables_are_known.Goals.returns
returns c = Rattle.fb_laws.proofs.VariableRows.known
