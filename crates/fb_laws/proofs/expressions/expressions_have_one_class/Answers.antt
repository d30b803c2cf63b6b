pub returns : Rattle.fb_laws.proofs.expressions.expressions_have_one_class.Goals.returns
returns c = Rattle.fb_laws.proofs.ClassRows.one_class
