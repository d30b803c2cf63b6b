pub returns : Rattle.fb_laws.proofs.expressions.classes_are_right.Goals.returns
returns c = Rattle.fb_laws.proofs.ClassRows.right
