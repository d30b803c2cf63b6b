pub returns-clause-told : Rattle.fb_laws.proofs.nets.recursive_is_told.Goals.returns-clause-told
returns-clause-told c = Rattle.fb_laws.proofs.MadeOf.recursive_told

pub returns-clause-others : Rattle.fb_laws.proofs.nets.recursive_is_told.Goals.returns-clause-others
returns-clause-others c = Rattle.fb_laws.proofs.MadeOf.others_finite
