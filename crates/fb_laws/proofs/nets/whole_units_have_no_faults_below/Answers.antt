pub returns : Rattle.fb_laws.proofs.nets.whole_units_have_no_faults_below.Goals.returns
returns c = Rattle.fb_laws.proofs.MadeOf.whole_below
