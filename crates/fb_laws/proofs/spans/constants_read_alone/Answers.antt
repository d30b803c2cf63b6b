pub returns : Rattle.fb_laws.proofs.spans.constants_read_alone.Goals.returns
returns c = Rattle.fb_laws.proofs.Alone.constants_read_alone
