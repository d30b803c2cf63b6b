pub returns : Rattle.fb_laws.proofs.spans.spans_lie_in_text.Goals.returns
returns c = Rattle.fb_laws.proofs.Standing.spans_lie_in_text
