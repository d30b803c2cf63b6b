pub returns : Rattle.fb_laws.proofs.charts.events_are_known.Goals.returns
returns c = Rattle.fb_laws.proofs.ChartRows.events_known
