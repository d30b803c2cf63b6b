pub returns : Rattle.fb_laws.proofs.charts.states_are_listed.Goals.returns
returns c = Rattle.fb_laws.proofs.ChartRows.states_listed
