pub returns : Rattle.fb_laws.proofs.charts.algorithms_are_declared.Goals.returns
returns c = Rattle.fb_laws.proofs.ChartRows.algorithms_declared
