pub returns : Rattle.fb_laws.proofs.plans.blocks_are_made_where_mapped.Goals.returns
returns c = record { made = Rattle.fb_laws.proofs.PathRows.made_where_mapped; all = Rattle.fb_laws.proofs.PathRows.all_made; only = Rattle.fb_laws.proofs.PathRows.only_made }
