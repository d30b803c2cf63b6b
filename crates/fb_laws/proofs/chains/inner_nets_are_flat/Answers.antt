pub returns-clause-nets : Rattle.fb_laws.proofs.chains.inner_nets_are_flat.Goals.returns-clause-nets
returns-clause-nets c = Rattle.fb_laws.proofs.FlatUnits.inner_nets

pub returns-clause-borders : Rattle.fb_laws.proofs.chains.inner_nets_are_flat.Goals.returns-clause-borders
returns-clause-borders c = Rattle.fb_laws.proofs.FlatUnits.inner_borders
