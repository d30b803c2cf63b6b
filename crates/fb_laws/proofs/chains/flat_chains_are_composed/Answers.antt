pub returns-clause-links : Rattle.fb_laws.proofs.chains.flat_chains_are_composed.Goals.returns-clause-links
returns-clause-links c = Rattle.fb_laws.proofs.FlatUnits.link_chains

pub returns-clause-borders : Rattle.fb_laws.proofs.chains.flat_chains_are_composed.Goals.returns-clause-borders
returns-clause-borders c = Rattle.fb_laws.proofs.FlatUnits.border_chains
