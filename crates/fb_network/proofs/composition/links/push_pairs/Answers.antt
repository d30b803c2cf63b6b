-- The pairs are links more.
use Rattle.std.proofs.{Common.{refl}, lemmas.Result.{on_ok_weaker}}
use Rattle.fb_network.proofs.Connections.{adds_pairs}
use Rattle.fb_network.proofs.composition.links.push_pairs.Goals as goal

pub returns : goal.returns
returns c = on_ok_weaker c.push_join_pairs.result (λ is. adds_pairs c.args.draft.now _ c.args.sort c.args.froms.now c.args.tos.now c.requires.froms c.requires.tos refl refl is) c.push_join_pairs.ensures
