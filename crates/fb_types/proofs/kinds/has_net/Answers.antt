-- By the kind of the tree.
use Rattle.std.proofs.Common.{sym, ◌∙◌, ap}
use Rattle.fb_tree.specs.Tree.{decl_tree}
use Rattle.fb_types.specs.Units.{has_net_in}
use Rattle.fb_types.proofs.KindLemmas.{net_kind, no_net_kind}
use Rattle.fb_types.proofs.kinds.has_net.Goals as goal

pub returns-in-Some : goal.returns-in-Some
returns-in-Some g c = record {
  is = net_kind (g.V.View.sources c.args.view.now) c.args.unit.now (decl_tree c.in-Some.decl.now) c.is_of_net.result (sym c.in-Some.ensures) c.is_of_net.ensures;
  told = c.is_of_net.ensures ∙ ap has_net_in c.in-Some.ensures;
}

pub returns-in-None : goal.returns-in-None
returns-in-None g c = record {
  is = no_net_kind (g.V.View.sources c.args.view.now) c.args.unit.now (sym c.in-None.ensures);
  told = ap has_net_in c.in-None.ensures;
}
