-- By the kind of the tree.
use Rattle.std.proofs.Common.{sym, ◌∙◌, ap}
use Rattle.fb_placing.specs.Tree.Tree.{decl_tree}
use Rattle.fb_flatten.specs.Tables.{is_system_in}
use Rattle.fb_mapping.proofs.KindLemmas.{no_system, system_kind}
use Rattle.fb_mapping.proofs.systems.is_system.Goals as goal

pub returns-in-Some : goal.returns-in-Some
returns-in-Some g c = record {
  is = system_kind (g.V.View.sources c.args.view.now) c.args.unit.now (decl_tree c.in-Some.decl.now) c.is_of_system.result (sym c.in-Some.ensures) c.is_of_system.ensures;
  told = c.is_of_system.ensures ∙ ap is_system_in c.in-Some.ensures;
}

pub returns-in-None : goal.returns-in-None
returns-in-None g c = record {
  is = no_system (g.V.View.sources c.args.view.now) c.args.unit.now (sym c.in-None.ensures);
  told = ap is_system_in c.in-None.ensures;
}
