-- The adapter is added where there is one.
use Rattle.std.proofs.lemmas.Result.{on_ok_weaker}
use Rattle.std.specs.BTreeMap.{get}
use Rattle.fb_tree.specs.Text.Order.{name_cmp}
use Rattle.fb_types.proofs.TableLemmas.{adapter_is, adapter_none, grows_none}
use Rattle.fb_types.proofs.tables.add_adapter_of.Goals as goal

pub returns-in-Some-clause-has : goal.returns-in-Some-clause-has
returns-in-Some-clause-has g c =
    on_ok_weaker c.add_adapter.result (λ has. adapter_is (g.V.View.sources c.args.view.now) (get name_cmp c.add_adapter.new.table) c.args.port.now.adapter c.in-Some.adapter c.in-Some.is has) c.add_adapter.ensures.has

pub returns-in-None-clause-grows : goal.returns-in-None-clause-grows
returns-in-None-clause-grows g c = grows_none c.requires

pub returns-in-None-clause-has : goal.returns-in-None-clause-has
returns-in-None-clause-has g c = adapter_none (g.V.View.sources c.args.view.now) (get name_cmp c.args.table.now) c.args.port.now.adapter c.in-None.is
