-- One port further.
use Rattle.std.proofs.{Common.{List, subst, take}, lemmas.List.{take_all}}
use Rattle.std.specs.BTreeMap.{get}
use Rattle.fb_tree.specs.Text.Order.{name_cmp}
use Rattle.fb_network.specs.declared.network.Port.{Port}
use Rattle.fb_types.specs.Tables.{HasAdapters}
use Rattle.fb_types.proofs.TableLemmas.{adapters_kept, adapters_more, adapters_nothing, further, grows_both, grows_none}
use Rattle.fb_types.proofs.tables.add_adapters.Goals as goal

pub loop-port-init : goal.loop-port-init
loop-port-init g c = record { grows = grows_none c.requires; has = adapters_nothing (g.V.View.sources c.args.view.now) (get name_cmp c.args.table.now) }

pub add_adapter_of-requires : goal.add_adapter_of-requires
add_adapter_of-requires g c = c.loop-port.invariant.grows.is_true

pub loop-port-preserved : goal.loop-port-preserved
loop-port-preserved g c =
    let ports = c.args.ports.now in
    let i = c.loop-port.port-index in
    let port = c.port-item.result in
    record {
      grows = grows_both c.loop-port.invariant.grows c.in_ok-add_adapter_of.ensures.grows;
      has = subst (λ (l : List Port). HasAdapters (g.V.View.sources c.args.view.now) (get name_cmp c.add_adapter_of.new.table) l)
          (further ports i port c.loop-port-test.true c.port-item.is)
          (adapters_more (g.V.View.sources c.args.view.now) (get name_cmp c.add_adapter_of.new.table) (take i ports) port (adapters_kept (take i ports) c.in_ok-add_adapter_of.ensures.grows c.loop-port.invariant.has) c.in_ok-add_adapter_of.ensures.has);
    }

pub returns-clause-has : goal.returns-clause-has
returns-clause-has g c =
    subst (λ (l : List Port). HasAdapters (g.V.View.sources c.args.view.now) (get name_cmp c.loop-port.table) l)
    (take_all c.loop-port.port-index c.args.ports.now c.loop-port-test.false)
    c.loop-port.invariant.has
