-- The count tells whether there is a flat network.
use Rattle.std.proofs.{Common.{[]}, lemmas.List.Elements.{All-nil, All-same, All-weaker}}
use Rattle.std.specs.BTreeMap.{get}
use Rattle.fb_types.proofs.FoundUnits.{not_too_large, too_large}
use Rattle.fb_types.specs.Text.Order.{name_cmp}
use Rattle.fb_flatten.specs.Inner.{IsCountedFlat, IsInnerNet}
use Rattle.fb_flatten.proofs.InnerNets.{inner_net}
use Rattle.fb_flatten.proofs.computing.compute_in_order.Goals as goal

pub counts_below-requires-clause-sound : goal.counts_below-requires-clause-sound
counts_below-requires-clause-sound g c = c.requires.order.names.sound _ c.requires.order.own

pub instances_of_unit-instances-requires-clause-sound : goal.instances_of_unit-instances-requires-clause-sound
instances_of_unit-instances-requires-clause-sound g c = c.requires.order.names.sound _ c.requires.order.own

pub returns-then-instances-gt-INSTANCE_LIMIT : goal.returns-then-instances-gt-INSTANCE_LIMIT
returns-then-instances-gt-INSTANCE_LIMIT g c =
    let sources = g.V.View.sources c.args.view.now in
    let unit = c.args.unit.now in
    record {
      net = rw c.alone.ensures.net (c.requires.order.names.sound _ c.requires.order.own, too_large c.instances_of_unit-instances.ensures c.if-instances-gt-INSTANCE_LIMIT.true);
      inner = All-same (IsInnerNet sources unit) c.alone.result.inner.items [] c.alone.ensures.inner (All-nil (IsInnerNet sources unit));
    }

pub flat_of_unit-requires-clause-small : goal.flat_of_unit-requires-clause-small
flat_of_unit-requires-clause-small g c = not_too_large c.instances_of_unit-instances.ensures c.if-instances-gt-INSTANCE_LIMIT.false

pub returns : goal.returns
returns g c =
    let sources = g.V.View.sources c.args.view.now in
    let unit = c.args.unit.now in
    let flats = get name_cmp c.in_ok-flat.field-0.flats in
    let counts = get name_cmp c.in_ok-counts.counts in
    record {
      net = (c.requires.order.names.sound _ c.requires.order.own, not_too_large c.instances_of_unit-instances.ensures c.if-instances-gt-INSTANCE_LIMIT.false, c.in_ok-flat.ensures.flat);
      inner =
          All-weaker (IsCountedFlat flats counts) (IsInnerNet sources unit)
          (inner_net c.requires.order flats counts c.in_ok-counts.ensures.right c.in_ok-flat.ensures.finished c.in_ok-flat.ensures.missing)
          c.in_ok-inner.inner.items c.in_ok-inner.ensures;
    }
