-- The instances of the unit stand in its table, or are put there.
use Rattle.std.proofs.Common.{ℕ, ◌≡◌, List, Option, sym, ◌∙◌, ap}
use Rattle.std.specs.{Prelude.{option_map}, BTreeMap.{get, is_at}, Map.{lookup}}
use Rattle.fb_tree.specs.{Text.Order.{name_cmp}, Tree.{InstanceTree}}
use Rattle.fb_library.specs.View.{Sources, tree_at}
use Rattle.fb_placing.specs.Resolver.{ResolverView}
use Rattle.fb_placing.specs.Resolved.{PlainResolved, inner_instances, instance_called, plain_resolved, resolved_among, resolved_in, resolved_inside}
use Rattle.fb_placing.specs.Tables.{Instances, instance_at}
use Rattle.fb_placing.proofs.InstanceLemmas.{among_called, one_added}
use Rattle.fb_placing.proofs.paths.resolver.Resolver.inside.Goals as goal

in_table : (a b : Sources) (unit name : List ℕ) (outer : PlainResolved) (table : Instances) → a ≡ b → unit ≡ outer.instance.type_name.name → instance_at table ≡ instance_called (inner_instances (tree_at a unit)) → option_map (resolved_in unit) (instance_at table name) ≡ resolved_inside b name outer
in_table a b unit name outer table same is right =
    ap (λ (at : List ℕ → Option InstanceTree). option_map (resolved_in unit) (at name)) right
    ∙ sym (among_called unit (inner_instances (tree_at a unit)) name)
    ∙ (λ i. resolved_among (is i) (inner_instances (tree_at (same i) (is i))) name)

pub returns-in-Some-clause-found : goal.returns-in-Some-clause-found
returns-in-Some-clause-found g c =
    let unit : List ℕ = c.name-unit.result in
    let table : Instances = c.in-Some.instances.now in
    c.resolved_among.ensures
    ∙ in_table (g.V.View.sources c.self.inside.view.now) c.args.self.now.sources unit c.args.name.now (plain_resolved c.args.outer.now) table
    (ap (λ (r : ResolverView). r.sources) c.self.view_is) c.name-unit.ensures (c.self.invariant.units unit table (sym c.in-Some.ensures.value))

pub returns-clause-found : goal.returns-clause-found
returns-clause-found g c =
    c.resolved_among-found.ensures
    ∙ in_table (g.V.View.sources c.self.inside.view.now) c.args.self.now.sources c.name-unit.result c.args.name.now (plain_resolved c.args.outer.now) c.in_ok-instances.instances
    (ap (λ (r : ResolverView). r.sources) c.self.view_is) c.name-unit.ensures (c.in_ok-instances.ensures ∙ ap instance_called c.instances_of.ensures)

pub invariant_of-self : goal.invariant_of-self
invariant_of-self g c = record {
  applications = c.self.invariant.applications;
  units = λ unit table there. c.self.invariant.units unit table (ap (lookup (is_at (name_cmp unit))) (sym c.in_err-insert.ensures.err) ∙ there);
  last = c.self.invariant.last;
}

pub invariant_of-self-2 : goal.invariant_of-self-2
invariant_of-self-2 g c = record {
  applications = c.self.invariant.applications;
  units = one_added (λ (unit : List ℕ) (table : Instances). instance_at table ≡ instance_called (inner_instances (tree_at (g.V.View.sources c.self.inside.view.now) unit)))
      c.name-unit.result c.in_ok-instances.instances (get name_cmp c.self.inside.units) (get name_cmp c.insert.new.self) c.self.invariant.units
      (c.in_ok-instances.ensures ∙ ap instance_called c.instances_of.ensures) c.in_ok-insert.ensures.updates.0;
  last = c.self.invariant.last;
}
