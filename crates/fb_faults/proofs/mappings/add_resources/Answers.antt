use Rattle.std.proofs.{Common.{◌≡◌, ◌+◌, ◌<◌, ◌&&◌, ◌||◌, [], ◌∷◌, ◌++◌, true, ap, subst, sym, ◌∙◌, length, map, take, arith}, lemmas.Grind.{common_steps}}
use Rattle.std.proofs.lemmas.List.{map-append, take_all}
use Rattle.std.specs.BTreeSet.{contains, Updates}
use Rattle.fb_tree.specs.declared.system.Resource.{Resource}
use Rattle.fb_netcheck.specs.Iface.Names.{has_name, is_same}
use Rattle.fb_faults.specs.Pairs.{pair_cmp}
use Rattle.fb_faults.proofs.MappingLemmas.{added, none_added}
use Rattle.fb_faults.proofs.mappings.add_resources.Goals as goal

pub loop-resource-init : goal.loop-resource-init
loop-resource-init c = λ name resource. none_added (contains pair_cmp c.args.resources.now (name, resource)) (is_same c.args.device.now name)

pub loop-resource-preserved : goal.loop-resource-preserved
loop-resource-preserved c =
    let own = c.args.own.now in
    let i = c.loop-resource.resource-index in
    let x = c.resource-item.result in
    let within : i < length own = omega arith in
    let more : take (i + 1) own ≡ take i own ++ x ∷ [] = grind (arith, common_steps) in
    let named : map (λ (r : Resource). r.name) (take (i + 1) own) ≡ map (λ (r : Resource). r.name) (take i own) ++ x.name ∷ [] = ap (map (λ (r : Resource). r.name)) more ∙ map-append (λ (r : Resource). r.name) (take i own) (x ∷ []) in
    λ name resource.
    added c.args.device.now (map (λ (r : Resource). r.name) (take i own)) x.name c.args.resources.now c.loop-resource.resources c.insert.new.self c.loop-resource.invariant (subst (λ n. Updates pair_cmp c.loop-resource.resources c.insert.new.self (c.args.device.now, n) true) c.name.ensures c.in_ok-insert.ensures.updates) name resource
    ∙ ap (λ l. contains pair_cmp c.args.resources.now (name, resource) || (is_same c.args.device.now name && has_name l resource)) (sym named)

pub returns : goal.returns
returns c =
    λ name resource.
    c.loop-resource.invariant name resource
    ∙ ap (λ l. contains pair_cmp c.args.resources.now (name, resource) || (is_same c.args.device.now name && has_name (map (λ (r : Resource). r.name) l) resource)) (take_all c.loop-resource.resource-index c.args.own.now (omega arith))
