use Rattle.std.proofs.Common.{◌++◌, ◌<◌, ◌∙◌, arith, length}
use Rattle.std.specs.BTreeSet.{contains}
use Rattle.fb_tree.specs.{Tree.{mapping_tree}, declared.system.Mapping.{Mapping}}
use Rattle.fb_netcheck.proofs.JoinLemmas.{flat_map_next}
use Rattle.fb_faults.specs.{Mappings.{home_faults}, Pairs.{pair_cmp}}
use Rattle.fb_faults.proofs.mappings.report_homes.Goals as goal

pub loop-mapping-preserved : goal.loop-mapping-preserved
loop-mapping-preserved c =
    let judged = λ (m : Mapping). home_faults (contains pair_cmp c.args.resources.now (m.device.name, m.resource.name)) (mapping_tree m) in
    let mappings = c.args.mappings.now in
    let i = c.loop-mapping.mapping-index in
    let x = c.mapping-item.result in
    let within : i < length mappings = omega arith in
    let known = c.contains.ensures ∙ (λ k. contains pair_cmp c.args.resources.now (c.name.ensures k, c.name-in-loop-mapping.ensures k)) in
    c.in_ok-report_home.ensures
    ∙ (λ k. c.loop-mapping.invariant k ++ home_faults (known k) (mapping_tree x))
    ∙ flat_map_next judged c.args.found.now.items mappings i x within c.mapping-item.is
