use Rattle.std.proofs.{Common.{◌++◌, ◌∙◌, Some, ap, sym}, lemmas.Result.{on_ok_weaker}}
use Rattle.fb_tree.specs.Tree.{block_type, decl_tree, subapplication_type, system_configuration, system_tree, type_tree}
use Rattle.fb_tree.specs.declared.kinds.UnitKind.TheVariants.{Subapplication}
use Rattle.fb_netcheck.specs.{Parse.Body.{Whole}, Iface.Declarations.{declaration_faults}, Networks.{declared_faults, tree_faults, type_network}}
use Rattle.fb_expr.specs.Charts.{faults_in_unit}
use Rattle.fb_ecc.specs.Charts.{chart_faults_in}
use Rattle.fb_faults.specs.{Faults.{block_faults, reported_in}, Mappings.{system_mapping_faults}}
use Rattle.fb_faults.proofs.JoinLemmas.{block_joined, subapplication_joined, system_joined}
use Rattle.fb_faults.proofs.all.report_declared.Goals as goal

pub returns-in-Block : goal.returns-in-Block
returns-in-Block g c =
    let sources = g.V.View.sources c.args.view.now in
    let unit = c.args.unit.now in
    let old = c.args.found.now.items in
    let d = type_tree c.in-Block.declared in
    let tree = Some (block_type d) in
    on_ok_weaker c.report_block.result
    (λ e. e
    ∙ ap (λ l. l ++ block_faults sources unit d) c.in_ok-report_declarations.ensures
    ∙ ap (λ t. (old ++ declaration_faults sources unit (Some (decl_tree t))) ++ block_faults sources unit d) c.in-Block.is
    ∙ block_joined old (declaration_faults sources unit tree) (faults_in_unit sources unit tree) (chart_faults_in sources tree) (tree_faults sources unit tree)
    ∙ ap (λ t. old ++ reported_in sources unit (Whole (decl_tree t))) (sym c.in-Block.is))
    c.report_block.ensures

pub returns-in-Subapplication : goal.returns-in-Subapplication
returns-in-Subapplication g c =
    let sources = g.V.View.sources c.args.view.now in
    let unit = c.args.unit.now in
    let old = c.args.found.now.items in
    let d = type_tree c.in-Subapplication.declared in
    let network = type_network sources unit Subapplication d in
    on_ok_weaker c.report_subapplication.result
    (λ e. e
    ∙ ap (λ l. l ++ network) c.in_ok-report_declarations.ensures
    ∙ ap (λ t. (old ++ declaration_faults sources unit (Some (decl_tree t))) ++ network) c.in-Subapplication.is
    ∙ subapplication_joined old (declaration_faults sources unit (Some (subapplication_type d))) network
    ∙ ap (λ t. old ++ reported_in sources unit (Whole (decl_tree t))) (sym c.in-Subapplication.is))
    c.report_subapplication.ensures

pub returns-in_ok-report_networks-in-System : goal.returns-in_ok-report_networks-in-System
returns-in_ok-report_networks-in-System g c =
    let sources = g.V.View.sources c.args.view.now in
    let unit = c.args.unit.now in
    let old = c.args.found.now.items in
    let s = system_tree c.in-System.system in
    let tree = system_configuration s in
    on_ok_weaker c.report_mappings.result
    (λ e. e
    ∙ ap (λ l. l ++ system_mapping_faults s) (c.in_ok-report_networks-in-System.ensures ∙ ap (λ l. l ++ declared_faults sources unit (decl_tree c.args.decl.now)) c.in_ok-report_declarations.ensures)
    ∙ ap (λ t. ((old ++ declaration_faults sources unit (Some (decl_tree t))) ++ declared_faults sources unit (decl_tree t)) ++ system_mapping_faults s) c.in-System.is
    ∙ system_joined old (declaration_faults sources unit (Some tree)) (declared_faults sources unit tree) (system_mapping_faults s)
    ∙ ap (λ t. old ++ reported_in sources unit (Whole (decl_tree t))) (sym c.in-System.is))
    c.report_mappings.ensures
