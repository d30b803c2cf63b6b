use Rattle.std.proofs.{Common.{◌∙◌, ap, map, sym}, lemmas.Result.{IfOk-weaker}}
use Rattle.fb_tree.specs.{Tree.{application_tree, decl_tree}, declared.system.Application.{Application}}
use Rattle.fb_iface.proofs.TreeLemmas.{same_items}
use Rattle.fb_types.specs.Applications.{applications_of, plain_application}
use Rattle.fb_types.proofs.systems.applications.Goals as goal

pub returns-in-System : goal.returns-in-System
returns-in-System c =
    IfOk-weaker c.applications_in.result _ _ (λ found e. e ∙ ap (map (λ (a : Application). plain_application (application_tree a))) c.as_slice.ensures.value ∙ sym (same_items application_tree plain_application c.in-System.system.applications.items) ∙ ap (λ d. applications_of (decl_tree d)) (sym c.in-System.is)) c.applications_in.ensures
