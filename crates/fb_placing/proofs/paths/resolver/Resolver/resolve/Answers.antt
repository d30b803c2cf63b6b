-- The name is looked for in the instance that stands in front of it.
use Rattle.std.proofs.{Common.{◌≡◌, ℕ, List, Some, sym, ◌∙◌, ap}, lemmas.Result.{IfOk-weaker}}
use Rattle.std.specs.Prelude.{option_map}
use Rattle.fb_library.specs.View.{tree_at}
use Rattle.fb_placing.specs.{Resolver.{ResolverView, resolved}, Resolved.{path_names, plain_resolved, resolved_inside}, Systems.{applications_in}}
use Rattle.fb_placing.proofs.{SplitLemmas.{names_parted}, ResolvedLemmas.{at_more}}
use Rattle.fb_placing.proofs.paths.resolver.Resolver.resolve.Goals as goal

pub returns-in-Ok-Some-clause-found : goal.returns-in-Ok-Some-clause-found
returns-in-Ok-Some-clause-found g c =
    let r = c.args.self.now in
    let outer = c.in-Some.outer.now in
    let name = c.in-Some.name.now in
    let it = plain_resolved c.in-Ok-Some.it in
    let near : resolved r (path_names outer) ≡ Some it = sym c.in-Ok-Some.ensures.found ∙ ap (option_map plain_resolved) c.in-Ok-Some.field-0-is in
    let parts = c.in-Some.ensures.parts in
    let whole : resolved r (path_names c.args.path.now) ≡ resolved_inside r.sources name it =
    ap (λ (p : List ℕ). resolved r (path_names p)) parts.0
    ∙ ap (resolved r) (names_parted outer name parts.1)
    ∙ at_more r.sources r.system (applications_in (tree_at r.sources r.system)) (path_names outer) name it near in
    IfOk-weaker c.inside.result _ _ (λ found e. e ∙ ap (λ (now : ResolverView). resolved_inside now.sources name it) c.look_at.ensures.same ∙ sym whole) c.inside.ensures.found
