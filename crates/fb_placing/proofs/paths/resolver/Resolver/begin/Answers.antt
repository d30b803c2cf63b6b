-- The application has a table of its instances, or there is none of that name.
use Rattle.std.proofs.Common.{[], ◌∷◌, Some, None, ◌∙◌, ap}
use Rattle.std.specs.Prelude.{option_map}
use Rattle.fb_library.specs.View.{tree_at}
use Rattle.fb_placing.specs.{Resolver.{ResolverView, resolved}, Systems.{applications_in}, Tables.{instance_at}}
use Rattle.fb_placing.proofs.ResolvedLemmas.{begin_at}
use Rattle.fb_placing.proofs.paths.resolver.Resolver.begin.Goals as goal

pub returns-in-Some : goal.returns-in-Some
returns-in-Some g c =
    let sources = g.V.View.sources c.self.inside.view.now in
    let system = c.self.inside.system in
    let a = c.args.application.now in
    let name = c.args.name.now in
    c.resolved_among.ensures
    ∙ begin_at sources system (applications_in (tree_at sources system)) a name (Some c.in-Some.instances.now) (ap (option_map instance_at) c.in-Some.ensures.value ∙ c.self.invariant.applications a)
    ∙ ap (λ (r : ResolverView). resolved r (a ∷ (name ∷ []))) c.self.view_is

pub returns-in-None : goal.returns-in-None
returns-in-None g c =
    let sources = g.V.View.sources c.self.inside.view.now in
    let system = c.self.inside.system in
    let a = c.args.application.now in
    let name = c.args.name.now in
    begin_at sources system (applications_in (tree_at sources system)) a name None (ap (option_map instance_at) c.in-None.ensures.value ∙ c.self.invariant.applications a)
    ∙ ap (λ (r : ResolverView). resolved r (a ∷ (name ∷ []))) c.self.view_is
