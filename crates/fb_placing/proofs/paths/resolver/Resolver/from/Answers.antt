-- The first name is that of an instance of the application.
use Rattle.std.proofs.Common.{ℕ, ◌≡◌, List, ◌∷◌, Option, Some, map, sym, ◌∙◌, ap, subst}
use Rattle.std.specs.{Prelude.{IfOk, option_map}, Borrow.{Bor}}
use Rattle.fb_library.specs.View.{tree_at}
use Rattle.fb_placing.specs.{Resolver.{resolved}, Resolved.{PlainResolved, plain_resolved, resolved_beyond}, Systems.{applications_in}}
use Rattle.fb_placing.proofs.ResolvedLemmas.{at_begins, beyond_nothing}
use Rattle.fb_placing.proofs.paths.resolver.Resolver.from.Goals as goal

pub returns-in-None-begin-clause-found : goal.returns-in-None-begin-clause-found
returns-in-None-begin-clause-found g c =
    let r = c.args.self.now in
    let a : List ℕ = c.args.application.now in
    let rest : List (List ℕ) = map (λ n. n.now) c.in-Some.inner.now in
    sym (ap (λ (ns : List (Bor (List ℕ))). resolved r (a ∷ map (λ n. n.now) ns)) c.in-Some.ensures.cases.0
    ∙ at_begins r.sources r.system (applications_in (tree_at r.sources r.system)) a c.in-Some.name.now.now rest
    ∙ ap (λ (o : Option PlainResolved). resolved_beyond r.sources o rest) (sym c.in-None-begin.ensures) ∙ beyond_nothing r.sources rest)

pub returns-in-Some-begin-clause-found : goal.returns-in-Some-begin-clause-found
returns-in-Some-begin-clause-found g c =
    let r = c.args.self.now in
    let a : List ℕ = c.args.application.now in
    let rest : List (List ℕ) = map (λ n. n.now) c.in-Some.inner.now in
    let leads : resolved_beyond r.sources (Some (plain_resolved c.in-Some-begin.start)) rest ≡ resolved r (a ∷ map (λ n. n.now) c.args.names.now) =
    sym (ap (λ (ns : List (Bor (List ℕ))). resolved r (a ∷ map (λ n. n.now) ns)) c.in-Some.ensures.cases.0
    ∙ at_begins r.sources r.system (applications_in (tree_at r.sources r.system)) a c.in-Some.name.now.now rest
    ∙ ap (λ (o : Option PlainResolved). resolved_beyond r.sources o rest) (sym c.in-Some-begin.ensures)) in
    subst (λ (s : Option PlainResolved). IfOk c.beyond.result (λ found. option_map plain_resolved found ≡ s)) leads c.beyond.ensures.found
