-- Nothing stands under the next name.
use Rattle.std.proofs.Common.{◌≡◌, List, ℕ, Some, None, drop, map, sym, ◌∙◌, ap, subst}
use Rattle.std.specs.Prelude.{option_map}
use Rattle.fb_placing.specs.{Resolver.{ResolverView}, Resolved.{plain_resolved, resolved_beyond}}
use Rattle.fb_placing.proofs.ResolvedLemmas.{beyond_stops}
use Rattle.fb_placing.proofs.paths.resolver.Resolver.beyond.Goals as goal

pub returns-in-Ok-None-clause-found : goal.returns-in-Ok-None-clause-found
returns-in-Ok-None-clause-found g c =
    let it = plain_resolved c.loop-name.found in
    let rest : List (List ℕ) = map (λ n. n.now) (drop c.loop-name.name-index c.args.names.now) in
    let nothing = sym c.in-Ok-None.ensures.found ∙ ap (option_map plain_resolved) c.in-Ok-None.field-0-is in
    let stops : resolved_beyond c.loop-name.self.sources (Some it) rest ≡ None =
    beyond_stops c.loop-name.self.sources c.args.names.now c.loop-name.name-index _ it c.loop-name-test.true nothing in
    sym (c.loop-name.invariant.leads ∙ subst (λ (r : ResolverView). resolved_beyond r.sources (Some it) rest ≡ None) c.loop-name.invariant.same stops)
