-- What is found so far leads on as the start does.
use Rattle.std.proofs.Common.{◌≡◌, Some, drop, map}
use Rattle.fb_placing.specs.Resolved.{plain_resolved, resolved_beyond}
use Rattle.fb_placing.proofs.paths.resolver.Resolver.beyond.Given as goal

abbrev pub invariant-loop-name : goal.invariant-loop-name
invariant-loop-name g l = record {
  same : l.self ≡ l.fn.self;
  leads : resolved_beyond l.fn.self.sources (Some (plain_resolved l.fn.start)) (map (λ n. n.now) l.names)
      ≡ resolved_beyond l.fn.self.sources (Some (plain_resolved l.found)) (map (λ n. n.now) (drop l.name-index l.names));
}
