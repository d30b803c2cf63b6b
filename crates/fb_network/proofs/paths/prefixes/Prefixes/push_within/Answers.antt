-- The next prefix of the inner network stands behind those that were added.
use Rattle.std.proofs.Common.{rules, map, ap, ◌∙◌, string_bytes}
use Rattle.fb_network.specs.Starts.{prefix_in}
use Rattle.fb_network.proofs.Starts.{next_within}
use Rattle.fb_network.proofs.paths.prefixes.Prefixes.push_within.Goals as goal

pub loop-prefix-preserved : goal.loop-prefix-preserved
loop-prefix-preserved c =
    let starts = string_bytes c.inner.inside.starts in
    next_within c.args.self.now c.loop-prefix.self c.push.new.self c.args.inner.now c.args.name.now c.loop-prefix.prefix-index starts c.deref-prefix-items.result.now c.prefix-item.result
    (ap (map (prefix_in starts)) c.deref-prefix-items.ensures.value ∙ c.inner.view_is) c.loop-prefix-test.true c.prefix-item.is c.loop-prefix.invariant (search rules)
