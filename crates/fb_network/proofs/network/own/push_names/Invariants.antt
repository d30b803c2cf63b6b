use Rattle.std.proofs.Common.{◌≡◌, ◌++◌, take, map}
use Rattle.fb_network.proofs.network.own.push_names.Given as goal

abbrev pub invariant-loop-instance : goal.invariant-loop-instance
invariant-loop-instance l = l.texts.items ≡ l.fn.texts.items ++ map (λ i. i.name) (take l.instance-index l.instances)
