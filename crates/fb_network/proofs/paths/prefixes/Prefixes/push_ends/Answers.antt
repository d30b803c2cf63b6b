-- A text may be cut at its start.
use Rattle.std.proofs.Common.{arith, string_bytes}
use Rattle.std.proofs.lemmas.{List.Elements.{All-push}, Str.{IsCharBoundary-start, IsUtf8-string_bytes}}
use Rattle.fb_network.specs.Starts.{IsIn}
use Rattle.fb_network.proofs.paths.prefixes.Prefixes.push_ends.Goals as goal

pub invariant_of-self-2 : goal.invariant_of-self-2
invariant_of-self-2 c =
    let starts = string_bytes c.self.inside.starts in
    let begins = IsCharBoundary-start starts (IsUtf8-string_bytes c.self.inside.starts) in
    rw c.in_ok-push.ensures.items (All-push (IsIn starts) c.self.inside.prefixes.items (record { from = 0; to = 0; ends = c.args.ends }) c.self.invariant (record { rises = omega arith; from = begins; to = begins }))
