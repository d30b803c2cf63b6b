-- The text of the starts grows, and a prefix whose start is what was added stands behind those that there were.
use Rattle.std.proofs.Common.{◌∷◌, ◌++◌, List, [], map, string_bytes, ◌∙◌, ap}
use Rattle.fb_network.specs.{Places.{dotted}, Starts.{prefix_in}, PlainPrefix.{PlainPrefix}}
use Rattle.fb_network.proofs.Starts.{all_added, all_kept, view_added}
use Rattle.fb_network.proofs.paths.prefixes.Prefixes.push.Goals as goal

pub invariant_of-self : goal.invariant_of-self
invariant_of-self c =
    let grows = c.push_dotted.ensures.grows in
    all_kept c.self.inside.starts c.push_dotted.new.starts grows.0 grows.1 c.self.inside.prefixes.items c.self.invariant

pub invariant_of-self-in_err-to : goal.invariant_of-self-in_err-to
invariant_of-self-in_err-to c =
    let grows = c.push_dotted.ensures.grows in
    all_kept c.self.inside.starts c.push_dotted.new.starts grows.0 grows.1 c.self.inside.prefixes.items c.self.invariant

pub invariant_of-self-in_err-push : goal.invariant_of-self-in_err-push
invariant_of-self-in_err-push c =
    let grows = c.push_dotted.ensures.grows in
    rw c.in_err-push.ensures.items (all_kept c.self.inside.starts c.push_dotted.new.starts grows.0 grows.1 c.self.inside.prefixes.items c.self.invariant)

pub invariant_of-self-2 : goal.invariant_of-self-2
invariant_of-self-2 c =
    rw c.in_ok-push.ensures.items
    (all_added c.self.inside.starts c.push_dotted.new.starts _ c.in_ok-push_dotted.ensures.dotted c.self.inside.prefixes.items c.self.invariant
    (record { from = c.in_ok-from.from; to = c.in_ok-to.to; ends = c.args.ends }) (c.in_ok-from.ensures.same ∙ c.len.ensures) (c.in_ok-to.ensures.same ∙ c.len-2.ensures))

pub returns : goal.returns
returns c =
    ap (map (prefix_in (string_bytes c.push_dotted.new.starts))) c.in_ok-push.ensures.items
    ∙ view_added c.self.inside.starts c.push_dotted.new.starts _ c.in_ok-push_dotted.ensures.dotted c.self.inside.prefixes.items c.self.invariant
    (record { from = c.in_ok-from.from; to = c.in_ok-to.to; ends = c.args.ends }) (c.in_ok-from.ensures.same ∙ c.len.ensures) (c.in_ok-to.ensures.same ∙ c.len-2.ensures)
    ∙ ap (λ (ps : List PlainPrefix). ps ++ record { start = dotted c.args.first.now c.args.second.now; ends = c.args.ends.value.items } ∷ []) c.self.view_is
