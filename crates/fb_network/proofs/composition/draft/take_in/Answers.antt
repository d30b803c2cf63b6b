-- The entries of the inner network stand moved, behind those that there were.
use Rattle.std.proofs.{Common.{◌≡◌, ◌++◌, List, map, ap, ◌∙◌}, lemmas.Result.{IfOk-weaker}}
use Rattle.fb_network.specs.{Laid.{edge_moved, prefix_within, join_moved, leaf_moved}, declared.flat.Tables.{Tables}}
use Rattle.fb_network.specs.{declared.flat.entries.Leaf.{Leaf}, declared.flat.entries.Join.{Join}, declared.flat.entries.Edge.{Edge}}
use Rattle.fb_network.proofs.Drafts.{taken_in}
use Rattle.fb_network.proofs.composition.draft.take_in.Goals as goal

pub returns : goal.returns
returns c =
    let draft = c.args.draft.now in
    let by = c.in_ok-before.before in
    let held : c.deref-tables.result.now ≡ c.inner.inside.tables.value = c.deref-tables.ensures in
    IfOk-weaker c.edges_moved.result _ _
    (λ edges is.
    taken_in draft _ c.args.name.now c.args.inner.now edges.items by c.inner.inside.tables.value.prefixes c.inner.inside.tables.value.leaves.items c.inner.inside.tables.value.joins.items c.inner.inside.tables.value.edges.items
    c.in_ok-before.ensures
    (c.in_ok-push_within.ensures ∙ ap (λ (t : Tables). draft.prefixes ++ map (prefix_within c.args.name.now) t.prefixes) held)
    (c.in_ok-push_leaves_moved.ensures ∙ ap (λ (ls : List Leaf). draft.leaves.items ++ map (leaf_moved by) ls) (c.deref.ensures.value ∙ ap (λ (t : Tables). t.leaves.items) held))
    (c.in_ok-push_joins_moved.ensures ∙ ap (λ (js : List Join). draft.joins.items ++ map (join_moved by) js) (c.deref-2.ensures.value ∙ ap (λ (t : Tables). t.joins.items) held))
    (is ∙ ap (λ (es : List Edge). map (edge_moved by) es) (c.deref-3.ensures.value ∙ ap (λ (t : Tables). t.edges.items) held))
    c.inner.invariant c.inner.view_is)
    c.edges_moved.ensures
