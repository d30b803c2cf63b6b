-- The name is neither in the list nor in the table, whose names stay in order.
use Rattle.std.proofs.{Common.{◌≡◌, ℕ, ◌&&◌, ◌++◌, not, List, filter, map, ap, ◌∙◌, rules}, lemmas.Fn.{filter_same}, lemmas.Result.{IfOk-weaker}}
use Rattle.std.specs.BTreeMap.{is_at}
use Rattle.fb_text.specs.Order.{name_cmp}
use Rattle.fb_library.specs.Seen.{has_name}
use Rattle.fb_index.proofs.{Listed.{none_left}, Lookups.{name_removed, rows_removed}}
use Rattle.fb_index.proofs.name_set.NameSet.remove.Goals as goal

pub invariant_of-self : goal.invariant_of-self
invariant_of-self c = rows_removed c.remove.result c.self.inside.further c.remove.new.self c.args.name.now c.remove.ensures.ok c.remove.ensures.err c.self.invariant

pub returns : goal.returns
returns c =
    let name = c.args.name.now in
    let further = map (λ e. e.0) c.self.inside.further in
    let fewer = map (λ e. e.0) c.remove.new.self in
    let kept : c.retain.new.self.items ≡ filter (λ x. not (is_at (name_cmp name) x)) c.self.inside.listed.items = filter_same _ _ _ (λ x b f' k. search rules) _ _ c.retain.ensures.filtered in
    IfOk-weaker c.remove.result _ _
    (λ _ is other.
    ap (λ (names : List (List ℕ)). has_name (names ++ fewer) other) kept
    ∙ none_left name other c.self.inside.listed.items further fewer (name_removed c.self.inside.further c.remove.new.self name c.self.invariant is other)
    ∙ ap (λ (us : List (List ℕ)). has_name us other && not (is_at (name_cmp name) other)) c.self.view_is)
    c.remove.ensures.ok
