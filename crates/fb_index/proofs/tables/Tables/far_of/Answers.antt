-- The walk from users to users, which ends where nothing is pending.
use Rattle.std.proofs.{Common.{◌≡◌, ◌+◌, [], ◌∷◌, ◌++◌, filter, take, ap, sym, subst, ◌∙◌, arith}, lemmas.Grind.{common_steps}, lemmas.Result.{IfOk-weaker}}
use Rattle.std.proofs.lemmas.List.{nil_from_length}
use Rattle.std.specs.{List.{flat_map}, List.Sorted.{IsStrictlySortedBy}}
use Rattle.fb_text.specs.Order.{name_cmp, names_in_order}
use Rattle.fb_text.proofs.OrderLemmas.{in_order-sorted}
use Rattle.fb_library.specs.Seen.{Opens}
use Rattle.fb_library.proofs.{Names.{name_total}, WalkLemmas.{IsWalk, IsWalk-begin, IsWalk-step, opens_falls, opens_more}}
use Rattle.fb_index.specs.{Indexed.{is_indexed}, Near.{mentioning}}
use Rattle.fb_index.proofs.Walks.{all_users, mentioning_within, far_at_end, in_order_are}
use Rattle.fb_index.proofs.tables.Tables.far_of.Goals as goal

pub loop-name-preserved : goal.loop-name-preserved
loop-name-preserved c =
    let names = c.args.names.now in
    let i = c.loop-name.name-index in
    let x = c.name-item.result in
    let more : take (i + 1) names ≡ take i names ++ x ∷ [] = grind (arith, common_steps) in
    opens_more (mentioning c.args.self.now) (take i names) (take (i + 1) names) x _ _ _ _ more c.loop-name.invariant c.in_ok-open_users.ensures

pub loop-name-2-init : goal.loop-name-2-init
loop-name-2-init c =
    let names = c.args.names.now in
    let next = mentioning c.args.self.now in
    let all : take c.loop-name.name-index names ≡ names = grind (arith, common_steps) in
    IsWalk-begin next (flat_map next names) _ _ (subst (λ ns. Opens (flat_map next ns) [] [] c.loop-name.seen.keys c.loop-name.pending.items) all c.loop-name.invariant)

pub loop-name-2-preserved : goal.loop-name-2-preserved
loop-name-2-preserved c =
    let next = mentioning c.args.self.now in
    let starts = flat_map next c.args.names.now in
    let name = c.in-Some.name in
    let before : IsWalk next starts c.loop-name-2.seen.keys (c.pop.new.self.items ++ name ∷ []) = subst (IsWalk next starts c.loop-name-2.seen.keys) c.in-Some.ensures.items c.loop-name-2.invariant in
    IsWalk-step next starts _ _ _ _ name before c.in_ok-open_users-2.ensures

pub loop-name-2-smaller : goal.loop-name-2-smaller
loop-name-2-smaller c =
    let it = c.args.self.now in
    opens_falls (mentioning it) (all_users it.parts ++ all_users it.of_values) (mentioning_within it) c.in-Some.name _ _ _ _ c.loop-name-2.pending.items c.in_ok-open_users-2.ensures c.in-Some.ensures.items

pub returns-clause-ordered : goal.returns-clause-ordered
returns-clause-ordered c =
    IfOk-weaker c.sorted_names.result _ _ (λ units is. subst (IsStrictlySortedBy name_cmp) (sym is) (in_order-sorted name_cmp name_total c.as_slice-2.result.now)) c.sorted_names.ensures

pub returns-clause-exact : goal.returns-clause-exact
returns-clause-exact c =
    let it = c.args.self.now in
    let names = c.args.names.now in
    let empty : c.loop-name-2.pending.items ≡ [] = nil_from_length c.loop-name-2.pending.items (omega (arith, c.in_default.ensures.cases, c.loop-name-2.pending.ok.0)) in
    let walk = subst (IsWalk (mentioning it) (flat_map (mentioning it) names) c.loop-name-2.seen.keys) empty c.loop-name-2.invariant in
    let users : c.as_slice.result.now ≡ c.loop-name-2.seen.keys = c.as_slice.ensures.value ∙ c.in_ok-users.ensures.items in
    let first : c.extend_from_slice.new.self.items ≡ c.in_ok-units.units.items ++ c.as_slice.result.now = c.in_ok-extend_from_slice.ensures.items in
    let found : c.as_slice-2.result.now ≡ filter (is_indexed it) names ++ c.loop-name-2.seen.keys = c.as_slice-2.ensures.value ∙ first ∙ ap (λ us. us ++ c.as_slice.result.now) c.in_ok-units.ensures ∙ ap (λ us. filter (is_indexed it) names ++ us) users in
    IfOk-weaker c.sorted_names.result _ _
    (λ units is unit. in_order_are units.items (filter (is_indexed it) names ++ c.loop-name-2.seen.keys) unit (is ∙ ap names_in_order found) (far_at_end it names c.loop-name-2.seen.keys walk unit))
    c.sorted_names.ensures
