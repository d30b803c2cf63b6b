-- To order names changes none.
use Rattle.std.proofs.{Common.{◌≡◌, ◌++◌, filter, ap, sym, subst, ◌∙◌}, lemmas.Result.{IfOk-weaker}}
use Rattle.std.specs.{List.{flat_map}, List.Sorted.{IsStrictlySortedBy}}
use Rattle.fb_text.specs.Order.{name_cmp, names_in_order}
use Rattle.fb_text.proofs.OrderLemmas.{in_order-sorted}
use Rattle.fb_library.proofs.Names.{name_total}
use Rattle.fb_index.specs.{Indexed.{is_indexed}, Users.{users_of}}
use Rattle.fb_index.proofs.Walks.{near_are, in_order_are}
use Rattle.fb_index.proofs.tables.Tables.near_of.Goals as goal

pub returns-clause-ordered : goal.returns-clause-ordered
returns-clause-ordered c =
    IfOk-weaker c.sorted_names.result _ _ (λ units is. subst (IsStrictlySortedBy name_cmp) (sym is) (in_order-sorted name_cmp name_total c.as_slice-3.result.now)) c.sorted_names.ensures

pub returns-clause-exact : goal.returns-clause-exact
returns-clause-exact c =
    let it = c.args.self.now in
    let names = c.args.names.now in
    let carriers = c.in_ok-carriers.carriers.items in
    let holders = flat_map (users_of it.parts) in
    let first : c.add_holders.new.units.items ≡ filter (is_indexed it) names ++ holders names = c.in_ok-add_holders.ensures ∙ ap (λ us. us ++ holders names) c.in_ok-units.ensures in
    let second : c.add_holders-2.new.units.items ≡ (filter (is_indexed it) names ++ holders names) ++ holders carriers = c.in_ok-add_holders-2.ensures ∙ ap (λ us. us ++ holders c.as_slice.result.now) first ∙ ap (λ us. (filter (is_indexed it) names ++ holders names) ++ holders us) c.as_slice.ensures.value in
    let third : c.extend_from_slice.new.self.items ≡ ((filter (is_indexed it) names ++ holders names) ++ holders carriers) ++ carriers = c.in_ok-extend_from_slice.ensures.items ∙ ap (λ us. us ++ c.as_slice-2.result.now) second ∙ ap (λ us. ((filter (is_indexed it) names ++ holders names) ++ holders carriers) ++ us) c.as_slice-2.ensures.value in
    IfOk-weaker c.sorted_names.result _ _
    (λ units is unit. in_order_are units.items (((filter (is_indexed it) names ++ holders names) ++ holders carriers) ++ carriers) unit (is ∙ ap names_in_order (c.as_slice-3.ensures.value ∙ third)) (near_are it names carriers c.in_ok-carriers.ensures unit))
    c.sorted_names.ensures
