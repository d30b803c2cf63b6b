-- The three tables of a copy.
use Rattle.std.proofs.Common.{◌≡◌, [], map, ap, subst, ◌∙◌}
use Rattle.std.specs.{BTreeMap.{is_at}, List.Sorted.{IsStrictlySortedBy}, Map.{remove_entry}}
use Rattle.fb_text.specs.Order.{name_cmp}
use Rattle.fb_index.specs.{Indexed.{Indexed}, Users.{NowUses}}
use Rattle.fb_index.proofs.Lookups.{unit_removed}
use Rattle.fb_index.proofs.tables.Tables.remove.Goals as goal

pub returns-clause-ok : goal.returns-clause-ok
returns-clause-ok c =
    let old : Indexed = c.args.self.now in
    let unit = c.args.unit.now in
    let is : record { parts = c.tables.inside.parts; of_values = c.tables.inside.of_values; units = c.tables.inside.units } ≡ old = c.tables.view_is ∙ c.in_ok-tables.ensures in
    let parts : NowUses old.parts unit [] c.replace.new.self = subst (λ us. NowUses us unit [] c.replace.new.self) (ap (λ (it : Indexed). it.parts) is) c.in_ok-replace.ensures in
    let of_values : NowUses old.of_values unit [] c.replace-2.new.self = subst (λ us. NowUses us unit [] c.replace-2.new.self) (ap (λ (it : Indexed). it.of_values) is) c.in_ok-replace-2.ensures in
    let sorted : IsStrictlySortedBy name_cmp (map (λ e. e.0) old.units) = subst (λ (it : Indexed). IsStrictlySortedBy name_cmp (map (λ e. e.0) it.units)) is c.name_at-first.ensures.sorted in
    let units : c.remove.new.self ≡ remove_entry (is_at (name_cmp unit)) old.units = c.in_ok-remove.ensures.ok ∙ ap (λ (it : Indexed). remove_entry (is_at (name_cmp unit)) it.units) is in
    unit_removed old (record { parts = c.replace.new.self; of_values = c.replace-2.new.self; units = c.remove.new.self }) unit parts of_values sorted units
