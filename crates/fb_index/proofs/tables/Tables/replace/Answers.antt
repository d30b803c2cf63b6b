-- The three tables of a copy, or none where the mentions are the same.
use Rattle.std.proofs.Common.{◌≡◌, ap, subst, ◌∙◌}
use Rattle.std.specs.BTreeMap.{insert_entry}
use Rattle.fb_text.specs.Order.{name_cmp}
use Rattle.fb_tree.specs.Mentions.{mentioned}
use Rattle.fb_index.specs.{Indexed.{Indexed}, Users.{NowUses}}
use Rattle.fb_index.proofs.Lookups.{unit_replaced}
use Rattle.fb_index.proofs.tables.Tables.replace.Goals as goal

pub returns-clause-ok : goal.returns-clause-ok
returns-clause-ok c =
    let old : Indexed = c.args.self.now in
    let unit = c.args.unit in
    let is : record { parts = c.tables.inside.parts; of_values = c.tables.inside.of_values; units = c.tables.inside.units } ≡ old = c.tables.view_is ∙ c.in_ok-tables.ensures in
    let parts : NowUses old.parts unit c.args.new.now.parts.items c.replace.new.self = subst (λ us. NowUses us unit c.args.new.now.parts.items c.replace.new.self) (ap (λ (it : Indexed). it.parts) is) (subst (λ ns. NowUses c.tables.inside.parts unit ns c.replace.new.self) c.as_slice-2.ensures.value c.in_ok-replace.ensures) in
    let of_values : NowUses old.of_values unit c.args.new.now.of_values.items c.replace-2.new.self = subst (λ us. NowUses us unit c.args.new.now.of_values.items c.replace-2.new.self) (ap (λ (it : Indexed). it.of_values) is) (subst (λ ns. NowUses c.tables.inside.of_values unit ns c.replace-2.new.self) c.as_slice-4.ensures.value c.in_ok-replace-2.ensures) in
    let units : c.put.new.self ≡ insert_entry name_cmp old.units unit c.args.new.now.is_structure = c.in_ok-put.ensures.ok ∙ ap (λ (it : Indexed). insert_entry name_cmp it.units unit c.in_ok-new.field-0.value) is ∙ ap (insert_entry name_cmp old.units unit) c.in_ok-new.ensures.ok in
    unit_replaced old (record { parts = c.replace.new.self; of_values = c.replace-2.new.self; units = c.put.new.self }) unit (mentioned c.args.new.now) parts of_values units
