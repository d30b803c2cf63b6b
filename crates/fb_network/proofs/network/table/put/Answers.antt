-- The table has the instance, unless one of its name stands there.
use Rattle.std.proofs.Common.{sym, ◌∙◌}
use Rattle.std.specs.BTreeMap.{get}
use Rattle.fb_tree.specs.Text.Order.{name_cmp}
use Rattle.fb_network.proofs.Standings.{put_kept, put_new}
use Rattle.fb_network.proofs.network.table.put.Goals as goal

pub returns-in_ok-insert : goal.returns-in_ok-insert
returns-in_ok-insert c = put_new (get name_cmp c.args.table.now) (get name_cmp c.insert.new.self) (record { instance = c.args.instance.now; borders = c.args.borders }) (sym c.contains_key.ensures ∙ c.if-not-contains_key.true) c.in_ok-insert.ensures.updates.0

pub returns-else-not-contains_key : goal.returns-else-not-contains_key
returns-else-not-contains_key c = put_kept (get name_cmp c.args.table.now) (record { instance = c.args.instance.now; borders = c.args.borders }) (sym c.contains_key.ensures ∙ c.if-not-contains_key.false)
