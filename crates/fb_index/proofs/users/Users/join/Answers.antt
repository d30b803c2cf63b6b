-- The unit stands under the name, and who stood there before.
use Rattle.std.proofs.{Common.{◌||◌, ap, ◌∙◌}, lemmas.Result.{IfOk-weaker}}
use Rattle.std.specs.BTreeMap.{is_at}
use Rattle.fb_text.specs.Order.{name_cmp}
use Rattle.fb_library.specs.Seen.{has_name}
use Rattle.fb_index.proofs.Lookups.{unit_joined}
use Rattle.fb_index.proofs.users.Users.join.Goals as goal

pub returns : goal.returns
returns c =
    IfOk-weaker c.set.result _ _
    (λ _ are.
    unit_joined c.args.self.now c.set.new.self c.args.name.now c.args.unit.now c.put.new.self
    (λ other. c.in_ok-put.ensures other ∙ ap (λ us. has_name us other || is_at (name_cmp c.args.unit.now) other) c.in_ok-units.ensures) are)
    c.set.ensures
