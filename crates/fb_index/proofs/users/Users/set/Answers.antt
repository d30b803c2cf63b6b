-- The rows stay in order, and the name has these units.
use Rattle.std.proofs.{Common.{length, eqb-true, if◌then◌else◌, sym, ap, ◌∙◌}, lemmas.List.{nil_from_length}, lemmas.Result.{IfOk-weaker}}
use Rattle.std.specs.BTreeMap.{insert_entry, is_at}
use Rattle.fb_text.specs.Order.{name_cmp}
use Rattle.fb_index.specs.Users.{UsersByName, users_of}
use Rattle.fb_index.proofs.Lookups.{users_put, users_removed, rows_put, rows_removed}
use Rattle.fb_index.proofs.users.Users.set.Goals as goal

pub invariant_of-self : goal.invariant_of-self
invariant_of-self c = rows_removed c.remove.result c.self.inside.by_name c.remove.new.self c.args.name.now c.remove.ensures.ok c.remove.ensures.err c.self.invariant

pub returns-then-is_empty : goal.returns-then-is_empty
returns-then-is_empty c =
    IfOk-weaker c.remove.result _ _ (λ _ is n. users_removed c.self.inside.by_name c.remove.new.self c.args.name.now c.args.units c.self.invariant is (nil_from_length c.args.units (eqb-true (length c.args.units) 0 (sym c.is_empty.ensures ∙ c.if-is_empty.true))) n ∙ ap (λ (us : UsersByName). if is_at (name_cmp c.args.name.now) n then c.args.units else users_of us n) c.self.view_is) c.remove.ensures.ok

pub invariant_of-self-2 : goal.invariant_of-self-2
invariant_of-self-2 c = rows_put c.put.result c.self.inside.by_name c.put.new.self c.args.name.now c.in_ok-new.field-0.value c.put.ensures.ok c.put.ensures.err c.self.invariant

pub returns : goal.returns
returns c =
    IfOk-weaker c.put.result _ _ (λ _ is n. users_put c.self.inside.by_name c.put.new.self c.args.name.now c.args.units (is ∙ ap (insert_entry name_cmp c.self.inside.by_name c.args.name.now) c.in_ok-new.ensures.ok) n ∙ ap (λ (us : UsersByName). if is_at (name_cmp c.args.name.now) n then c.args.units else users_of us n) c.self.view_is) c.put.ensures.ok
