-- The name is at the end of the list, or it is in the table, whose names stay in order.
use Rattle.std.proofs.{Common.{ℕ, ◌||◌, List, ◌++◌, map, ap, ◌∙◌}, lemmas.Result.{IfOk-weaker}}
use Rattle.std.specs.BTreeMap.{is_at}
use Rattle.fb_text.specs.Order.{name_cmp}
use Rattle.fb_library.specs.Seen.{has_name}
use Rattle.fb_index.proofs.{Listed.{one_listed, one_further}, Lookups.{name_put, rows_put}}
use Rattle.fb_index.proofs.name_set.NameSet.put.Goals as goal

pub invariant_of-self-2 : goal.invariant_of-self-2
invariant_of-self-2 c = rows_put c.put.result c.self.inside.further c.put.new.self c.args.name c.in_ok-new.field-0.value c.put.ensures.ok c.put.ensures.err c.self.invariant

pub returns-then-len-lt-MOST_LISTED : goal.returns-then-len-lt-MOST_LISTED
returns-then-len-lt-MOST_LISTED c =
    let further = map (λ e. e.0) c.self.inside.further in
    λ other.
    ap (λ (names : List (List ℕ)). has_name (names ++ further) other) c.in_ok-push.ensures.items
    ∙ one_listed c.self.inside.listed.items further c.args.name other
    ∙ ap (λ (us : List (List ℕ)). has_name us other || is_at (name_cmp c.args.name) other) c.self.view_is

pub returns : goal.returns
returns c =
    IfOk-weaker c.put.result _ _
    (λ _ is other.
    one_further c.self.inside.listed.items (map (λ e. e.0) c.self.inside.further) (map (λ e. e.0) c.put.new.self) c.args.name other (name_put c.self.inside.further c.put.new.self c.args.name c.in_ok-new.field-0.value is other)
    ∙ ap (λ (us : List (List ℕ)). has_name us other || is_at (name_cmp c.args.name) other) c.self.view_is)
    c.put.ensures.ok
