use Rattle.std.proofs.Common.{◌≡◌, ◌∷◌, [], ◌++◌, true, false, cond, is_some, Some, None, sym, ap, ◌∙◌, nat_eq}
use Rattle.std.specs.Cmp.Lexicographic.{pointwise}
use Rattle.indexmap.proofs.CallerLemmas.{insert_entry-new}
use Rattle.indexmap.specs.IndexMap.{get, insert_entry}
use Rattle.fb_iface.specs.Names.{stands_for}
use Rattle.fb_iface.proofs.TableLemmas.{found_by_name, put_back}
use Rattle.fb_iface.proofs.names.declare.Goals as goal

pub returns-in_ok-insert : goal.returns-in_ok-insert
returns-in_ok-insert g c =
    let table = c.args.table.now in
    let name = c.args.name in
    let first = c.in-Some.first in
    let last = table.entries ++ (name, c.args.declared) ∷ [] in
    let known : get (pointwise nat_eq) table name ≡ Some first = sym c.in_ok-first.ensures.old ∙ c.in-Some.is in
    let there : is_some (stands_for table.entries name) ≡ true = ap is_some (sym (found_by_name table.entries name) ∙ known) in
    c.in_ok-insert.ensures.entries
    ∙ ap (λ l. insert_entry (pointwise nat_eq) l name first) c.in_ok-first.ensures.entries
    ∙ put_back (pointwise nat_eq) table.entries name first c.args.declared known
    ∙ ap (λ b. cond b table.entries last) (sym there)

pub returns-in_default : goal.returns-in_default
returns-in_default g c =
    let table = c.args.table.now in
    let name = c.args.name in
    let last = table.entries ++ (name, c.args.declared) ∷ [] in
    let known : get (pointwise nat_eq) table name ≡ None = sym c.in_ok-first.ensures.old ∙ c.in_default.is in
    let absent : is_some (stands_for table.entries name) ≡ false = ap is_some (sym (found_by_name table.entries name) ∙ known) in
    c.in_ok-first.ensures.entries
    ∙ insert_entry-new (pointwise nat_eq) table name c.args.declared known
    ∙ ap (λ b. cond b table.entries last) (sym absent)
