use Rattle.std.proofs.{Common.{◌≡◌, sym, ◌∙◌, Some, is_some, nat_eq, false, arith}, lemmas.Grind.{common_steps}}
use Rattle.std.specs.{Cmp.Lexicographic.{pointwise}, HashMap.{get}}
use Rattle.fb_tree.specs.Tree.{decl_tree}
use Rattle.fb_library.specs.View.{tree_at}
use Rattle.fb_iface.proofs.ScopeLemmas.{with_type-new}
use Rattle.fb_iface.proofs.scope.add_type.Goals as goal

pub returns-in_ok-insert : goal.returns-in_ok-insert
returns-in_ok-insert g c =
    let name = c.args.name.now in
    let old = get (pointwise nat_eq) c.args.types.now in
    let decl = decl_tree c.in-Some.decl.now in
    let there : tree_at (g.V.View.sources c.args.view.now) name ≡ Some decl = grind (arith, common_steps) in
    let absent : is_some (old name) ≡ false = sym c.contains_key.ensures ∙ c.if-contains_key.false in
    λ q. with_type-new name q decl (tree_at (g.V.View.sources c.args.view.now) name) (record { kind = c.kind.result; ports = c.in_ok-ports_by_name.field-0 }) old (get (pointwise nat_eq) c.insert.new.self q) there (λ i. record { kind = c.kind.ensures i; ports = c.in_ok-ports_by_name.ensures i }) absent (c.in_ok-insert.ensures.updates.0 q)
