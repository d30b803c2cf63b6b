use Rattle.std.proofs.Common.{◌≡◌, ℕ, List, ◌+◌, ◌<◌, ◌∷◌, [], ◌++◌, None, cond, length, sym, ap, ◌∙◌, arith, take, nat_eq, option_map}
use Rattle.std.proofs.lemmas.Grind.{common_steps}
use Rattle.std.specs.{Cmp.Lexicographic.{pointwise}, HashMap.{get}}
use Rattle.fb_library.specs.View.{tree_at}
use Rattle.fb_iface.proofs.ScopeLemmas.{type_names, type_names-more, with_type-more}
use Rattle.fb_iface.specs.{ScopeTypes.{kept_of, with_type}, Names.{has_name}}
use Rattle.fb_iface.proofs.scope.types_of.Goals as goal

pub loop-instance-preserved : goal.loop-instance-preserved
loop-instance-preserved g c =
    let sources = g.V.View.sources c.args.view.now in
    let xs = c.args.instances.now in
    let i = c.loop-instance.instance-index in
    let x = c.instance-item.result in
    let within : i < length xs = omega arith in
    let more : take (i + 1) xs ≡ take i xs ++ x ∷ [] = grind (arith, common_steps) in
    λ q.
    c.in_ok-add_type.ensures q
    ∙ ap (λ (n : List ℕ). with_type n (tree_at sources n) (get (pointwise nat_eq) c.loop-instance.types) q) c.name.ensures
    ∙ with_type-more (tree_at sources) (type_names (take i xs)) x.type_name (get (pointwise nat_eq) c.loop-instance.types) q (c.loop-instance.invariant q)
    ∙ ap (λ l. option_map kept_of (cond (has_name l q) (tree_at sources q) None)) (sym (type_names-more (take i xs) x) ∙ ap type_names (sym more))
