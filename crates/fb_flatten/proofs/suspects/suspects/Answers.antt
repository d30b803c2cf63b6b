-- Each name that is taken opens what it mentions, and at the end all that block are seen.
use Rattle.std.proofs.{Common.{◌≡◌, ◌∷◌, [], ◌++◌, List, ℕ, ap, sym, subst, ◌∙◌, arith}, lemmas.Result.{IfOk-weaker}, lemmas.List.{nil_from_length}}
use Rattle.std.specs.List.Sorted.{IsStrictlySortedBy}
use Rattle.fb_types.specs.{Text.Order.{name_cmp}, Library.Seen.{has_name}}
use Rattle.fb_types.proofs.Library.WalkLemmas.{begun, one_pushed, Contains-has, has-Contains}
use Rattle.fb_flatten.proofs.SuspectLemmas.{IsSearch, IsSearch-begin, IsSearch-step, all_seen, part_seen, recursive_seen, search_falls}
use Rattle.fb_flatten.proofs.suspects.suspects.Goals as goal

pub loop-name-init : goal.loop-name-init
loop-name-init g c =
    IsSearch-begin (g.H.Hints.hints c.args.hints.now) (g.V.View.sources c.args.view.now) c.args.unit c.insert.new.self.keys c.push.new.self.items
    (begun c.new-seen.result c.insert.new.self c.args.unit c.new-seen.ensures.empty c.in_ok-insert.ensures.updates)
    (one_pushed c.new-pending.result.items c.push.new.self.items c.args.unit c.new-pending.ensures.items c.in_ok-push.ensures.items)

pub loop-name-preserved : goal.loop-name-preserved
loop-name-preserved g c =
    let hints = g.H.Hints.hints c.args.hints.now in
    let sources = g.V.View.sources c.args.view.now in
    let unit = c.args.unit in
    let name = c.in-Some.name in
    let before : IsSearch hints sources unit c.loop-name.seen.keys (c.pop.new.self.items ++ name ∷ []) = subst (IsSearch hints sources unit c.loop-name.seen.keys) c.in-Some.ensures.items c.loop-name.invariant in
    IsSearch-step hints sources unit _ _ _ _ name before c.in_ok-open.ensures

pub loop-name-smaller : goal.loop-name-smaller
loop-name-smaller g c =
    search_falls (g.H.Hints.hints c.args.hints.now) (g.V.View.sources c.args.view.now) c.args.unit c.in-Some.name _ _ _ _ c.loop-name.pending.items c.in_ok-open.ensures c.in-Some.ensures.items

pub returns : goal.returns
returns g c =
    let hints = g.H.Hints.hints c.args.hints.now in
    let sources = g.V.View.sources c.args.view.now in
    let unit = c.args.unit in
    let seen = c.loop-name.seen.keys in
    let empty : c.loop-name.pending.items ≡ [] = nil_from_length c.loop-name.pending.items (omega (arith, c.in_default.ensures.cases, c.loop-name.pending.ok.0)) in
    let walk : IsSearch hints sources unit seen [] = subst (IsSearch hints sources unit seen) empty c.loop-name.invariant in
    IfOk-weaker c.names_of.result _ _
    (λ names is. record {
      sorted = subst (λ (l : List (List ℕ)). IsStrictlySortedBy name_cmp l) (sym is) c.names_of.ensures.ordered;
      sound = λ v there. walk.sound v (ap (λ l. has_name l v) (sym is) ∙ has-Contains v names.items there);
      complete = λ v rests blocks. Contains-has v names.items (ap (λ l. has_name l v) is ∙ all_seen hints sources unit c.requires seen walk v rests blocks);
      recursive = λ v rests back. Contains-has v names.items (ap (λ l. has_name l v) is ∙ recursive_seen hints sources unit c.requires seen walk v rests back);
      holders = λ v absent below. part_seen hints sources unit c.requires seen walk names.items is v absent below;
    })
    c.names_of.ensures.items
