-- The walk from users to users, which ends where nothing is pending.
use Rattle.std.proofs.{Common.{◌≡◌, ◌+◌, [], ◌∷◌, ◌++◌, take, ap, subst, ◌∙◌, arith}, lemmas.Grind.{common_steps}, lemmas.Result.{IfOk-weaker}}
use Rattle.std.proofs.lemmas.List.{nil_from_length}
use Rattle.std.specs.List.{flat_map}
use Rattle.fb_library.specs.Seen.{Opens}
use Rattle.fb_library.proofs.WalkLemmas.{IsWalk, IsWalk-begin, IsWalk-step, opens_falls, opens_more}
use Rattle.fb_index.specs.{Indexed.{Indexed}, Near.{carrying_on}, Users.{users_of}}
use Rattle.fb_index.proofs.Walks.{all_users, carriers_within, carriers_at_end}
use Rattle.fb_index.proofs.tables.Tables.carriers.Goals as goal

pub loop-name-preserved : goal.loop-name-preserved
loop-name-preserved c =
    let names = c.args.names.now in
    let i = c.loop-name.name-index in
    let x = c.name-item.result in
    let more : take (i + 1) names ≡ take i names ++ x ∷ [] = grind (arith, common_steps) in
    let opens : Opens (users_of c.args.self.now.of_values x) c.loop-name.seen.keys c.loop-name.pending.items c.open_new.new.seen.keys c.open_new.new.pending.items = subst (λ us. Opens us c.loop-name.seen.keys c.loop-name.pending.items c.open_new.new.seen.keys c.open_new.new.pending.items) (c.as_slice.ensures.value ∙ c.in_ok-users.ensures ∙ ap (λ (it : Indexed). users_of it.of_values x) c.self.view_is) c.in_ok-open_new.ensures in
    opens_more (users_of c.args.self.now.of_values) (take i names) (take (i + 1) names) x _ _ _ _ more c.loop-name.invariant opens

pub loop-name-2-init : goal.loop-name-2-init
loop-name-2-init c =
    let names = c.args.names.now in
    let users = users_of c.args.self.now.of_values in
    let all : take c.loop-name.name-index names ≡ names = grind (arith, common_steps) in
    IsWalk-begin (carrying_on c.args.self.now) (flat_map users names) _ _ (subst (λ ns. Opens (flat_map users ns) [] [] c.loop-name.seen.keys c.loop-name.pending.items) all c.loop-name.invariant)

pub loop-name-2-preserved : goal.loop-name-2-preserved
loop-name-2-preserved c =
    let next = carrying_on c.args.self.now in
    let starts = flat_map (users_of c.args.self.now.of_values) c.args.names.now in
    let name = c.in-Some.name in
    let before : IsWalk next starts c.loop-name-2.seen.keys (c.pop.new.self.items ++ name ∷ []) = subst (IsWalk next starts c.loop-name-2.seen.keys) c.in-Some.ensures.items c.loop-name-2.invariant in
    let opens : Opens (next name) c.loop-name-2.seen.keys c.pop.new.self.items c.open_new-in-Some.new.seen.keys c.open_new-in-Some.new.pending.items = subst (λ us. Opens us c.loop-name-2.seen.keys c.pop.new.self.items c.open_new-in-Some.new.seen.keys c.open_new-in-Some.new.pending.items) (c.as_slice-in-Some.ensures.value ∙ c.in_ok-users-2.ensures) c.in_ok-open_new-2.ensures in
    IsWalk-step next starts _ _ _ _ name before opens

pub loop-name-2-smaller : goal.loop-name-2-smaller
loop-name-2-smaller c =
    let next = carrying_on c.args.self.now in
    let name = c.in-Some.name in
    let opens : Opens (next name) c.loop-name-2.seen.keys c.pop.new.self.items c.open_new-in-Some.new.seen.keys c.open_new-in-Some.new.pending.items = subst (λ us. Opens us c.loop-name-2.seen.keys c.pop.new.self.items c.open_new-in-Some.new.seen.keys c.open_new-in-Some.new.pending.items) (c.as_slice-in-Some.ensures.value ∙ c.in_ok-users-2.ensures) c.in_ok-open_new-2.ensures in
    opens_falls next (all_users c.args.self.now.of_values) (carriers_within c.args.self.now) name _ _ _ _ c.loop-name-2.pending.items opens c.in-Some.ensures.items

pub returns : goal.returns
returns c =
    let empty : c.loop-name-2.pending.items ≡ [] = nil_from_length c.loop-name-2.pending.items (omega (arith, c.in_default.ensures.cases, c.loop-name-2.pending.ok.0)) in
    let walk = subst (IsWalk (carrying_on c.args.self.now) (flat_map (users_of c.args.self.now.of_values) c.args.names.now) c.loop-name-2.seen.keys) empty c.loop-name-2.invariant in
    IfOk-weaker c.names_of.result _ _ (λ units is. carriers_at_end c.args.self.now c.args.names.now c.loop-name-2.seen.keys units.items is walk) c.names_of.ensures.items
