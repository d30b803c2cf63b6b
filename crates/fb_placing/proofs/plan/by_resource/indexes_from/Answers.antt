-- The list at the first place of the name.
use Rattle.std.proofs.{Common.{◌≡◌, Some, length, refl, sym, ◌∙◌, ap}, lemmas.Bool.{ltb-true}, lemmas.Option.{slice_get_read}, lemmas.Result.{IfOk-weaker}}
use Rattle.std.specs.Prelude.{option_map, slice_get}
use Rattle.fb_placing.specs.ByResource.{indexes_of}
use Rattle.fb_placing.proofs.plan.by_resource.indexes_from.Goals as goal

pub returns-in-Some-get : goal.returns-in-Some-get
returns-in-Some-get c =
    let there = indexes_of c.args.commands.now c.args.name.now in
    let lists = c.args.lists.now in
    let list = c.in-Some-get.list.now in
    let found = c.in-Some-get.ensures.lookup in
    let at : slice_get lists c.in-Some.place ≡ Some list = slice_get_read lists (length lists) c.in-Some.place list refl (ltb-true c.in-Some.place (length lists) (sym found.0)) found.1 in
    let listed : Some list.items ≡ Some there = ap (option_map (λ l. l.items)) (sym at) ∙ c.requires c.in-Some.place c.args.name.now c.in-Some.ensures.found in
    let same : list.items ≡ there = cc in
    IfOk-weaker c.copied.result _ _ (λ items e. e ∙ c.deref.ensures.value ∙ same) c.copied.ensures
