-- The unit is there, and what it rests on is counted.
use Rattle.std.proofs.Common.{◌≡◌, Some, ◌∙◌}
use Rattle.fb_types.specs.{Tree.Tree.{decl_tree}, Library.View.{tree_at}}
use Rattle.fb_flatten.proofs.{CountLemmas.{unit_counted}, SoundLemmas.{sound_tree}}
use Rattle.fb_types.proofs.FoundUnits.{present_of, some_of_map}
use Rattle.fb_flatten.proofs.units.instances_of_unit.Goals as goal

pub unwrap-decl-requires : goal.unwrap-decl-requires
unwrap-decl-requires g c =
    let t = sound_tree c.requires.sound in
    some_of_map _ c.tree_by_name.result t.tree (c.tree_by_name.ensures ∙ t.present)

pub returns : goal.returns
returns g c =
    let present : tree_at (g.V.View.sources c.args.view.now) c.args.unit.now ≡ Some (decl_tree c.unwrap-decl.result.now) = present_of _ c.tree_by_name.ensures c.unwrap-decl.ensures in
    unit_counted (decl_tree c.unwrap-decl.result.now) c.count_of_unit.result c.requires.sound present c.requires.counted c.count_of_unit.ensures
