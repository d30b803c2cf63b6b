-- What is composed by the table is the flat network by the texts.
use Rattle.std.proofs.Common.{◌≡◌, List, Some, sym, subst, ◌∙◌}
use Rattle.std.specs.BTreeMap.{get}
use Rattle.fb_types.specs.{Text.Order.{name_cmp}, Tree.Tree.{decl_tree}, Library.View.{tree_at}, Units.{IsUnitFlat}}
use Rattle.fb_types.specs.declared.systems.Application.{Application}
use Rattle.fb_flatten.specs.Tables.{AreComposedTogether, known_flats}
use Rattle.fb_flatten.proofs.{CountLemmas.{in_table}, FlatsLemmas.{flat_of_system_is, flat_of_type_is}, SoundLemmas.{sound_tree}}
use Rattle.fb_flatten.proofs.units.flat_of_unit.Goals.{then-is_of_system+in_ok-found+in_ok-flat, else-is_of_system+in_ok-flat-2}
use Rattle.fb_types.proofs.FoundUnits.{present_of, some_of_map}
use Rattle.fb_flatten.proofs.units.flat_of_unit.Goals as goal

pub unwrap-decl-requires : goal.unwrap-decl-requires
unwrap-decl-requires g c =
    let t = sound_tree (c.requires.order.names.sound _ c.requires.order.own) in
    some_of_map _ c.tree_by_name.result t.tree (c.tree_by_name.ensures ∙ t.present)

pub flat_of_type-requires : goal.flat_of_type-requires
flat_of_type-requires g c = in_table c.requires.order.names c.requires.table c.args.unit.now c.requires.order.own

pub returns : goal.returns
returns g c =
    let sources = g.V.View.sources c.args.view.now in
    let unit = c.args.unit.now in
    let present : tree_at (g.V.View.sources c.args.view.now) c.args.unit.now ≡ Some (decl_tree c.unwrap-decl.result.now) = present_of _ c.tree_by_name.ensures c.unwrap-decl.ensures in
    let table = get name_cmp c.args.table.now in
    let nets = known_flats (g.H.Hints.hints c.args.hints.now) (get name_cmp c.in_ok-flats.flats) in
    let is : IsUnitFlat sources unit c.if-is_of_system.flat =
    elim c.if-is_of_system.branch [
      | then-is_of_system+in_ok-found+in_ok-flat w ↦
          subst (IsUnitFlat sources unit) (sym w.flat-is)
          (flat_of_system_is c.requires.order c.requires.table nets (decl_tree c.unwrap-decl.result.now) present (sym c.is_of_system.ensures ∙ w.if-is_of_system.true) c.in_ok-flats.ensures.finished c.requires.small
          (subst (λ (l : List Application). AreComposedTogether table nets l w.in_ok-flat.flat) (w.as_slice.ensures.value ∙ w.in_ok-found.ensures) w.in_ok-flat.ensures))
      | else-is_of_system+in_ok-flat-2 w ↦
          subst (IsUnitFlat sources unit) (sym w.flat-is)
          (flat_of_type_is c.requires.order c.requires.table (decl_tree c.unwrap-decl.result.now) c.requires.net present (sym c.is_of_system.ensures ∙ w.if-is_of_system.false) c.in_ok-flats.ensures.finished c.requires.small w.in_ok-flat-2.ensures)
    ] in
    record { flat = is; finished = c.in_ok-flats.ensures.finished; missing = c.in_ok-flats.ensures.missing }
