-- Each mapping that is passed is added, if its path has none yet.
use Rattle.std.proofs.{Common.{◌≡◌, ℕ, List, cond, Some, None, string_bytes, ◌∙◌, ap, sym}, lemmas.List.{take_all}}
use Rattle.std.specs.{HashMap.{get_by_text}, Option.{option_or}, Str.{bytes_eq}}
use Rattle.fb_tree.specs.{Tree.{mapping_tree}, declared.system.Mapping.{Mapping}}
use Rattle.fb_placing.specs.{FirstEntry.{first_at}, Mappings.{mapping_home, mapping_path}}
use Rattle.fb_placing.proofs.FirstEntryLemmas.{first_at-map, table_step}
use Rattle.fb_placing.proofs.homes.mappings.mapping_table.Goals as goal

abbrev path : Mapping → List ℕ
path m = mapping_path (mapping_tree m)

abbrev home : Mapping → List ℕ
home m = mapping_home (mapping_tree m)

pub loop-mapping-preserved : goal.loop-mapping-preserved
loop-mapping-preserved c =
    let x = c.mapping-item.result in
    let old = get_by_text c.loop-mapping.table in
    let text : string_bytes c.in_ok-text.text ≡ path x = c.in_ok-text.ensures in
    let resource : c.in_ok-home.field-0 ≡ home x = c.in_ok-home.ensures in
    table_step path home c.args.mappings.now c.loop-mapping.mapping-index x old (get_by_text c.insert_first.new.table) c.loop-mapping-test.true c.mapping-item.is c.loop-mapping.invariant
    (λ q. c.in_ok-insert_first.ensures q ∙ (λ i. option_or (old q) (cond (bytes_eq (text i) q) (Some (resource i)) None)))

pub returns : goal.returns
returns c =
    let whole = take_all c.loop-mapping.mapping-index c.args.mappings.now c.loop-mapping-test.false in
    λ k q. (c.loop-mapping.invariant q ∙ ap (λ (ms : List Mapping). first_at path home ms q) whole ∙ sym (first_at-map mapping_tree mapping_path mapping_home c.args.mappings.now q)) k
