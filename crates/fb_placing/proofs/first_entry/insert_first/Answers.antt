-- A text that stands for something keeps it, and another one is added.
use Rattle.std.proofs.{Common.{◌≡◌, ℕ, List, false, is_some, string_bytes, sym, ◌∙◌, ap}, lemmas.Map.Text.{hash_map_updates_text}}
use Rattle.std.specs.HashMap.{get_by_text}
use Rattle.fb_placing.proofs.TableLemmas.{added_first}
use Rattle.fb_placing.proofs.first_entry.insert_first.Goals as goal

pub returns-in_ok-insert : goal.returns-in_ok-insert
returns-in_ok-insert g c =
    let old = c.args.table.now in
    let new = c.insert.new.self in
    let text = string_bytes c.args.text in
    let none : is_some (get_by_text old text) ≡ false = ap (λ (t : List ℕ). is_some (get_by_text old t)) (sym c.as_str.ensures.value) ∙ sym c.contains_key.ensures ∙ c.if-not-contains_key.true in
    added_first (get_by_text old) (get_by_text new) text c.args.value none (hash_map_updates_text text old new _ c.in_ok-insert.ensures.updates)
