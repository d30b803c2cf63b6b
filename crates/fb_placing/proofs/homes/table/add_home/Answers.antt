-- A path that stands for something keeps it, and another one is added.
use Rattle.std.proofs.{Common.{◌≡◌, false, ℕ, List, is_some, sym, ◌∙◌, ap}, lemmas.Map.Text.{hash_map_updates_str}}
use Rattle.std.specs.{Prelude.{option_map}, Borrow.{Bor}, HashMap.{get_by}, Str.{bytes_eq}}
use Rattle.fb_placing.proofs.{InstanceLemmas.{form_added}, TableLemmas.{added_first}}
use Rattle.fb_placing.proofs.homes.table.add_home.Goals as goal

pub returns-in_ok-insert : goal.returns-in_ok-insert
returns-in_ok-insert c = λ q.
    let old = c.args.by_path.now in
    let new = c.insert.new.self in
    let path = c.args.path.now in
    let resource = c.args.resource in
    let none : is_some (get_by (λ k. bytes_eq path k.now) old) ≡ false = sym c.contains_key.ensures ∙ c.if-not-contains_key.true in
    ap (option_map (λ (r : Bor (List ℕ)). r.now)) (added_first (λ (p : List ℕ). get_by (λ k. bytes_eq p k.now) old) (λ (p : List ℕ). get_by (λ k. bytes_eq p k.now) new) path resource none (hash_map_updates_str path old new _ c.in_ok-insert.ensures.updates) q)
    ∙ form_added (λ (r : Bor (List ℕ)). r.now) (get_by (λ k. bytes_eq q k.now) old) (bytes_eq path q) resource
