-- The commands of resources, by items.
use Rattle.std.proofs.Common.{ℕ, ◌≡◌, ◌<◌, Bool, true, false, cond, List, [], ◌∷◌, ◌++◌, length, get_or, map, refl, sym, ap, ◌∙◌}
use Rattle.std.proofs.lemmas.Option.{slice_get-map, slice_get_read}
use Rattle.std.specs.{Prelude.{filter, slice_get}, Cmp.Lexicographic.{same_text}, Str.{bytes_eq}, Option.{option_map}}
use Rattle.fb_network.specs.{Laid.{text_or_nothing}, PlainFlat.{PlainFlat}}
use Rattle.fb_placing.specs.{CommandIndexes.{command_text, command_texts_of, plain_command}, PlainResource.{PlainResource}}
use Rattle.fb_placing.specs.{Resources.{commands_for, resource_plan}, declared.plan.command_index.CommandIndex.{CommandIndex}}
use Rattle.fb_placing.specs.{declared.plan.write_commands.PlacedCommand.{PlacedCommand}, declared.plan.assigned_commands.AssignedCommand.{AssignedCommand}}

-- the items that are for a resource say its commands
pub items_said : (flat : PlainFlat) (writes : List (List ℕ)) (name : List ℕ) (commands : List AssignedCommand) → command_texts_of flat writes name (map (λ o. o.index) (filter (λ o. bytes_eq name o.resource.now) commands)) ≡ commands_for (map (plain_command flat writes) commands) name
items_said flat writes name [] = refl
items_said flat writes name (o ∷ os) = by_test (bytes_eq name o.resource.now) refl (items_said flat writes name os)
  where
    rest : List AssignedCommand
    rest = filter (λ (n : AssignedCommand). bytes_eq name n.resource.now) os

    by_test : (b : Bool) → bytes_eq name o.resource.now ≡ b → command_texts_of flat writes name (map (λ (n : AssignedCommand). n.index) rest) ≡ commands_for (map (plain_command flat writes) os) name → command_texts_of flat writes name (map (λ (n : AssignedCommand). n.index) (cond b (o ∷ rest) rest)) ≡ map (λ n. n.command) (cond b (plain_command flat writes o ∷ filter (λ n. bytes_eq name n.resource) (map (plain_command flat writes) os)) (filter (λ n. bytes_eq name n.resource) (map (plain_command flat writes) os)))
    by_test true e same = λ i. command_text flat writes (same_text name o.resource.now (sym e) i) o.index ∷ same i
    by_test false e same = same

-- the command of a line by its number
pub write_there : (placed : List PlacedCommand) (i : ℕ) (x : PlacedCommand) → i < length placed → x ≡ get_or placed i x → text_or_nothing (slice_get (map (λ l. l.command) placed) i) ≡ x.command
write_there placed i x lt e =
    ap text_or_nothing (slice_get-map (λ (l : PlacedCommand). l.command) placed i ∙ ap (option_map (λ (l : PlacedCommand). l.command)) (slice_get_read placed (length placed) i x refl lt e))

-- a resource with the items that are for it
pub resource_said : (flat : PlainFlat) (writes : List (List ℕ)) (name copy : List ℕ) (items : List CommandIndex) (commands : List AssignedCommand) → copy ≡ name → items ≡ map (λ o. o.index) (filter (λ o. bytes_eq name o.resource.now) commands) → (let r : PlainResource = record { name = copy; commands = command_texts_of flat writes copy items } in r) ≡ resource_plan (map (plain_command flat writes) commands) name
resource_said flat writes name copy items commands same are =
    (λ i. record { name = same i; commands = command_texts_of flat writes (same i) items })
    ∙ ap (λ (commands : List (List ℕ)). (let r : PlainResource = record { name = name; commands = commands } in r)) (ap (command_texts_of flat writes name) are ∙ items_said flat writes name commands)

-- four lists, each behind those before it
pub four_behind : {X : Type 0} (n0 n1 n2 n3 n4 ks bs cs ds : List X) → n0 ≡ [] → n1 ≡ n0 ++ ks → n2 ≡ n1 ++ bs → n3 ≡ n2 ++ cs → n4 ≡ n3 ++ ds → n4 ≡ ks ++ bs ++ cs ++ ds
four_behind {X = X} n0 n1 n2 n3 n4 ks bs cs ds none a b c d =
    let one : n1 ≡ ks = a ∙ ap (λ (l : List X). l ++ ks) none in
    let two : n2 ≡ ks ++ bs = b ∙ ap (λ (l : List X). l ++ bs) one in
    let three : n3 ≡ ks ++ bs ++ cs = c ∙ ap (λ (l : List X). l ++ cs) two in
    d ∙ ap (λ (l : List X). l ++ ds) three
