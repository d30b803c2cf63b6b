-- One line further.
use Rattle.std.proofs.{Common.{ℕ, ◌≡◌, ◌++◌, ◌∷◌, List, [], map, take, sym, ap, ◌∙◌, append_assoc}, lemmas.List.{take_all}}
use Rattle.std.specs.Prelude.{slice_get}
use Rattle.fb_network.specs.Laid.{text_or_nothing}
use Rattle.fb_placing.specs.{CommandIndexes.{plain_command}, ResourceCommand.{ResourceCommand}, SystemCommands.{without_place}}
use Rattle.fb_placing.specs.declared.plan.write_commands.PlacedCommand.{PlacedCommand}
use Rattle.fb_placing.proofs.{IndexLemmas.{write_there}, ListLemmas.{map-push, one_more}}
use Rattle.fb_placing.proofs.plan.assigned_commands.push_writes.Goals as goal

pub loop-i-preserved : goal.loop-i-preserved
loop-i-preserved c = λ flat.
    let placed = c.args.placed.now in
    let writes = map (λ (line : PlacedCommand). line.command) placed in
    let i = c.loop-i.i in
    let x = c.index-placed-i.result in
    let lt = c.loop-i-test.true in
    let base = map (plain_command flat writes) c.args.commands.now.items in
    let command : text_or_nothing (slice_get writes c.in_ok-number.field-0) ≡ x.command =
    ap (λ (n : ℕ). text_or_nothing (slice_get writes n)) c.in_ok-number.ensures.same ∙ write_there placed i x lt c.index-placed-i.is in
    ap (map (plain_command flat writes)) c.in_ok-push.ensures.items
    ∙ map-push (plain_command flat writes) c.loop-i.commands.items _
    ∙ (λ k. c.loop-i.invariant flat k ++ (let o : ResourceCommand = record { resource = (sym c.index-placed-i.is k).resource; command = command k } in o) ∷ [])
    ∙ append_assoc base (map without_place (take i placed)) (without_place x ∷ [])
    ∙ ap (λ (l : List ResourceCommand). base ++ l) (sym (ap (map without_place) (one_more placed i x lt c.index-placed-i.is) ∙ map-push without_place (take i placed) x))

pub returns : goal.returns
returns c = λ flat.
    let placed = c.args.placed.now in
    let base = map (plain_command flat (map (λ (line : PlacedCommand). line.command) placed)) c.args.commands.now.items in
    c.loop-i.invariant flat ∙ ap (λ (l : List PlacedCommand). base ++ map without_place l) (take_all c.loop-i.i placed c.loop-i-test.false)
