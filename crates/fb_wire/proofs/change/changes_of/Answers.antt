use Rattle.std.proofs.{Common.{◌≡◌, ◌<◌, ℕ, [], ◌∷◌, ◌∙◌, Err, List, Ok, ap, get_or, length, map, sym, take}, lemmas.List.{map-append}}
use Rattle.fb_library.specs.{Texts.{Edit}, Changes.{edit_of, edits_of}}
use Rattle.fb_wire.specs.{declared.change.ChangeError.{ChangeError}, Progress.{ChangeMade, ChangesMade}, Conversations.{edit_in, edits_in}}
use Rattle.fb_wire.specs.declared.change.ChangeError.TheVariants as fault
use Rattle.fb_messages.specs.{declared.request.AskedChange.{AskedChange}, ReplyView.{refusal_text}, RequestView.{change_view}}
use Rattle.fb_wire.proofs.Changes.{one_more_edit, one_refused}
use Rattle.fb_wire.proofs.change.changes_of.Goals as goal

refusal_kept : (asked : List AskedChange) (i : ℕ) (d : AskedChange) (edits : List Edit) (e : ChangeError) → i < length asked
    → edits_in (map change_view (take i asked)) ≡ Ok edits → ChangeMade (edit_in (change_view (get_or asked i d))) (Err e) → ChangesMade (edits_in (map change_view asked)) (Err e)
refusal_kept asked i d edits (fault.Refused refusal) within before is = one_refused change_view asked i d edits (refusal_text refusal) within before is
refusal_kept asked i d edits fault.Memory within before is = tt

pub returns-in-Err : goal.returns-in-Err
returns-in-Err c =
    refusal_kept c.args.asked.now c.loop-one.one-index _ (edits_of c.loop-one.changes.items) c.in-Err.fault c.loop-one-test.true c.loop-one.invariant (rw c.in-Err.is at c.change_of.ensures)

pub loop-one-preserved : goal.loop-one-preserved
loop-one-preserved c =
    let made = rw c.in-Ok.is at c.change_of.ensures in
    let more = one_more_edit change_view c.args.asked.now c.loop-one.one-index _ (edits_of c.loop-one.changes.items) (edit_of c.in-Ok.change) c.loop-one-test.true c.loop-one.invariant made in
    more ∙ ap Ok (sym (ap (map edit_of) c.in-Ok-push.ensures.items ∙ map-append edit_of c.loop-one.changes.items (c.in-Ok.change ∷ [])))
