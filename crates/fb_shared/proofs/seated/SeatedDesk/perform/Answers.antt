use Rattle.std.proofs.Common.{◌≡◌, ◌∙◌, Err, ap, subst, sym}
use Rattle.fb_locked.specs.{Refusals.{refusal_of}, Seats.{SeatView}}
use Rattle.fb_shared.specs.Seated.{RefusedAtDesk, SeatedView}
use Rattle.fb_shared.proofs.{Refusals.{desk_refused}, seated.SeatedDesk.perform.Goals.{in-Ok, in-Err}}
use Rattle.fb_shared.proofs.seated.SeatedDesk.perform.Goals as goal

pub returns-clause-refused : goal.returns-clause-refused
returns-clause-refused g c =
    let seat : c.self.inside.seat ≡ c.args.self.now.seat = ap (λ (s : SeatedView). s.seat) c.self.view_is in
    elim c.match-perform_into.branch [
      | in-Ok w ↦
          let performs = rw w.in-Ok.is at c.perform_into.ensures.performs in (
            performs.0,
            performs.1,
            subst (λ (s : SeatView). RefusedAtDesk (refusal_of performs.0 s) c.match-perform_into.result) seat (subst (RefusedAtDesk (refusal_of performs.0 c.self.inside.seat)) (sym w.result-is) performs.2.1.1.0),
          )
      | in-Err w ↦
          let performs = rw w.in-Err.is at c.perform_into.ensures.performs in (
            performs.0,
            performs.1,
            subst (λ (s : SeatView). RefusedAtDesk (refusal_of performs.0 s) c.match-perform_into.result) seat (subst (RefusedAtDesk (refusal_of performs.0 c.self.inside.seat)) (sym (w.result-is ∙ ap Err w.named.ensures)) (desk_refused _ w.in-Err.refused performs.2.1.0)),
          )
    ]
