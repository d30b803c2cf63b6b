use Rattle.std.proofs.Common.{ap, ◌∙◌}
use Rattle.fb_shared.specs.Seated.{SeatedView}
use Rattle.fb_host.specs.HostSessions.{SessionView}
use Rattle.fb_host.proofs.SessionLemmas.{desk_runs, desk_shown}
use Rattle.fb_host.proofs.session.run_host_session.Goals as goal

pub returns-clause-conversation : goal.returns-clause-conversation
returns-clause-conversation g c =
    let t = c.run_lines-end.ensures.conversation.0 in
    let seat = ap (λ (s : SeatedView). s.seat) c.seated.view_is ∙ ap (λ (s : SessionView). s.seated.seat) c.desk.view_is in
    let receipts = ap (λ (s : SessionView). s.seated.receipts) c.desk.view_is in
    let runs = desk_runs t.pairs _ _ _ _ _ _ c.new-desk.ensures c.run_lines-end.ensures.conversation.1 seat receipts in
    (t, (desk_shown t.pairs _ _ _ _ runs).0, runs)

pub returns-clause-run : goal.returns-clause-run
returns-clause-run g c =
    let t = c.run_lines-end.ensures.conversation.0 in
    let seat = ap (λ (s : SeatedView). s.seat) c.seated.view_is ∙ ap (λ (s : SessionView). s.seated.seat) c.desk.view_is in
    let receipts = ap (λ (s : SessionView). s.seated.receipts) c.desk.view_is in
    (desk_shown t.pairs _ _ _ _ (desk_runs t.pairs _ _ _ _ _ _ c.new-desk.ensures c.run_lines-end.ensures.conversation.1 seat receipts)).1
