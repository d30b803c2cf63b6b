-- One application further.
use Rattle.std.proofs.{Common.{List, [], ◌∷◌, ◌++◌, sym, subst, take}, lemmas.List.{take_all}}
use Rattle.fb_network.specs.declared.flat.application.FlatApplication.{FlatApplication}
use Rattle.fb_types.specs.{declared.systems.Application.{Application}, Units.{AreFlatApplications, NoApplication}}
use Rattle.fb_types.proofs.FoundUnits.{applications_further, flats-push}
use Rattle.fb_types.proofs.composed.flats_of_applications.Goals as goal

pub loop-application-init : goal.loop-application-init
loop-application-init g c whole can =
    subst (λ (l : List FlatApplication). AreFlatApplications whole [] l) (sym c.new-flats.ensures.items) NoApplication

pub loop-application-preserved : goal.loop-application-preserved
loop-application-preserved g c whole can =
    let list = c.args.applications.now in
    let i = c.loop-application.application-index in
    let a = c.application-item.result in
    applications_further list i a c.push.new.self.items c.loop-application-test.true c.application-item.is
    (subst (λ (l : List FlatApplication). AreFlatApplications whole (take i list ++ a ∷ []) l) (sym c.in_ok-push.ensures.items)
    (flats-push a c.in_ok-flat_of_application.field-0 (c.loop-application.invariant whole can)
    (c.in_ok-flat_of_application.ensures whole (can a (i, c.loop-application-test.true, sym c.application-item.is)))))

pub returns : goal.returns
returns g c whole can =
    subst (λ (l : List Application). AreFlatApplications whole l c.loop-application.flats.items)
    (take_all c.loop-application.application-index c.args.applications.now c.loop-application-test.false)
    (c.loop-application.invariant whole can)
