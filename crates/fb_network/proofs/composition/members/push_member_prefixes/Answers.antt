-- Each prefix stands behind those that there were.
use Rattle.std.proofs.{Common.{rules, ◌≡◌, get_or}, lemmas.List.{get_or_default}}
use Rattle.fb_network.specs.{declared.paths.place.Place.{Place}}
use Rattle.fb_network.proofs.PortMembers.{adds_member, adds_nothing}
use Rattle.fb_network.proofs.composition.members.push_member_prefixes.Goals as goal

pub loop-place-init : goal.loop-place-init
loop-place-init c = rw c.in_ok-numbers.ensures.items (adds_nothing c.args.prefixes.now c.args.names.now.value.items)

pub loop-place-preserved : goal.loop-place-preserved
loop-place-preserved c =
    let prefixes = c.loop-place.prefixes in
    let names = c.args.names.now.value.items in
    let k = c.loop-place.place-index in
    let x : Place = get_or c.args.places.now k (record { prefix = 0; end = 0 }) in
    let at : x ≡ get_or c.args.places.now k x = get_or_default c.args.places.now k (record { prefix = 0; end = 0 }) x c.loop-place-test.true in
    adds_member c.args.prefixes.now prefixes c.push-in-loop-place.new.self names c.loop-place.numbers.items c.push.new.self.items c.args.places.now k c.in_ok-count.field-0 x
    c.loop-place.invariant c.requires c.loop-place-test.true at c.in_ok-count.ensures (search rules) c.in_ok-push.ensures.items
