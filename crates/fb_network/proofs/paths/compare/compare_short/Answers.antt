-- The other start is cut where this one ends.
use Rattle.std.proofs.Common.{◌≡◌, take, drop, length, refl, arith}
use Rattle.fb_network.proofs.Texts.{by_other_cut}
use Rattle.fb_network.proofs.paths.compare.compare_short.Goals as goal

pub returns-in-Some : goal.returns-in-Some
returns-in-Some c =
    let first : c.in-Some.first.now ≡ take (length c.args.start.now) c.args.other_start.now = c.in-Some.ensures.front in
    let rest : c.in-Some.rest.now ≡ drop (length c.args.start.now) c.args.other_start.now = c.in-Some.ensures.back in
    let cut = by_other_cut c.args.start.now c.args.end.now c.args.other_start.now c.args.other_end.now _ refl c.requires in
    grind arith
