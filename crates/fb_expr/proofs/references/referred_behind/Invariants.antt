use Rattle.std.proofs.Common.{◌≡◌, drop}
use Rattle.fb_expr.specs.{Names.{names_in}, References.{walk}}
use Rattle.fb_expr.proofs.references.referred_behind.Given as goal

abbrev pub invariant-loop-member : goal.invariant-loop-member
invariant-loop-member l =
    walk (names_in l.names) l.referent (drop l.member-index l.members) ≡ walk (names_in l.names) l.initial.referent l.members
