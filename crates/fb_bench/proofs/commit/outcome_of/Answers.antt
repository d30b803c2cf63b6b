-- A refusal is the machine's, and what is found is that of the texts after good changes.
use Rattle.std.proofs.Common.{◌<◌, ◌≤◌, List, length, refl, arith}
use Rattle.fb_entries.specs.{Library.Texts.{Edit}, Library.Changes.{edits_of}}
use Rattle.fb_bench.proofs.Committing.{refused_at, refused_stays, too_many_at, done_at, changes_once, others_stay}
use Rattle.fb_bench.proofs.commit.outcome_of.Goals as goal

pub returns-in-Some : goal.returns-in-Some
returns-in-Some c =
    let edits : List Edit = edits_of c.args.changes.now in (
      refused_at c.args.most_units c.args.number c.args.present.now.library.now edits c.in-Some.refused c.in-Some.ensures,
      λ s. refused_stays c.args.present.now.library.now edits c.in-Some.refused s c.in-Some.ensures,
    )

pub returns-then-most_units-len : goal.returns-then-most_units-len
returns-then-most_units-len c =
    let edits : List Edit = edits_of c.args.changes.now in
    let many : c.args.most_units < length c.in_ok-after.after = omega (arith, c.len.ensures, c.if-most_units-len.true) in
    (too_many_at c.args.most_units c.args.number c.args.present.now.library.now c.in_ok-after.after edits c.in_default.ensures c.in_ok-after.ensures many, λ s. refl)

-- the changes are good ones
pub found-requires : goal.found-requires
found-requires c =
    let edits : List Edit = edits_of c.args.changes.now in
    record {
      known = c.requires;
      once = changes_once c.args.present.now.library.now edits c.in_default.ensures;
      others = others_stay c.args.number edits c.args.present.now.library.now c.in_ok-after.after c.in_ok-after.ensures;
    }

pub returns : goal.returns
returns c =
    let edits : List Edit = edits_of c.args.changes.now in
    let few : length c.in_ok-after.after ≤ c.args.most_units = omega (arith, c.len.ensures, c.if-most_units-len.false) in (
      done_at c.args.most_units c.args.number c.args.present.now.library.now c.in_ok-after.after edits c.in_default.ensures c.in_ok-after.ensures few,
      c.in_ok-after.ensures,
      c.in_ok-found.ensures.index,
      c.in_ok-found.ensures.renewal,
    )
