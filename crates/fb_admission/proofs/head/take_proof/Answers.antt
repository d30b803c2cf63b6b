use Rattle.std.proofs.Common.{rules, refl}
use Rattle.fb_admission.specs.Heads.{IsFirstLine}
use Rattle.fb_secret.specs.Exchange.{IsForeign}
use Rattle.fb_admission.proofs.FirstLines.{foreign_line}
use Rattle.fb_admission.proofs.head.take_proof.Goals as goal

-- src/head.rt:51:9
pub returns-in_default-2-clause-proof : goal.returns-in_default-2-clause-proof
returns-in_default-2-clause-proof c =
    let first : IsFirstLine c.args.head.now.items c.in-Some.line.now c.in-Some.rest.now = search rules in
    let foreign : IsForeign c.args.secret.now c.args.challenge.now c.in-Some.line.now = search rules in
    (foreign_line c.args.secret.now c.args.challenge.now c.args.head.now.items c.in-Some.line.now c.in-Some.rest.now first foreign, refl)
