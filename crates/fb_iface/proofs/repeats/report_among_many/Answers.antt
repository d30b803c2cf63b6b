use Rattle.std.proofs.Common.{◌≡◌, ◌+◌, ◌<◌, not, true, false, ap, subst, sym, ◌∙◌, arith, get_or, length, map, take, ◌∷◌, [], ◌++◌, nat_eq}
use Rattle.std.proofs.{lemmas.Grind.{common_steps}, lemmas.List.{get_or-map, length-map, take_more}}
use Rattle.std.specs.{Cmp.Lexicographic.{pointwise}, HashSet.{contains, Updates}}
use Rattle.fb_iface.specs.{Fault.{faults_at}, Names.{has_name}, declared.code.Code.TheVariants.{Duplicate}}
use Rattle.fb_iface.proofs.RepeatLemmas.{noted-push, repeated_all, repeated_among, reported-again, reported-first}
use Rattle.fb_iface.proofs.repeats.report_among_many.Goals.{then-not-branch+in_ok-push, else-not-branch}
use Rattle.fb_iface.proofs.repeats.report_among_many.Goals as goal

pub loop-declaration-preserved : goal.loop-declaration-preserved
loop-declaration-preserved g c =
    let name_of = g.T.Named.name_of in
    let names = map name_of c.args.declarations.now in
    let i = c.loop-declaration.declaration-index in
    let x = c.name-name.result in
    let within : i < length names = omega (arith, length-map c.args.declarations.now name_of) in
    let inside : i < length c.args.declarations.now = omega arith in
    let named : x ≡ name_of c.declaration-item.result = c.name-name.ensures in
    let here : x ≡ get_or names i x = named ∙ ap name_of c.declaration-item.is ∙ sym (get_or-map name_of c.args.declarations.now i c.declaration-item.result x inside) in
    let more : take (i + 1) names ≡ take i names ++ x ∷ [] = take_more names i x within ∙ ap (λ y. take i names ++ y ∷ []) (sym here) in
    let known : c.in_ok-insert.field-0 ≡ not (has_name (take i names) x.name) = c.in_ok-insert.ensures.added ∙ ap (λ n. not (contains (pointwise nat_eq) c.loop-declaration.seen n)) c.name.ensures ∙ ap not (c.loop-declaration.invariant.noted x.name) in
    record {
      reported = elim c.if-not-branch.branch [
        | then-not-branch+in_ok-push w ↦
            let again : has_name (take i names) x.name ≡ true = grind (arith, common_steps, known, w.if-not-branch.true) in
            let told = reported-again Duplicate names i x within here again in
            grind (arith, common_steps, told, c.loop-declaration.invariant.reported)
        | else-not-branch w ↦
            let first : has_name (take i names) x.name ≡ false = grind (arith, common_steps, known, w.if-not-branch.false) in
            let told = reported-first Duplicate names i x within here first in
            cc (told, c.loop-declaration.invariant.reported, w.found-is)
      ];
      noted = λ q. noted-push (take i names) x c.loop-declaration.seen c.insert.new.self c.loop-declaration.invariant.noted (subst (λ n. Updates (pointwise nat_eq) c.loop-declaration.seen c.insert.new.self n true) c.name.ensures c.in_ok-insert.ensures.updates) q ∙ ap (λ l. has_name l q) (sym more);
    }

pub returns : goal.returns
returns g c =
    let names = map g.T.Named.name_of c.args.declarations.now in
    let all : c.loop-declaration.declaration-index ≡ length names = omega (arith, length-map c.args.declarations.now g.T.Named.name_of) in
    c.loop-declaration.invariant.reported
    ∙ ap (λ l. c.args.found.now.items ++ faults_at Duplicate l) (ap (λ n. repeated_among n names) all ∙ repeated_all names)
