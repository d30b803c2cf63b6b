use Rattle.std.proofs.Common.{◌≡◌, ◌<◌, ◌||◌, Bool, List, ap, refl, sym, ◌∙◌, arith, get_or, length, map, take, ◌∷◌, [], ◌++◌}
use Rattle.std.proofs.{lemmas.Grind.{common_steps}, lemmas.List.{get_or-map, length-map, take-map}}
use Rattle.std.specs.List.{list_any}
use Rattle.fb_iface.specs.{Fault.{faults_at}, Names.{has_name, is_same}, declared.code.Code.TheVariants.{Duplicate}}
use Rattle.fb_iface.proofs.RepeatLemmas.{repeated_all, repeated_among, reported-again, reported-first}
use Rattle.fb_iface.proofs.repeats.report_among_few.Goals.{then-is_declared+in_ok-push, else-is_declared}
use Rattle.fb_iface.proofs.repeats.report_among_few.Goals as goal

any_map : {X Y : Type 0} (f : X → Y) (p : Y → Bool) (xs : List X) → list_any p (map f xs) ≡ list_any (λ x. p (f x)) xs
any_map f p [] = refl
any_map f p (x ∷ xs) = ap (λ b. p (f x) || b) (any_map f p xs)

pub loop-i-preserved : goal.loop-i-preserved
loop-i-preserved g c =
    let name_of = g.T.Named.name_of in
    let items = c.args.declarations.now in
    let names = map name_of items in
    let i = c.loop-i.i in
    let x = c.name-name.result in
    let within : i < length names = omega (arith, length-map items name_of) in
    let inside : i < length items = omega arith in
    let here : x ≡ get_or names i x = c.name-name.ensures ∙ ap name_of c.index-declarations-i.is ∙ sym (get_or-map name_of items i c.index-declarations-i.result x inside) in
    let known : c.is_declared.result ≡ has_name (take i names) x.name =
    c.is_declared.ensures
    ∙ ap (λ n. list_any (λ d. is_same (name_of d).name n) (take i items)) c.name.ensures
    ∙ sym (any_map name_of (λ n. is_same n.name x.name) (take i items))
    ∙ ap (λ l. has_name l x.name) (sym (take-map name_of i items)) in
    elim c.if-is_declared.branch [
      | then-is_declared+in_ok-push w ↦
          let told = reported-again Duplicate names i x within here (sym known ∙ w.if-is_declared.true) in
          grind (arith, common_steps, told, c.loop-i.invariant)
      | else-is_declared w ↦
          let told = reported-first Duplicate names i x within here (sym known ∙ w.if-is_declared.false) in
          cc (told, c.loop-i.invariant, w.found-is)
    ]

pub returns : goal.returns
returns g c =
    let names = map g.T.Named.name_of c.args.declarations.now in
    let all : c.loop-i.i ≡ length names = omega (arith, length-map c.args.declarations.now g.T.Named.name_of) in
    c.loop-i.invariant
    ∙ ap (λ l. c.args.found.now.items ++ faults_at Duplicate l) (ap (λ n. repeated_among n names) all ∙ repeated_all names)
