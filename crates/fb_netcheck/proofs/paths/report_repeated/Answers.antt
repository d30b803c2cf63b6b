use Rattle.std.proofs.Common.{◌≡◌, ◌+◌, ◌<◌, not, true, false, ap, sym, ◌∙◌, arith, get_or, length, map, take, ◌∷◌, [], ◌++◌, append-nil}
use Rattle.std.proofs.{lemmas.Grind.{common_steps}, lemmas.List.{get_or-map, length-map, take_more}}
use Rattle.fb_netcheck.specs.Paths.{fault_at_path, has_path}
use Rattle.fb_netcheck.proofs.RepeatLemmas.{none_repeated, noted-push, repeated_all, repeated_among, reported-again, reported-first}
use Rattle.fb_netcheck.proofs.paths.report_repeated.Goals.{then-not-branch+in_ok-push, else-not-branch}
use Rattle.fb_netcheck.proofs.paths.report_repeated.Goals as goal

pub loop-item-preserved : goal.loop-item-preserved
loop-item-preserved g c =
    let path_of = g.T.Placed.path_of in
    let paths = map path_of c.args.items.now in
    let i = c.loop-item.item-index in
    let x = path_of c.item-item.result in
    let within : i < length paths = omega (arith, length-map c.args.items.now path_of) in
    let inside : i < length c.args.items.now = omega arith in
    let here : x ≡ get_or paths i x = ap path_of c.item-item.is ∙ sym (get_or-map path_of c.args.items.now i c.item-item.result x inside) in
    let named : c.in_ok-path.path.items ≡ x.names = c.in_ok-path.ensures in
    let more : take (i + 1) paths ≡ take i paths ++ x ∷ [] = take_more paths i x within ∙ ap (λ y. take i paths ++ y ∷ []) (sym here) in
    let known : c.in_ok-insert.field-0 ≡ not (has_path (take i paths) x.names) = c.in_ok-insert.ensures.added ∙ ap not (c.loop-item.invariant.noted c.in_ok-path.path ∙ ap (has_path (take i paths)) named) in
    record {
      reported = elim c.if-not-branch.branch [
        | then-not-branch+in_ok-push w ↦
            let again : has_path (take i paths) x.names ≡ true = grind (arith, common_steps, known, w.if-not-branch.true) in
            let told = reported-again c.args.code paths i x within here again in
            grind (arith, common_steps, told, c.loop-item.invariant.reported)
        | else-not-branch w ↦
            let first : has_path (take i paths) x.names ≡ false = grind (arith, common_steps, known, w.if-not-branch.false) in
            let told = reported-first c.args.code paths i x within here first in
            cc (told, c.loop-item.invariant.reported, w.found-is)
      ];
      noted = λ q. noted-push (take i paths) x c.in_ok-path.path c.loop-item.seen c.insert.new.self named c.loop-item.invariant.noted c.in_ok-insert.ensures.updates q ∙ ap (λ l. has_path l q.items) (sym more);
    }

pub returns : goal.returns
returns g c =
    let paths = map g.T.Placed.path_of c.args.items.now in
    let all : c.loop-item.item-index ≡ length paths = omega (arith, length-map c.args.items.now g.T.Placed.path_of) in
    c.loop-item.invariant.reported
    ∙ ap (λ l. c.args.found.now.items ++ map (fault_at_path c.args.code) l) (ap (λ n. repeated_among n paths) all ∙ repeated_all paths)

pub returns-then-items-lt2 : goal.returns-then-items-lt2
returns-then-items-lt2 g c =
    let paths = map g.T.Placed.path_of c.args.items.now in
    let few : length paths < 2 = omega (arith, length-map c.args.items.now g.T.Placed.path_of, c.if-items-lt2.true) in
    sym (append-nil c.args.found.now.items) ∙ ap (λ l. c.args.found.now.items ++ map (fault_at_path c.args.code) l) (sym (none_repeated paths few))
