-- From the path itself to its shortest prefix.
use Rattle.std.proofs.Common.{◌≡◌, ℕ, suc, ◌-◌, List, Some, None, get_or, take, sym, ◌∙◌, ap, eq-eqb, arith, rules}
use Rattle.fb_placing.specs.HomeTable.{home_by_path}
use Rattle.fb_network.proofs.PrefixLemmas.{nearest_below, nearest_here, nearest_in_prefix, below_nothing, below_here}
use Rattle.fb_placing.proofs.homes.table.nearest_home.Goals as goal

pub returns-in-Some : goal.returns-in-Some
returns-in-Some c = sym (nearest_here (home_by_path c.args.by_path.now) c.args.path.now _ (sym c.in-Some.ensures))

pub loop-i-init : goal.loop-i-init
loop-i-init c = nearest_in_prefix (home_by_path c.args.by_path.now) c.args.path.now (sym c.in_default.ensures)

pub returns-in-Some-home_by_path : goal.returns-in-Some-home_by_path
returns-in-Some-home_by_path c =
    let at = home_by_path c.args.by_path.now in
    let path = c.args.path.now in
    let k = c.loop-i.i - 1 in
    let next : c.loop-i.i ≡ suc k = omega arith in
    let prefix : c.range.result.now ≡ take k path = search rules in
    let point : get_or path k 0 ≡ 46 = ap (λ (t : List ℕ). get_or t k 0) (sym c.as_bytes.ensures.value) ∙ c.if-as_bytes-i-eq46.true in
    let there : at (take k path) ≡ Some c.in-Some-home_by_path.found.now = ap at (sym prefix) ∙ sym c.in-Some-home_by_path.ensures in
    sym (c.loop-i.invariant ∙ ap (nearest_below at path) next ∙ below_here at path k c.in-Some-home_by_path.found.now (eq-eqb (get_or path k 0) 46 point) there)

pub loop-i-preserved-in_default-home_by_path : goal.loop-i-preserved-in_default-home_by_path
loop-i-preserved-in_default-home_by_path c =
    let at = home_by_path c.args.by_path.now in
    let path = c.args.path.now in
    let k = c.loop-i.i - 1 in
    let next : c.loop-i.i ≡ suc k = omega arith in
    let prefix : c.range.result.now ≡ take k path = search rules in
    let nothing : at (take k path) ≡ None = ap at (sym prefix) ∙ sym c.in_default-home_by_path.ensures in
    c.loop-i.invariant ∙ ap (nearest_below at path) next ∙ below_nothing at path k nothing
