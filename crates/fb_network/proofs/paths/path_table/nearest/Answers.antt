-- From the path itself to its shortest prefix.
use Rattle.std.proofs.Common.{◌≡◌, ℕ, suc, ◌-◌, List, Some, None, get_or, take, sym, ◌∙◌, ap, eq-eqb, arith, rules}
use Rattle.std.specs.HashMap.{get_by_text}
use Rattle.fb_network.proofs.PrefixLemmas.{nearest_below, nearest_here, nearest_in_prefix, below_nothing, below_here}
use Rattle.fb_network.proofs.paths.path_table.nearest.Goals as goal

pub returns-in-Some : goal.returns-in-Some
returns-in-Some c = sym (nearest_here (get_by_text c.args.table.now) c.args.path.now _ (sym c.in-Some.ensures.value))

pub loop-i-init : goal.loop-i-init
loop-i-init c = nearest_in_prefix (get_by_text c.args.table.now) c.args.path.now (sym c.in_default.ensures.value)

pub returns-in-Some-get : goal.returns-in-Some-get
returns-in-Some-get c =
    let at = get_by_text c.args.table.now in
    let path = c.args.path.now in
    let k = c.loop-i.i - 1 in
    let next : c.loop-i.i ≡ suc k = omega arith in
    let prefix : c.range.result.now ≡ take k path = search rules in
    let point : get_or path k 0 ≡ 46 = ap (λ (t : List ℕ). get_or t k 0) (sym c.as_bytes.ensures.value) ∙ c.if-as_bytes-i-eq46.true in
    let there : at (take k path) ≡ Some c.in-Some-get.found.now = ap at (sym prefix) ∙ sym c.in-Some-get.ensures.value in
    sym (c.loop-i.invariant ∙ ap (nearest_below at path) next ∙ below_here at path k c.in-Some-get.found.now (eq-eqb (get_or path k 0) 46 point) there)

pub loop-i-preserved-in_default-get : goal.loop-i-preserved-in_default-get
loop-i-preserved-in_default-get c =
    let at = get_by_text c.args.table.now in
    let path = c.args.path.now in
    let k = c.loop-i.i - 1 in
    let next : c.loop-i.i ≡ suc k = omega arith in
    let prefix : c.range.result.now ≡ take k path = search rules in
    let nothing : at (take k path) ≡ None = ap at (sym prefix) ∙ sym c.in_default-get.ensures.value in
    c.loop-i.invariant ∙ ap (nearest_below at path) next ∙ below_nothing at path k nothing
