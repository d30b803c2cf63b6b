-- One more part of a text that is spelled out.
use Rattle.std.proofs.Common.{◌≡◌, ℕ, Bool, true, false, cond, Vec, Option, Some, sym, ap, ◌∙◌}
use Rattle.std.specs.{BTreeMap.{is_at}, FinMap.{nat_cmp-IsAntisymmetric, slice_cmp-IsAntisymmetric}, Ordering.{nat_cmp, ordering_then}}
use Rattle.std.specs.declared.alloc.Global.{Global}
use Rattle.fb_tree.proofs.Text.OrderLemmas.{is_equal, both_equal}
use Rattle.fb_tree.specs.Text.Order.{name_cmp}
use Rattle.fb_iface.specs.Library.View.{Sources}
use Rattle.fb_netcheck.specs.{Known.{AreSpellings, PartKey, part_cmp}, Spellings.{words_at}}

-- parts that compare equal are one
same_part : (a b : PartKey) → is_at (part_cmp a) b ≡ true → a ≡ b
same_part a b e =
    let all = both_equal (name_cmp a.0 b.0) (ordering_then (nat_cmp a.1.0 b.1.0) (nat_cmp a.1.1 b.1.1)) (is_equal (part_cmp a b) e) in
    let place = both_equal (nat_cmp a.1.0 b.1.0) (nat_cmp a.1.1 b.1.1) all.1 in
    let units = slice_cmp-IsAntisymmetric nat_cmp-IsAntisymmetric a.0 b.0 all.0 in
    let starts = nat_cmp-IsAntisymmetric a.1.0 b.1.0 place.0 in
    let ends = nat_cmp-IsAntisymmetric a.1.1 b.1.1 place.1 in
    λ i. (units i, (starts i, ends i))

-- what is kept with one more
pub kept_more : (sources : Sources) (key : PartKey) (spelling : Vec ℕ Global) (old new : PartKey → Option (Vec ℕ Global)) → AreSpellings sources old → spelling.items ≡ words_at sources key.0 (record { start = key.1.0; end = key.1.1 }) → ((q : PartKey) → new q ≡ cond (is_at (part_cmp key) q) (Some spelling) (old q)) → AreSpellings sources new
kept_more sources key spelling old new kept spelled updates q s e = by (is_at (part_cmp key) q) (same_part key q) (sym (updates q) ∙ e)
  where
    by : (b : Bool) → (b ≡ true → key ≡ q) → cond b (Some spelling) (old q) ≡ Some s → s.items ≡ words_at sources q.0 (record { start = q.1.0; end = q.1.1 })
    by true same e = let it : spelling ≡ s = cc in ap (λ (v : Vec ℕ Global). v.items) (sym it) ∙ spelled ∙ ap (λ (k : PartKey). words_at sources k.0 (record { start = k.1.0; end = k.1.1 })) (same (λ _. true))
    by false same e = kept q s e
