-- One home more is clear.
use Rattle.std.proofs.{Common.{◌≡◌, ℕ, List, None, true, false, sym, ◌∙◌, ap, subst, rules}, lemmas.Bool.{not-false}, lemmas.List.{take_all}}
use denote.Shadow.{shadow}
use denote.Text.{Utf8}
use Rattle.std.specs.Borrow.{Bor}
use Rattle.fb_network.specs.Prefixes.{nearest}
use Rattle.fb_placing.specs.{Points.{HasNoPoint}, HomeTable.{home_by_path}}
use Rattle.fb_placing.proofs.{ApartLemmas.{AreClear, all_clear, clear_name, clear_parted, one_clear}, TableLemmas.{same_text}}
use Rattle.fb_placing.proofs.homes.table.are_apart.Goals.{in-Some+then-ne+else-is_some-2, in-Some+else-ne, in_default}
use Rattle.fb_placing.proofs.homes.table.are_apart.Goals as goal

pub loop-home-preserved : goal.loop-home-preserved
loop-home-preserved c =
    let at = home_by_path c.args.by_path.now in
    let homes = c.args.homes.now in
    let h = c.home-item.result in
    let more = one_clear at homes c.loop-home.home-index h c.loop-home-test.true c.home-item.is c.loop-home.invariant.clear in
    elim c.match-split_last.branch [
      | in-Some+then-ne+else-is_some-2 w ↦
          let outer = w.in-Some.outer.now in
          let nothing : nearest at outer ≡ None = search rules in
          let moved : c.match-split_last.last.now ≡ outer = ap (λ (b : Bor (List ℕ)). b.now) w.last-is in
          let parts = w.in-Some.ensures.parts in
          record {
            text = subst (λ (t : List ℕ). shadow (Utf8 t)) (sym moved) (search rules);
            last = ap (nearest at) moved ∙ nothing;
            clear = more (clear_parted at h.path outer _ (sym c.as_str.ensures ∙ parts.0) parts.1 nothing);
          }
      | in-Some+else-ne w ↦
          let outer = w.in-Some.outer.now in
          let kept : c.match-split_last.last.now ≡ c.loop-home.last.now = ap (λ (b : Bor (List ℕ)). b.now) w.last-is in
          let same : outer ≡ c.loop-home.last.now = same_text outer c.loop-home.last.now (not-false _ (sym w.ne.ensures ∙ w.if-ne.false)) in
          let parts = w.in-Some.ensures.parts in
          record {
            text = subst (λ (t : List ℕ). shadow (Utf8 t)) (sym kept) c.loop-home.invariant.text;
            last = ap (nearest at) kept ∙ c.loop-home.invariant.last;
            clear = more (clear_parted at h.path outer _ (sym c.as_str.ensures ∙ parts.0) parts.1 (ap (nearest at) same ∙ c.loop-home.invariant.last));
          }
      | in_default w ↦
          let kept : c.match-split_last.last.now ≡ c.loop-home.last.now = ap (λ (b : Bor (List ℕ)). b.now) w.last-is in
          record {
            text = subst (λ (t : List ℕ). shadow (Utf8 t)) (sym kept) c.loop-home.invariant.text;
            last = ap (nearest at) kept ∙ c.loop-home.invariant.last;
            clear = more (clear_name at h.path (subst HasNoPoint c.as_str.ensures w.in_default.ensures.alone));
          }
    ]

pub returns : goal.returns
returns c = λ yes.
    let homes = c.args.homes.now in
    all_clear (home_by_path c.args.by_path.now) homes c.requires (subst (AreClear (home_by_path c.args.by_path.now)) (take_all c.loop-home.home-index homes c.loop-home-test.false) c.loop-home.invariant.clear)
