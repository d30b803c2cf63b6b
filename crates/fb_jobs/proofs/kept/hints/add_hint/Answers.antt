-- A net that is kept of another subapplication is one more.
use Rattle.std.proofs.Common.{ℕ, List, Bool, not, ◌&&◌, is_some, Some, sym, ap, ◌∙◌}
use Rattle.std.specs.{BTreeMap.{is_at}, Prelude.{option_copied, option_map}}
use Rattle.fb_text.specs.Order.{name_cmp}
use Rattle.fb_deploy.specs.{Flatten.Tables.{is_subapplication_in}, Library.Texts.{sources_of}, Library.View.{tree_at}}
use Rattle.fb_jobs.specs.{declared.kept.hints.Hint.{Hint}, declared.values.value.Value.{Value}, Hints.{net_key}, Values.{finding_of, seen_of}}
use Rattle.fb_jobs.proofs.HintLemmas.{adds_none, adds_one, tree_read}
use Rattle.fb_jobs.proofs.kept.hints.add_hint.Goals.{then-same_name-via-then-same_name, then-same_name-via-else-same_name+then-not-is_subapplication}
use Rattle.fb_jobs.proofs.kept.hints.add_hint.Goals as goal

pub returns-then-same_name : goal.returns-then-same_name
returns-then-same_name g c texts of =
    let kept = g.K.Cache.kept c.args.kept.now in
    let unit = c.args.unit.now in
    let name = c.args.read.now.name in
    let some = is_some (kept (net_key name)) in
    let sub = is_subapplication_in (tree_at (sources_of texts) name) in
    let own = ap (is_at (name_cmp unit)) (sym c.name-name.ensures) in
    elim c.then-same_name.branch [
      | then-same_name-via-then-same_name w ↦
          adds_none texts kept unit name c.args.hints.now.items (ap (λ (b : Bool). (not b && sub) && some) (own ∙ sym c.same_name.ensures ∙ w.if-same_name.true))
      | then-same_name-via-else-same_name+then-not-is_subapplication w ↦
          let no = sym (ap is_subapplication_in (tree_read texts (seen_of c.args.read.now) of)) ∙ sym w.is_subapplication.ensures ∙ w.if-not-is_subapplication.true in
          adds_none texts kept unit name c.args.hints.now.items (ap (λ (b : Bool). (not b && sub) && some) (own ∙ sym c.same_name.ensures ∙ w.if-same_name.false) ∙ ap (λ (b : Bool). b && some) no)
    ]

pub returns-in_ok-push : goal.returns-in_ok-push
returns-in_ok-push g c texts of =
    let kept = g.K.Cache.kept c.args.kept.now in
    let unit = c.args.unit.now in
    let name = c.args.read.now.name in
    let some = is_some (kept (net_key name)) in
    let sub = is_subapplication_in (tree_at (sources_of texts) name) in
    let yes = sym (ap is_subapplication_in (tree_read texts (seen_of c.args.read.now) of)) ∙ sym c.is_subapplication.ensures ∙ c.if-not-is_subapplication.false in
    let kept_is = ap kept (sym c.net_key.ensures) ∙ sym c.value.ensures ∙ ap (λ o. option_map (λ it. finding_of it.value) (option_copied o)) c.in-Some.is in
    let hint : Hint = record { unit = c.name-name.result; value = c.in_ok-clone.field-0 } in
    adds_one texts kept unit name c.args.hints.now.items c.push.new.self.items hint
    (ap (λ (b : Bool). (not b && sub) && some) (ap (is_at (name_cmp unit)) (sym c.name-name.ensures) ∙ sym c.same_name.ensures ∙ c.if-same_name.false) ∙ ap (λ (b : Bool). b && some) yes ∙ ap (λ (n : List ℕ). is_some (kept (net_key n))) (sym c.name-name.ensures) ∙ ap is_some kept_is)
    c.name-name.ensures (kept_is ∙ ap (λ (v : Value). Some (finding_of v)) (sym c.in_ok-clone.ensures.cases)) c.in_ok-push.ensures.items
