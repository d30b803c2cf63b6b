use Rattle.std.proofs.{Common.{◌≡◌, ◌∷◌, [], refl, ap, sym, ◌∙◌, arith}, lemmas.Result.{IfOk-weaker}, lemmas.List.{nil_from_length}}
use Rattle.fb_library.specs.{Near.{in_all_trees}, Seen.{has_name}, View.{mentions_at, mentions_in}}
use Rattle.fb_library.proofs.FarLemmas.{seen_rests, rests_seen}
use Rattle.fb_library.proofs.WalkLemmas.{IsWalk-one, IsWalk-step, begun, one_pushed, opens_falls, mentioned_somewhere, Contains-has, has-Contains}
use Rattle.fb_library.proofs.walk.far.Goals as goal

pub loop-name-init : goal.loop-name-init
loop-name-init g c =
    IsWalk-one _ _ _ _ (begun _ _ _ c.new-seen.ensures.empty c.in_ok-insert.ensures.updates) (one_pushed _ _ _ c.new-pending.ensures.items c.in_ok-push.ensures.items)

pub loop-name-preserved : goal.loop-name-preserved
loop-name-preserved g c =
    IsWalk-step (mentions_at (g.V.View.sources c.args.view.now)) (c.args.unit ∷ []) _ _ _ _ c.in-Some.name (rw c.in-Some.ensures.items at c.loop-name.invariant) c.in_ok-open_mentions.ensures

pub loop-name-smaller : goal.loop-name-smaller
loop-name-smaller g c =
    let sources = g.V.View.sources c.args.view.now in
    opens_falls (mentions_at sources) (in_all_trees mentions_in sources) (mentioned_somewhere mentions_in refl sources) c.in-Some.name _ _ _ _ c.loop-name.pending.items c.in_ok-open_mentions.ensures c.in-Some.ensures.items

pub returns-clause-sound : goal.returns-clause-sound
returns-clause-sound g c =
    IfOk-weaker c.names_of.result _ _ (λ names is v there. seen_rests c.loop-name.invariant v (ap (λ l. has_name l v) (sym is) ∙ has-Contains v names.items there)) c.names_of.ensures.items

pub returns-clause-complete : goal.returns-clause-complete
returns-clause-complete g c =
    let empty : c.loop-name.pending.items ≡ [] = nil_from_length c.loop-name.pending.items (omega (arith, c.in_default.ensures.cases, c.loop-name.pending.ok.0)) in
    let walk = rw empty at c.loop-name.invariant in
    IfOk-weaker c.names_of.result _ _ (λ names is v rests. Contains-has v names.items (ap (λ l. has_name l v) is ∙ rests_seen walk v rests)) c.names_of.ensures.items
