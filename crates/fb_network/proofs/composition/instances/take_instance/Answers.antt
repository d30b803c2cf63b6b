-- A block is one leaf more, and what a subapplication instance holds is taken in.
use Rattle.std.proofs.{Common.{◌≡◌, [], ◌∷◌, ◌++◌, refl, sym, subst, ◌∙◌, ap}, lemmas.Result.{IfOk-weaker}}
use Rattle.std.specs.Option.{option_copied}
use Rattle.fb_network.proofs.Standings.{takes_block, takes_inner, takes_unknown}
use Rattle.fb_network.proofs.composition.instances.take_instance.Goals as goal

pub returns-in_ok-push-in-Block : goal.returns-in_ok-push-in-Block
returns-in_ok-push-in-Block g c =
    let leaves = subst (λ t. c.push.new.self.items ≡ c.args.draft.now.leaves.items ++ record { place = c.args.name; type_name = t } ∷ []) c.in_ok-keep-in-Block.ensures c.in_ok-push-in-Block.ensures.items in
    takes_block c.args.draft.now _ c.args.instance.now c.new.result.items c.args.name c.in-Block.is c.requires refl refl leaves c.new.ensures.items

pub returns-in-Some : goal.returns-in-Some
returns-in-Some g c =
    IfOk-weaker c.take_in.result _ _
    (λ edges t. takes_inner c.args.draft.now c.take_in.new.draft c.args.instance.now c.in-Some.inner.now edges.items c.in-Subapplication.is (sym (sym (ap option_copied c.in-Some.is) ∙ c.net.ensures)) t)
    c.take_in.ensures

pub returns-in-None : goal.returns-in-None
returns-in-None g c =
    takes_unknown c.args.draft.now c.args.instance.now c.new-in-None.result.items c.in-Subapplication.is (sym (sym (ap option_copied c.in-None.is) ∙ c.net.ensures)) c.new-in-None.ensures.items
