use Rattle.std.proofs.Common.{[], ◌∷◌, ◌++◌, ◌∙◌, ap}
use Rattle.json.specs.Print.{print}
use Rattle.serde_json.proofs.Texts.{print-outline}
use Rattle.fb_messages.specs.Tokens.{tokens_of}
use Rattle.fb_messages.proofs.to_json.written_line.Goals as goal

pub returns : goal.returns
returns g c =
    let d = g.T.ToJson.said c.args.it.now in
    let begun = c.new-out.ensures in
    let said = c.in_ok-write.ensures in
    let before = said.0 ∙ begun.before ∙ c.new.ensures.items in
    let tokens = said.1 ∙ ap (λ ts. ts ++ tokens_of d) begun.tokens in
    c.in_ok-push.ensures.items ∙ ap (λ xs. xs ++ 10 ∷ []) (c.into_inner-line.ensures.items ∙ (λ i. before i ++ print (tokens i)) ∙ print-outline d)
