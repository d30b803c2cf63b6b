-- The unit has a text, or none.
use Rattle.std.proofs.{Common.{◌≡◌, Some, sym, ap, ◌∙◌}, lemmas.Result.{IfOk-weaker}}
use Rattle.fb_index.specs.{Library.Texts.{text_at}, Library.View.{mentions_of_tree, tree_of}, Library.Parse.declared.source.Source.{Source}, Library.Parse.Body.{body_of, mentions_in_body}}
use Rattle.fb_index.proofs.Library.Mentioned.{in_body}
use Rattle.fb_tree.specs.Mentions.{mentioned}
use Rattle.fb_entries.proofs.Indexing.{updated_none, updated_text}
use Rattle.fb_entries.proofs.reach.update.Goals as goal

pub returns-in-Some : goal.returns-in-Some
returns-in-Some c =
    let text = c.in-Some.source.now.value.text in
    let there : text_at c.args.after.now c.args.unit.now ≡ Some text = sym c.in-Some.ensures.text in
    let mentions : mentioned c.mentions.result.now ≡ mentions_of_tree (tree_of text) = c.mentions.ensures ∙ ap (λ (it : Source). mentions_in_body (body_of it.text)) c.deref.ensures ∙ in_body (body_of text) in
    IfOk-weaker c.replace.result _ _ (λ _ is. updated_text c.args.after.now c.args.unit.now c.args.index.now c.replace.new.self text (mentioned c.mentions.result.now) there mentions is) c.replace.ensures.ok

pub returns-in-None : goal.returns-in-None
returns-in-None c =
    IfOk-weaker c.remove.result _ _ (λ _ is. updated_none c.args.after.now c.args.unit.now c.args.index.now c.remove.new.self (sym c.in-None.ensures.text) is) c.remove.ensures.ok
