use Rattle.std.proofs.Common.{◌∙◌}
use Rattle.fb_tree.specs.Tree.{decl_tree}
use Rattle.fb_parse.proofs.Bodies.{broken_body, whole_body}
use Rattle.fb_parse.proofs.body.Body.of_text.Goals as goal

pub returns-in-Ok : goal.returns-in-Ok
returns-in-Ok c =
    c.whole_or_broken.ensures
    ∙ whole_body c.args.text.now c.of-tokens.result c.unit.new.tokens (decl_tree c.in-Ok.decl) c.of-tokens.ensures c.in-Ok.ensures

pub returns-in-Err-Broken : goal.returns-in-Err-Broken
returns-in-Err-Broken c =
    c.broken.ensures ∙ broken_body c.args.text.now c.of-tokens.result c.unit.new.tokens c.of-tokens.ensures (rw c.in-Err-Broken.field-0-is at c.in-Err-Broken.ensures)
