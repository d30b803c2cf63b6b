-- What a source keeps of its mentions is what its tree mentions.
use Rattle.std.proofs.Common.{◌≡◌, refl}
use Rattle.fb_parse.specs.Body.{BodyTree, Whole, BrokenAt, mentions_in_body}
use Rattle.fb_library.specs.View.{mentions_of_tree, tree_in}

pub in_body : (body : BodyTree) → mentions_in_body body ≡ mentions_of_tree (tree_in body)
in_body (Whole decl) = refl
in_body (BrokenAt span) = refl
