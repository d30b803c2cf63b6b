-- The one net that is kept is that of the unit of its name.
use Rattle.std.proofs.Common.{◌≡◌, ℕ, Bool, true, false, cond, List, Some, None, refl, subst, ◌∙◌}
use Rattle.std.specs.BTreeMap.{is_at}
use Rattle.fb_tree.specs.Text.Order.{name_cmp}
use Rattle.fb_library.specs.{View.{Sources}, Texts.{sources_of}}
use Rattle.fb_flatten.specs.{Net.{PlainNet, plain_net}, Nets.{net_at}, Hints.{AreRightHints}}
use Rattle.fb_network.proofs.Equals.{same_bytes}
use Rattle.network_tests.specs.OneHint.{hint_of}
use Rattle.network_tests.proofs.kept.net_beside.Goals as goal

by_name : (sources : Sources) (unit name : List ℕ) (kept net : PlainNet) (same : Bool) → is_at (name_cmp unit) name ≡ same → net_at sources unit ≡ Some kept → cond same (Some kept) None ≡ Some net → net_at sources name ≡ Some net
by_name sources unit name kept net true is own e = subst (λ (n : List ℕ). net_at sources n ≡ Some net) (same_bytes unit name is) (own ∙ e)
by_name sources unit name kept net false is own e = absurd (let no : ⊥ = cc in no)

one_is_right : (sources : Sources) (unit : List ℕ) (kept : PlainNet) → net_at sources unit ≡ Some kept → AreRightHints sources (hint_of unit kept)
one_is_right sources unit kept own name net e = by_name sources unit name kept net (is_at (name_cmp unit) name) refl own e

pub net_with-requires-clause-right : goal.net_with-requires-clause-right
net_with-requires-clause-right c = one_is_right (sources_of c.args.library.now) c.args.kept.now.unit (plain_net c.args.kept.now.net) c.requires.kept
