use Rattle.fb_tree.proofs.Text.OrderLemmas.{same_name}
use Rattle.fb_netcheck.proofs.repeats.is_same_name.Goals as goal

pub returns : goal.returns
returns c = cc (same_name c.args.name.now.name c.args.other.now.name, c.eq.ensures, c.as_str.ensures.text, c.as_str-2.ensures.text)
