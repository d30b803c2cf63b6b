-- The key after as many.
use Rattle.std.proofs.{Common.{ap, slice_get, ◌∙◌}, lemmas.Iterator.Consumers.{nth_from_yields_List, YieldsList-from_rest}}
use Rattle.std.specs.BTreeMap as tree
use Rattle.std.specs.Map.{keys_of}
use Rattle.fb_entries.specs.Keyed.{Keyed}
use Rattle.fb_entries.proofs.entries.Entries.key_at.Goals as goal

pub returns-clause-key : goal.returns-clause-key
returns-clause-key c =
    c.copied.ensures
    ∙ nth_from_yields_List c.nth.result c.nth.new.self c.args.place c.nth.ensures.ran (YieldsList-from_rest (tree.keys c.entries.result.now) c.keys.ensures.rest)
    ∙ ap (λ es. slice_get (keys_of es) c.args.place) c.entries.ensures
    ∙ ap (λ (it : Keyed). slice_get (keys_of it.entries) c.args.place) c.self.view_is
