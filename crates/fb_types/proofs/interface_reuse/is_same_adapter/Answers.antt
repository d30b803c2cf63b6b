-- Names that are told to be the same are one name.
use Rattle.std.proofs.Common.{Some, sym, ap, ◌∙◌}
use Rattle.fb_network.proofs.Equals.{same_bytes}
use Rattle.fb_types.proofs.interface_reuse.is_same_adapter.Goals as goal

pub returns-in-Some-Some : goal.returns-in-Some-Some
returns-in-Some-Some c told =
    c.in-Some-Some.is-0 ∙ ap (λ n. Some n) (same_bytes _ _ (sym c.same_name.ensures ∙ told)) ∙ sym c.in-Some-Some.is-1
