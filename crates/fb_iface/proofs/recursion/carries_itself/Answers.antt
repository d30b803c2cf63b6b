use Rattle.std.proofs.Common.{ap, ◌∙◌, nat_eq}
use Rattle.std.specs.{Cmp.Lexicographic.{pointwise}, List.{list_any}}
use Rattle.fb_library.specs.Seen.{has_name}
use Rattle.fb_iface.proofs.FieldLemmas.{found_among}
use Rattle.fb_iface.proofs.recursion.carries_itself.Goals as goal

pub returns : goal.returns
returns g c =
    let unit = c.args.unit.now in
    c.contains.ensures.value
    ∙ ap (list_any (λ x. pointwise nat_eq x unit)) c.as_slice.ensures.value
    ∙ found_among c.in_ok-names.names.items unit
    ∙ ap (λ names. has_name names unit) c.in_ok-names.ensures
