use Rattle.std.proofs.Common.{◌≡◌, ◌∙◌, None, Some, ap, option_map, refl, sym}
use Rattle.fb_entries.specs.Library.Texts.{held}
use Rattle.fb_history.specs.Reads.{revision_of_entry}
use Rattle.fb_bench.proofs.Behind.{unit_at}
use Rattle.fb_bench.proofs.snapshot.revision_at.Goals as goal

pub unreachable-requires-in-None : goal.unreachable-requires-in-None
unreachable-requires-in-None c =
    let it = unit_at c.args.library.now c.args.place c.name_at.ensures.sorted c.requires in
    let named : Some c.in-Some.unit ≡ Some it.unit.0 = sym c.in-Some.is ∙ c.name_at.ensures.name ∙ it.named in
    let same : c.in-Some.unit ≡ it.unit.0 = cc in
    let none = rw c.in-None.is at c.filed_near.ensures.held in
    let gone : None ≡ Some it.unit.1 = none ∙ ap (held c.args.library.now) same ∙ it.holds in
    cc

pub returns : goal.returns
returns c =
    let it = unit_at c.args.library.now c.args.place c.name_at.ensures.sorted c.requires in
    let named : Some c.in-Some.unit ≡ Some it.unit.0 = sym c.in-Some.is ∙ c.name_at.ensures.name ∙ it.named in
    let same : c.in-Some.unit ≡ it.unit.0 = cc in
    let found = rw c.in-Some-filed_near.is at c.filed_near.ensures.held in
    let holds : Some c.in-Some-filed_near.filed.now.held ≡ Some it.unit.1 = found ∙ ap (held c.args.library.now) same ∙ it.holds in
    let text : c.in-Some-filed_near.filed.now.held ≡ it.unit.1 = cc in
    rw (c.revision-number.ensures, it.there) (λ k. Some (record { unit = same k; number = (text k).revision }))
