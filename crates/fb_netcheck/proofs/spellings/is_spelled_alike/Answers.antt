use Rattle.std.proofs.Common.{◌≡◌, Some, ◌∙◌, ap, sym, nat_eq}
use Rattle.std.specs.{BTreeMap.{get}, Cmp.Lexicographic.{pointwise}, Option.{option_copied}}
use Rattle.fb_netcheck.specs.{Known.{PartKey, part_cmp}, Spellings.{words_at}}
use Rattle.fb_netcheck.proofs.spellings.is_spelled_alike.Goals as goal

pub returns-in-Some-Some : goal.returns-in-Some-Some
returns-in-Some-Some g c =
    let sources = g.V.View.sources c.args.view.now in
    let known = c.args.known.now in
    let spelling = c.in-Some-Some.spelling.now in
    let other = c.in-Some-Some.other.now in
    let first : get part_cmp known c.key_of.result ≡ Some spelling = sym c.get-kept.ensures.value ∙ ap option_copied c.in-Some-Some.is-0 in
    let second : get part_cmp known c.key_of-2.result ≡ Some other = sym c.in-Some-Some.ensures.value in
    let one : spelling.items ≡ words_at sources c.args.unit.now c.args.span = c.requires c.key_of.result spelling first ∙ ap (λ (k : PartKey). words_at sources k.0 (record { start = k.1.0; end = k.1.1 })) c.key_of.ensures in
    let two : other.items ≡ words_at sources c.args.other_unit.now c.args.other_span = c.requires c.key_of-2.result other second ∙ ap (λ (k : PartKey). words_at sources k.0 (record { start = k.1.0; end = k.1.1 })) c.key_of-2.ensures in
    c.eq.ensures ∙ (λ i. pointwise nat_eq ((c.as_slice.ensures.value ∙ one) i) ((c.as_slice-in-Some-Some.ensures.value ∙ two) i))
