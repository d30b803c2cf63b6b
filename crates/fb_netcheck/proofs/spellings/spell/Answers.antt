use Rattle.std.proofs.Common.{◌∙◌, ap, sym}
use Rattle.std.specs.BTreeMap.{get}
use Rattle.fb_netcheck.specs.{Known.{PartKey, part_cmp}, Spellings.{words_at}}
use Rattle.fb_netcheck.proofs.KnownLemmas.{kept_more}
use Rattle.fb_netcheck.proofs.spellings.spell.Goals as goal

pub returns-in_ok-insert : goal.returns-in_ok-insert
returns-in_ok-insert g c =
    let sources = g.V.View.sources c.args.view.now in
    let key = c.key_of-key.result in
    kept_more sources key c.in_ok-spelling.spelling (get part_cmp c.args.known.now) (get part_cmp c.insert.new.self) c.requires
    (c.in_ok-spelling.ensures ∙ ap (λ (k : PartKey). words_at sources k.0 (record { start = k.1.0; end = k.1.1 })) (sym c.key_of-key.ensures))
    c.in_ok-insert.ensures.updates.0
