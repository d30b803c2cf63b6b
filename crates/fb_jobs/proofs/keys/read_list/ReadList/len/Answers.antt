-- There is a place for each read.
use Rattle.std.proofs.{Common.{◌≡◌, length, map, arith, sym, ap, ◌∙◌}, lemmas.List.{length-map}}
use Rattle.fb_jobs.specs.Texts.{text_of}
use Rattle.fb_jobs.proofs.TextLemmas.{seen_count}
use Rattle.fb_jobs.proofs.keys.read_list.ReadList.len.Goals as goal

pub returns : goal.returns
returns c =
    let versions = c.self.inside.versions.items in
    let all : c.len.result ≡ length versions = omega (arith, c.len.ensures, c.self.inside.versions.ok.0) in
    all ∙ sym (length-map versions text_of) ∙ sym (seen_count (map text_of versions) c.self.inside.absent.items c.self.invariant) ∙ ap length c.self.view_is
