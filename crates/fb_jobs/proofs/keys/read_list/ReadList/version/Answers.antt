-- The text is at its place.
use Rattle.std.proofs.Common.{◌≡◌, ◌<◌, length, get_or, slice_get, Some, sym, ap, subst, ◌∙◌, arith}
use Rattle.fb_jobs.proofs.TextLemmas.{read_there}
use Rattle.fb_jobs.proofs.keys.read_list.ReadList.version.Goals as goal

pub returns-in-Some-Some : goal.returns-in-Some-Some
returns-in-Some-Some c =
    let place = c.args.place in
    let versions = c.self.inside.versions.items in
    let lookup = c.in-Some-Some.ensures.lookup in
    let same = c.deref.ensures.value in
    let version = c.in-Some-Some.version in
    let below : place < length versions = omega (arith, lookup.3.0, ap length same) in
    let here : Some version ≡ get_or versions place (Some version) = subst (λ v. v ≡ get_or versions place v) c.in-Some-Some.field-0-is (lookup.1 ∙ ap (λ vs. get_or vs place c.in-Some-Some.field-0.now) same) in
    sym (read_there versions c.self.inside.absent.items place c.self.invariant version below here ∙ ap (λ seen. slice_get seen place) c.self.view_is)
