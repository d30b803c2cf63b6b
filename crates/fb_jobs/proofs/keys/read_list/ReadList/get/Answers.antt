-- A text stands at its place, and an absent name behind those of the places before it.
use Rattle.std.proofs.Common.{◌≡◌, ◌<◌, ◌≤◌, take, count_by, is_none, length, get_or, slice_get, Some, None, ap, subst, ◌∙◌, arith}
use Rattle.fb_jobs.specs.Library.Filed.{filed_text}
use Rattle.fb_jobs.proofs.TextLemmas.{absent_below, read_nothing, read_past, read_there}
use Rattle.fb_jobs.proofs.keys.read_list.ReadList.get.Goals as goal

pub index-requires : goal.index-requires
index-requires c =
    let place = c.args.place in
    let versions = c.self.inside.versions.items in
    let lookup = c.in-Some-None.ensures.lookup in
    let same = c.deref.ensures.value in
    let below : place < length versions = omega (arith, lookup.3.0, ap length same) in
    let none : None ≡ get_or versions place None = subst (λ v. v ≡ get_or versions place v) c.in-Some-None.field-0-is (lookup.1 ∙ ap (λ vs. get_or vs place c.in-Some-None.field-0.now) same) in
    let behind = absent_below versions c.self.inside.absent.items place c.self.invariant c.absent_count.result below none
    (c.absent_count.ensures ∙ ap (λ vs. count_by is_none (take place vs)) c.deref-in-Some-None.ensures.value) in
    omega (arith, behind, c.self.inside.absent.ok.0)

pub returns-in-None : goal.returns-in-None
returns-in-None c =
    let past : length c.self.inside.versions.items ≤ c.args.place = omega (arith, c.in-None.ensures.lookup.3, ap length c.deref.ensures.value) in
    read_past c.self.inside.versions.items c.self.inside.absent.items c.args.place c.self.invariant past
    ∙ ap (λ seen. slice_get seen c.args.place) c.self.view_is

pub returns-in-Some-Some : goal.returns-in-Some-Some
returns-in-Some-Some c =
    let place = c.args.place in
    let versions = c.self.inside.versions.items in
    let lookup = c.in-Some-Some.ensures.lookup in
    let same = c.deref.ensures.value in
    let version = c.in-Some-Some.version in
    let below : place < length versions = omega (arith, lookup.3.0, ap length same) in
    let here : Some version ≡ get_or versions place (Some version) = subst (λ v. v ≡ get_or versions place v) c.in-Some-Some.field-0-is (lookup.1 ∙ ap (λ vs. get_or vs place c.in-Some-Some.field-0.now) same) in
    (λ k. Some (record { name = (c.deref-in-Some-Some.ensures k).unit; found = Some (filed_text (c.deref-in-Some-Some-2.ensures k)).held }))
    ∙ read_there versions c.self.inside.absent.items place c.self.invariant version below here
    ∙ ap (λ seen. slice_get seen place) c.self.view_is

pub returns-in-Some-None : goal.returns-in-Some-None
returns-in-Some-None c =
    let place = c.args.place in
    let versions = c.self.inside.versions.items in
    let lookup = c.in-Some-None.ensures.lookup in
    let same = c.deref.ensures.value in
    let below : place < length versions = omega (arith, lookup.3.0, ap length same) in
    let none : None ≡ get_or versions place None = subst (λ v. v ≡ get_or versions place v) c.in-Some-None.field-0-is (lookup.1 ∙ ap (λ vs. get_or vs place c.in-Some-None.field-0.now) same) in
    read_nothing versions c.self.inside.absent.items place c.self.invariant c.absent_count.result c.index.result.now below none
    (c.absent_count.ensures ∙ ap (λ vs. count_by is_none (take place vs)) c.deref-in-Some-None.ensures.value) c.index.ensures
    ∙ ap (λ seen. slice_get seen place) c.self.view_is
