-- What is kept holds in the reads.
use Rattle.std.proofs.Common.{◌≡◌, ◌⊎◌, true, List, [], All, Vec, sym, ap, subst, ◌∙◌, rules}
use Rattle.std.specs.{declared.alloc.Global.{Global}, List.{AllZip}}
use Rattle.fb_jobs.specs.{Kinds.{needs_all}, Keys.{needs}, Cached.{AreBlocking, IsFlag, IsCached}, Hints.{AreChosen}}
use Rattle.fb_jobs.specs.{Reads.{IsOf, Seen}, declared.kept.hints.Hint.{Hint}, declared.kept.cached.Cached.{Cached}}
use Rattle.fb_jobs.proofs.{Currents.{of_under}, HintLemmas.{no_hints}, CachedLemmas.{hints_alone, kept_known, own_known}}
use Rattle.fb_jobs.proofs.kept.cached.Cached.of_kept.Goals as goal

pub returns : goal.returns
returns g c texts right right_found has same =
    let key = c.args.key.now in
    let kept = g.K.Cache.kept c.args.kept.now in
    let found = g.K.Cache.found c.args.kept.now in
    let judged = c.in_ok-faultless.field-0 in
    let it : Cached = record { hints = c.in_ok-hints_among.field-0; own = c.in_ok-own_or_blocked.field-0; faultless = judged.faultless } in
    let all : needs_all key.kind ≡ true = search rules in
    subst (λ (reads : List Seen). IsCached reads key it) (sym same)
    (kept_known texts key kept found it right right_found all
    (subst (λ (reads : List Seen). AreChosen texts kept key.unit reads it.hints.items) same (c.in_ok-hints_among.ensures texts (subst (All (IsOf texts)) (sym same) (of_under texts (needs texts key)))))
    (own_known texts key kept found c.in_ok-own.own it.own judged.is_all judged.faulty.items right right_found all has c.in_ok-own.ensures
    (subst (λ (reads : List Seen). judged.is_all ≡ true → AreBlocking kept reads judged.faulty.items) same c.in_ok-faultless.ensures.faulty)
    c.in_ok-own_or_blocked.ensures)
    (subst (λ (reads : List Seen). (it.faultless.items ≡ []) ⊎ AllZip (IsFlag kept) reads it.faultless.items) same c.in_ok-faultless.ensures.flags))

pub returns-then-not-needs_all : goal.returns-then-not-needs_all
returns-then-not-needs_all g c texts right right_found has same =
    let key = c.args.key.now in
    let it = c.of_hints.result in
    subst (λ (reads : List Seen). IsCached reads key it) (sym same)
    (hints_alone texts key [] it (no_hints texts key) (ap (λ (v : Vec Hint Global). v.items) c.of_hints.ensures.hints ∙ c.new.ensures.items) c.of_hints.ensures.own c.of_hints.ensures.faultless)
