-- One more read, of which it is known or not whether its unit has faults.
use Rattle.std.proofs.Common.{ℕ, List, [], ◌∷◌, ◌++◌, false, refl, sym, ap, ◌∙◌}
use Rattle.fb_jobs.specs.Values.{seen_of}
use Rattle.fb_jobs.proofs.CachedLemmas.{one_faulty, one_faultless, one_unknown}
use Rattle.fb_jobs.proofs.kept.cached.judge.Goals as goal

pub returns-in_ok-push-in-Some-true-2 : goal.returns-in_ok-push-in-Some-true-2
returns-in_ok-push-in-Some-true-2 g c =
    one_faulty (g.K.Cache.kept c.args.kept.now) (seen_of c.args.read.now) c.args.found.now (record { faultless = c.push-in-Some-true.new.self; faulty = c.push.new.self; is_all = c.args.found.now.is_all })
    (sym c.has_faults.ensures ∙ (cc)) c.in_ok-push-in-Some-true-2.ensures.items (c.in_ok-push-in-Some-true.ensures.items ∙ ap (λ (name : List ℕ). c.args.found.now.faulty.items ++ name ∷ []) c.name.ensures) refl

pub returns-in_ok-push-in-Some-false : goal.returns-in_ok-push-in-Some-false
returns-in_ok-push-in-Some-false g c =
    one_faultless (g.K.Cache.kept c.args.kept.now) (seen_of c.args.read.now) c.args.found.now (record { faultless = c.push-in-Some-false.new.self; faulty = c.args.found.now.faulty; is_all = c.args.found.now.is_all })
    (sym c.has_faults.ensures ∙ (cc)) c.in_ok-push-in-Some-false.ensures.items refl refl

pub returns-in_ok-push-in-None : goal.returns-in_ok-push-in-None
returns-in_ok-push-in-None g c =
    one_unknown (g.K.Cache.kept c.args.kept.now) (seen_of c.args.read.now) c.args.found.now (record { faultless = c.push-in-None.new.self; faulty = c.args.found.now.faulty; is_all = false })
    c.in_ok-push-in-None.ensures.items refl
