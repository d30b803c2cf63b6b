-- Nets that were found on the way.
use Rattle.std.proofs.{Common.{◌≡◌, ℕ, Bool, true, false, List, [], refl, sym, ap, subst, ◌∙◌, None, All, get_or}, lemmas.List.Elements.{All-nil}}
use Rattle.fb_deploy.specs.{Flatten.Far.{far_of}, Flatten.Nets.{net_at}, Library.Rests.{Rests}, Library.Texts.{Texts, sources_of}, Library.View.{Sources}}
use Rattle.fb_deploy.proofs.{Flatten.FarNames.{far_is_all}, Library.WalkLemmas.{has-Contains}}
use Rattle.fb_jobs.specs.{declared.kept.hints.Hint.{Hint}, declared.keys.key.Kind.{Kind}, declared.keys.key.Key.{Key}, Hints.{IsNetOf, net_key}}
use Rattle.fb_jobs.specs.{Keys.{needs, needs_of, net_finding, scratch}, Kinds.{needs_all}, Reads.{IsRight, PlainJob, is_among, read_texts, stale}}
use Rattle.fb_jobs.specs.{Values.{finding_of}, Work.{IsFoundFor, IsFoundIn}}
use Rattle.fb_jobs.specs.declared.keys.key.Kind.TheVariants as kind
use Rattle.fb_jobs.proofs.{Currents.{agree_from_current, current_from_stale}, HintLemmas.{net_needed}, SameNeeds.{scratch_local}}

rests_by : (kind : Kind) (sources : Sources) (unit n : List ℕ) → needs_all kind ≡ true → Rests sources unit n → is_among n (needs_of kind sources unit) ≡ true
rests_by kind.Faults sources unit n all r = cc
rests_by kind.Net sources unit n all r = has-Contains n (far_of sources unit) (((far_is_all sources unit).1 n).1 r)
rests_by kind.Deploy sources unit n all r = has-Contains n (far_of sources unit) (((far_is_all sources unit).1 n).1 r)

rests_needed : (T : Texts) (key : Key) (n : List ℕ) → needs_all key.kind ≡ true → Rests (sources_of T) key.unit n → is_among n (needs T key) ≡ true
unfolding needs
rests_needed T key n all r = rests_by key.kind (sources_of T) key.unit n all r

net_of : (T : Texts) (hint : Hint) → finding_of hint.value.value ≡ net_finding (net_at (sources_of T) hint.unit) → IsNetOf T hint
unfolding scratch
net_of T hint e = e

-- what was found on the way to a key's value
pub founds_for : (T : Texts) (key : Key) (found : List Hint) (all : Bool) → needs_all key.kind ≡ all → (all ≡ false → found ≡ []) → All (IsFoundIn (sources_of T) key.unit) found → All (IsFoundFor T key) found
founds_for T key found false is none each = subst (All (IsFoundFor T key)) (sym (none refl)) (All-nil (IsFoundFor T key))
founds_for T key found true is none each = λ k d below.
    let it = each k d below in
    record { all = is; needed = rests_needed T key _ is it.below; net_is = net_of T (get_or found k d) it.net_is }

-- is what the present texts give, where the reads are current
pub nets_current : (T : Texts) (it : PlainJob) (hint : Hint) → IsRight it → stale T it.reads ≡ None → IsFoundFor (read_texts it.reads) it.key hint → IsNetOf T hint
nets_current T it hint right fresh is =
    is.net_is
    ∙ sym (scratch_local (read_texts it.reads) T (net_key hint.unit)
    (λ n among. agree_from_current T it.reads (current_from_stale T it.reads fresh) n (ap (λ ns. is_among n ns) right.names ∙ net_needed (read_texts it.reads) it.key hint.unit n is.all is.needed among)))
