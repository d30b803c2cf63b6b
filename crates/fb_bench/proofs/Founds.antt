-- Nets that were found for current reads are those of the present texts.
use Rattle.std.proofs.{Common.{◌≡◌, ℕ, List, [], ◌∷◌, All, map, sym, subst}, lemmas.List.Elements.{All-nil, All-cons, All-head, All-tail, All-map}}
use Rattle.fb_entries.specs.{Library.Texts.{Texts}, Jobs.declared.kept.hints.Hint.{Hint}, Jobs.declared.values.value.Value.{Value}, Jobs.Hints.{IsNetOf, net_key}}
use Rattle.fb_entries.specs.{Jobs.Keys.{scratch}, Jobs.Reads.{PlainJob, read_texts}, Jobs.Values.{finding_of}, Jobs.Work.{IsFoundFor}}
use Rattle.fb_bench.specs.Founds.{HasNetsOf, said}

all_said : (P : List ℕ × Value → Type 0) (hints : List Hint) → All P (map said hints) → All (λ (hint : Hint). P (said hint)) hints
all_said P [] each = All-nil (λ (hint : Hint). P (said hint))
all_said P (h ∷ hs) each =
    All-cons (λ (hint : Hint). P (said hint)) h hs (All-head P (said h) (map said hs) each) (all_said P hs (All-tail P (said h) (map said hs) each))

pub founds_right : (texts : Texts) (job : PlainJob) (found shares : List Hint) → HasNetsOf texts job → map said shares ≡ map said found → All (IsFoundFor (read_texts job.reads) job.key) found → All (IsNetOf texts) shares
founds_right texts job found shares nets same each =
    let P : List ℕ × Value → Type 0 = λ it. finding_of it.1 ≡ scratch texts (net_key it.0) in
    all_said P shares (subst (All P) (sym same) (All-map P said found (λ k d below. nets _ (each k d below))))
