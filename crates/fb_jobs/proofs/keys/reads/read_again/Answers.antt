-- The names that mention what they mentioned are those that the key needs.
use Rattle.std.proofs.Common.{◌≡◌, List, ℕ, ap, subst, ◌∙◌}
use Rattle.std.specs.List.{AllZip}
use Rattle.fb_jobs.specs.{Again.{AreReadUnder}, Reads.{Seen, read_names}, Reuse.{MentionsTheSame}, Values.{all_seen}}
use Rattle.fb_jobs.proofs.Again.{needs_again}
use Rattle.fb_jobs.proofs.keys.reads.read_again.Goals as goal

pub returns : goal.returns
returns c =
    let library = c.args.library.now in
    let it = c.args.before.now in
    let reads = c.in_ok-reads.reads.items in
    let texts = c.in_ok-reads.texts in
    let names : c.deref.result.now ≡ read_names it.reads = c.deref.ensures.value ∙ c.in_ok-names.ensures ∙ ap read_names c.texts.ensures.same in
    let made = subst (λ (ns : List (List ℕ)). AreReadUnder library ns reads texts) names c.in_ok-reads.ensures in
    let mentions : AllZip MentionsTheSame it.reads (all_seen reads) =
    subst (λ (before : List Seen). AllZip MentionsTheSame before (all_seen reads)) c.texts-2.ensures.same
    (subst (λ now. AllZip MentionsTheSame c.texts-2.result.now (all_seen now)) c.deref-2.ensures.value
    (c.all_mention_the_same.ensures c.if-not-all_mention_the_same.false)) in
    subst (λ (ns : List (List ℕ)). AreReadUnder library ns reads texts)
    (needs_again library it.key it.reads c.texts.ensures.right (subst (AllZip MentionsTheSame it.reads) made.seen mentions))
    made
