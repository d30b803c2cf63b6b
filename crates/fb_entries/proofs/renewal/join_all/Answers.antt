-- One more key in the set, and where there was no memory for it.
use Rattle.std.proofs.{Common.{◌≡◌, ◌+◌, ◌++◌, ◌∷◌, [], take, true, sym, ◌∙◌, arith}, lemmas.Grind.{common_steps}}
use Rattle.std.specs.BTreeSet as set
use Rattle.fb_jobs.specs.KeyOrder.{key_cmp, same_key}
use Rattle.fb_entries.specs.Marking.{is_of}
use Rattle.fb_entries.proofs.KeySteps.{of_now, of_prefix, others_more, member_more}
use Rattle.fb_entries.proofs.renewal.join_all.Goals as goal

pub loop-key-preserved : goal.loop-key-preserved
loop-key-preserved c =
    let prefix = take c.loop-key.key-index c.args.keys.now in
    let key = c.key-item.result in
    let more : take (c.loop-key.key-index + 1) c.args.keys.now ≡ prefix ++ key ∷ [] = grind (arith, common_steps) in (
      (λ other apart. others_more true (set.contains key_cmp c.args.members.now other) (set.contains key_cmp c.loop-key.members other) (set.contains key_cmp c.join.new.keys other) (is_of other prefix) (same_key key other) (sym (of_now other key prefix _ more) ∙ apart) (c.in_ok-join.ensures.ok other) (c.loop-key.invariant.0 other)),
      (λ other some. member_more (set.contains key_cmp c.loop-key.members other) (set.contains key_cmp c.join.new.keys other) (is_of other prefix) (same_key key other) (sym (of_now other key prefix _ more) ∙ some) (c.in_ok-join.ensures.ok other) (c.loop-key.invariant.1 other)),
    )

pub returns-in_err-join-clause-others : goal.returns-in_err-join-clause-others
returns-in_err-join-clause-others c =
    λ other apart. c.in_err-join.ensures.err other ∙ c.loop-key.invariant.0 other (of_prefix other c.loop-key.key-index c.args.keys.now apart)
