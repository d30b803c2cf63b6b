-- One more key out of the set.
use Rattle.std.proofs.{Common.{◌≡◌, ◌+◌, ◌++◌, ◌∷◌, [], take, false, cond, ap, sym, ◌∙◌, arith}, lemmas.Grind.{common_steps}}
use Rattle.std.specs.BTreeSet as set
use Rattle.fb_jobs.specs.KeyOrder.{key_cmp, same_key}
use Rattle.fb_entries.specs.Marking.{is_of}
use Rattle.fb_entries.proofs.KeySteps.{of_now, out_more}
use Rattle.fb_entries.proofs.renewal.leave_all.Goals as goal

pub loop-key-preserved : goal.loop-key-preserved
loop-key-preserved c =
    let prefix = take c.loop-key.key-index c.args.keys.now in
    let key = c.key-item.result in
    let more : take (c.loop-key.key-index + 1) c.args.keys.now ≡ prefix ++ key ∷ [] = grind (arith, common_steps) in
    λ other.
    out_more false (set.contains key_cmp c.args.members.now other) (set.contains key_cmp c.loop-key.members other) (set.contains key_cmp c.leave.new.keys other) (is_of other prefix) (same_key key other) (c.leave.ensures other) (c.loop-key.invariant other)
    ∙ ap (λ b. cond b false (set.contains key_cmp c.args.members.now other)) (sym (of_now other key prefix _ more))
