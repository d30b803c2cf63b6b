-- One more key without an entry.
use Rattle.std.proofs.{Common.{◌≡◌, ◌+◌, ◌++◌, ◌∷◌, [], take, None, cond, ap, sym, ◌∙◌, arith}, lemmas.Grind.{common_steps}}
use Rattle.fb_jobs.specs.KeyOrder.{same_key}
use Rattle.fb_entries.specs.Keyed.{entry_in}
use Rattle.fb_entries.specs.Marking.{is_of}
use Rattle.fb_entries.proofs.KeySteps.{of_now, out_more}
use Rattle.fb_entries.proofs.renewal.take_out.Goals as goal

pub loop-key-preserved : goal.loop-key-preserved
loop-key-preserved c =
    let prefix = take c.loop-key.key-index c.args.keys.now in
    let key = c.key-item.result in
    let more : take (c.loop-key.key-index + 1) c.args.keys.now ≡ prefix ++ key ∷ [] = grind (arith, common_steps) in
    λ other.
    out_more None (entry_in c.args.entries.now other) (entry_in c.loop-key.entries other) (entry_in c.remove.new.self other) (is_of other prefix) (same_key key other) (c.remove.ensures other) (c.loop-key.invariant other)
    ∙ ap (λ b. cond b None (entry_in c.args.entries.now other)) (sym (of_now other key prefix _ more))
