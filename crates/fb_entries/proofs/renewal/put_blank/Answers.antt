-- One more blank entry, and where there was no memory for it.
use Rattle.std.proofs.{Common.{◌≡◌, ◌+◌, ◌++◌, ◌∷◌, [], take, Some, sym, ap, ◌∙◌, arith}, lemmas.Grind.{common_steps}}
use Rattle.fb_jobs.specs.KeyOrder.{same_key}
use Rattle.fb_entries.specs.Keyed.{entry_in}
use Rattle.fb_entries.specs.Marking.{is_of}
use Rattle.fb_entries.proofs.KeySteps.{of_now, of_prefix, others_more, entry_more}
use Rattle.fb_entries.proofs.renewal.put_blank.Goals as goal

pub returns-in_err-shared-clause-others : goal.returns-in_err-shared-clause-others
returns-in_err-shared-clause-others c = λ other apart. c.loop-key.invariant.0 other (of_prefix other c.loop-key.key-index c.args.keys.now apart)

pub returns-in_err-insert-clause-others : goal.returns-in_err-insert-clause-others
returns-in_err-insert-clause-others c =
    λ other apart. ap (λ es. entry_in es other) c.in_err-insert.ensures.err ∙ c.loop-key.invariant.0 other (of_prefix other c.loop-key.key-index c.args.keys.now apart)

pub loop-key-preserved : goal.loop-key-preserved
loop-key-preserved c =
    let prefix = take c.loop-key.key-index c.args.keys.now in
    let key = c.key-item.result in
    let more : take (c.loop-key.key-index + 1) c.args.keys.now ≡ prefix ++ key ∷ [] = grind (arith, common_steps) in
    let put = c.in_ok-insert.ensures.ok in (
      (λ other apart. others_more (Some c.blank.result) (entry_in c.args.entries.now other) (entry_in c.loop-key.entries other) (entry_in c.insert.new.self other) (is_of other prefix) (same_key key other) (sym (of_now other key prefix _ more) ∙ apart) (put other) (c.loop-key.invariant.0 other)),
      (λ other some. entry_more (entry_in c.loop-key.entries other) (entry_in c.insert.new.self other) c.blank.result (is_of other prefix) (same_key key other) (sym (of_now other key prefix _ more) ∙ some) (put other) (c.loop-key.invariant.1 other)),
    )
