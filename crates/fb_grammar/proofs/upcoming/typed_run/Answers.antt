use Rattle.std.proofs.{Common.{arith, sym}, lemmas.List.Sums.{prefix_len-le-length}}
use Rattle.fb_tree.specs.Text.Bytes.{is_word_byte}
use Rattle.fb_grammar.proofs.PullLemmas.{no_hash, nothing_follows}
use Rattle.fb_grammar.proofs.upcoming.typed_run.Goals.{else-word-bytes-via-then-word-bytes+else-bytes-word-eq35, else-word-bytes-via-else-word-bytes}
use Rattle.fb_grammar.proofs.upcoming.typed_run.Goals as goal

pub returns-else-word-bytes-clause-value : goal.returns-else-word-bytes-clause-value
returns-else-word-bytes-clause-value c =
    elim c.else-word-bytes.branch [
      | else-word-bytes-via-then-word-bytes+else-bytes-word-eq35 w ↦ sym (no_hash c.args.bytes.now c.args.word c.requires w.if-bytes-word-eq35.false)
      | else-word-bytes-via-else-word-bytes w ↦ sym (nothing_follows c.args.bytes.now c.args.word c.requires w.if-word-bytes.false)
    ]

pub returns-else-word-bytes-clause-within : goal.returns-else-word-bytes-clause-within
returns-else-word-bytes-clause-within c = omega (arith, c.requires, prefix_len-le-length is_word_byte c.args.bytes.now)
