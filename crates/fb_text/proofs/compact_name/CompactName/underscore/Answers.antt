use Rattle.std.proofs.Common.{refl}
use Rattle.fb_text.specs.{Bytes.{is_word_start, is_word_byte}, Words.{is_word}}
use Rattle.fb_text.proofs.compact_name.CompactName.underscore.Goals as goal

pub of_word-requires-clause-word : goal.of_word-requires-clause-word
unfolding is_word is_word_start is_word_byte
of_word-requires-clause-word c = refl
