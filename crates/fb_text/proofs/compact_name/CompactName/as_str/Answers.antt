use Rattle.fb_text.proofs.NameLemmas.{is_word-ascii}
use Rattle.std.proofs.lemmas.Str.{IsUtf8-from_ascii}
use Rattle.fb_text.proofs.compact_name.CompactName.as_str.Goals as goal

pub from_utf8_unchecked-requires : goal.from_utf8_unchecked-requires
from_utf8_unchecked-requires c = rw c.as_bytes.ensures.bytes (IsUtf8-from_ascii c.args.self.now (is_word-ascii c.args.self.now c.as_bytes.ensures.name.word))
