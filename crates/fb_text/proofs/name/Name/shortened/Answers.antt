use Rattle.std.proofs.Common.{arith, subst, sym}
use Rattle.fb_text.specs.Spelling.{IsName}
use Rattle.fb_text.proofs.StoredLemmas.{stored_prefix}
use Rattle.fb_text.proofs.name.Name.shortened.Goals as goal

pub invariant_of-result : goal.invariant_of-result
invariant_of-result c =
    stored_prefix 22 c.as_bytes-name.result.now _ (omega arith) c.copy_from_slice.ensures.after (subst IsName (sym c.as_bytes-name.ensures.bytes) c.as_bytes-name.ensures.name)
