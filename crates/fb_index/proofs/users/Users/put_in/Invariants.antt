use Rattle.std.proofs.Common.{◌≡◌, ℕ, ◌&&◌, ◌||◌, not, List, take}
use Rattle.std.specs.BTreeMap.{is_at}
use Rattle.std.specs.BTreeSet as set
use Rattle.fb_text.specs.Order.{name_cmp}
use Rattle.fb_library.specs.Seen.{has_name}
use Rattle.fb_index.specs.Users.{uses}
use Rattle.fb_index.proofs.users.Users.put_in.Given as goal

abbrev pub invariant-loop-name : goal.invariant-loop-name
invariant-loop-name l = (other at : List ℕ) → uses l.self other at ≡ (uses l.initial.self other at || (is_at (name_cmp l.unit) other && (has_name (take l.name-index l.names) at && not (set.contains name_cmp l.known at))))
