-- The law of the index.
use Rattle.fb_entries.proofs.Reached.{reached_by}
use Rattle.fb_entries.proofs.laws.an_index_finds_what_is_reached.Goals as goal

pub returns : goal.returns
returns c = λ texts index is changed key has. reached_by texts index is key changed has
