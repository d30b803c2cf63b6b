-- What stands at a number of a list that is read.
use Rattle.std.proofs.lemmas.Option.{slice_get-map}

pub ruleset numbers = (slice_get-map)
