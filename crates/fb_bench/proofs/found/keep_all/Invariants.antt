use Rattle.std.specs.Prelude.{ℕ, All}
use Rattle.fb_entries.specs.{Library.Texts.{Texts}, Jobs.Hints.{IsNetOf}}
use Rattle.fb_history.specs.Machine.{State}
use Rattle.fb_bench.specs.Consistent.{Agrees}
use Rattle.fb_bench.proofs.found.keep_all.Given as goal

abbrev pub invariant-loop-it : goal.invariant-loop-it
invariant-loop-it l =
    (units : Texts) (commits : ℕ) (state : State) → Agrees units commits l.initial.entries state → All (IsNetOf state.units) l.fn.found.items → Agrees units commits l.entries state
