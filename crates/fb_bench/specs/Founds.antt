-- Nets that were computed on the way to another value.
use Rattle.std.specs.Prelude.{ℕ, List, All}
use Rattle.fb_entries.specs.{Keyed.{Keyed}, Library.Texts.{Texts}, Jobs.declared.kept.hints.Hint.{Hint}, Jobs.declared.values.value.Value.{Value}, Jobs.Hints.{IsNetOf}}
use Rattle.fb_entries.specs.{Jobs.Reads.{PlainJob, read_texts}, Jobs.Work.{IsFoundFor}}
use Rattle.fb_history.specs.Machine.{State}
use Rattle.fb_bench.specs.Consistent.{Agrees}

-- the unit and the value of a net, no matter who shares it
abbrev pub said : Hint → List ℕ × Value
said hint = (hint.unit, hint.value.value)

-- if each of these is a net of a state's texts, entries that agreed with the state still agree with it
abbrev pub KeepsAgreement : List Hint → Keyed → Keyed → Type 0
KeepsAgreement found old new =
    (units : Texts) (commits : ℕ) (state : State) → Agrees units commits old state → All (IsNetOf state.units) found → Agrees units commits new state

-- nets that are found for current reads are nets of the present texts
abbrev pub HasNetsOf : Texts → PlainJob → Type 0
HasNetsOf texts job =
    (hint : Hint) → IsFoundFor (read_texts job.reads) job.key hint → IsNetOf texts hint
