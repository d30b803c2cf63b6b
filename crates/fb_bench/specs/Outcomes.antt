-- The outcome of a commit, before anything is written.
use Rattle.std.specs.Prelude.{◌≡◌, ℕ, List, map, length, nat_lt, if◌then◌else◌}
use Rattle.fb_entries.specs.{Keyed.{Keyed}, Library.Texts.{Texts, Edit, unit_of, all_edited}, Indexed.{IsIndexOf}, Renew.{IsRenewal}}
use Rattle.fb_history.specs.{declared.answers.Committed.{Committed}, Machine.{State, refusal, or_else, after_commit}}
use Rattle.fb_history.specs.declared.answers.Committed.TheVariants as answer
use Rattle.fb_bench.specs.{declared.commit.Outcome.{Outcome}, declared.commit.Outcome.TheVariants.{Refused, Done}}

-- the answer to these changes of the texts, for this limit on the number of units and this number of a good commit
abbrev pub answer_at : ℕ → ℕ → Texts → List Edit → Committed
answer_at most_units number texts edits =
    or_else (refusal texts edits) (if nat_lt most_units (length (all_edited number edits texts)) then answer.TooManyUnits else answer.Done number)

-- A refusal, which changes no state. Or the texts after the changes, with their index, and what the changes alter.
abbrev pub IsOutcome : ℕ → ℕ → Texts → List Edit → Keyed → Outcome → Type 0
IsOutcome most_units number texts edits entries (Refused refused) =
    (refused ≡ answer_at most_units number texts edits) × ((state : State) → after_commit refused edits state ≡ state)
IsOutcome most_units number texts edits entries (Done library found) =
    (answer.Done number ≡ answer_at most_units number texts edits)
    × (library ≡ all_edited number edits texts)
    × IsIndexOf library found.index
    × IsRenewal library (map unit_of edits) entries found.renewal
