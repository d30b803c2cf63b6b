-- When a key waits, by places in the list of calls.
use Rattle.std.specs.Prelude.{Bool, false, ◌&&◌, ◌||◌, not, List, [], ◌∷◌, map, is_none}
use Rattle.fb_jobs.specs.{Library.Texts.{Edit, unit_of, all_edited}, declared.keys.key.Key.{Key}, Keys.{has_key}, KeyOrder.{same_key}, Reads.{stale}, Reach.{reaches_by}, Rules.{Rules}}
use Rattle.fb_history.specs.{declared.answers.Committed.{Committed}, declared.answers.Committed.TheVariants.{Done}}
use Rattle.fb_history.specs.{Machine.{StateBy, Call, ToCommit, ToDeliver, commit_answer, after}, BenchView.{BenchView, opened, state_of, calls_of}}

module _ {rules : Rules} where
  abbrev pub marks_done : Committed → StateBy rules → List Edit → Key → Bool
  marks_done (Done commit) state edits key =
      rules.has_key (all_edited commit edits state.units) key && (not (rules.has_key state.units key) || reaches_by rules (map unit_of edits) (all_edited commit edits state.units) key)
  marks_done _ state edits key = false

  -- a good commit that made the key or reached it
  abbrev pub marks : StateBy rules → Call → Key → Bool
  marks state (ToCommit edits) key = marks_done (commit_answer state edits) state edits key
  marks state _ key = false

  -- a delivery for the key whose reads are current there
  abbrev pub settles : StateBy rules → Call → Key → Bool
  settles state (ToDeliver job) key = same_key job.key key && is_none (stale state.units job.reads)
  settles state _ key = false

  -- some place settles the key
  unfoldable pub settled : StateBy rules → List Call → Key → Bool
  settled state [] key = false
  settled state (call ∷ calls) key = settles state call key || settled (after state call) calls key

  -- some place marks the key, and none after it settles it
  unfoldable pub due : StateBy rules → List Call → Key → Bool
  due state [] key = false
  due state (call ∷ calls) key = (marks state call key && not (settled (after state call) calls key)) || due (after state call) calls key

  -- pending where the calls begin, and settled by none of them, or due by one of them
  abbrev pub due_from : StateBy rules → List Call → Key → Bool
  due_from state calls key = (state.pending key && not (settled state calls key)) || due state calls key

-- a key of the present texts for which no current result has come since the last commit that made or reached it
abbrev pub is_due : BenchView → Key → Bool
is_due bench key = has_key (state_of bench).units key && due_from (opened bench.origin) (calls_of bench.log) key
