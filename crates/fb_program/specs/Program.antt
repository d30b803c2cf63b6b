-- What a run of the program has written.
use Rattle.std.specs.Prelude.{◌≡◌, ◌≤◌, ◌⊎◌, ℕ, [], List}
use Rattle.fb_wire.specs.{History.BenchView.{new_bench}, Script.{IsPrefixOf, script}, History.Limits.{Bounds}}
use Rattle.fb_program.specs.{Words.{Asks}, declared.asked.Settings.TheVariants.{Host, Script, Serve}, declared.program.Outcome.{Outcome}}
use Rattle.fb_program.specs.declared.program.Outcome.TheVariants.{Ended, Hosts, Serves}

-- what a new workbench of these limits answers to the bytes, to caller 1
abbrev pub said_to : Bounds → List ℕ → List ℕ
said_to limits bytes = (script 1 (new_bench limits.units limits.history) bytes).out

-- by status: all of it, or a prefix of it
abbrev pub BenchSays : Bounds → ℕ → List ℕ → List ℕ → Type 0
BenchSays limits status bytes out = (status ≡ 0 → out ≡ said_to limits bytes) × (status ≡ 1 → IsPrefixOf out (said_to limits bytes))

-- by the limits that the words ask for
abbrev pub ScriptSays : List (List ℕ) → ℕ → List ℕ → List ℕ → Type 0
ScriptSays words status bytes out = (limits : Bounds) × Asks words (Script limits.units limits.history) × BenchSays limits status bytes out

-- nothing was read, and nothing was written
abbrev pub DoesNothing : List ℕ → List ℕ → Type 0
DoesNothing bytes out = (bytes ≡ []) × (out ≡ [])

-- Status 0: all answers to the bytes. 1: a prefix of them, or memory ran out for the words. 2: nothing, because the words ask for nothing.
abbrev pub HasSaid : List (List ℕ) → ℕ → List ℕ → List ℕ → Type 0
HasSaid words status bytes out =
    (status ≡ 0 → ScriptSays words 0 bytes out) × (status ≡ 1 → ScriptSays words 1 bytes out ⊎ DoesNothing bytes out) × (status ≡ 2 → DoesNothing bytes out)

-- a script was run, or the words were refused; or they ask for this server, and nothing was done
abbrev pub HasDone : List (List ℕ) → Outcome → List ℕ → List ℕ → Type 0
HasDone words (Ended status) bytes out = (status ≤ 2) × HasSaid words status bytes out
HasDone words (Serves it) bytes out = Asks words (Serve it.port it.workers it.sessions it.limits.units it.limits.history) × DoesNothing bytes out
HasDone words (Hosts it) bytes out = Asks words (Host it) × DoesNothing bytes out
