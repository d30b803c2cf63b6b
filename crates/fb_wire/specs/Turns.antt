-- For private clauses: the result of one read.
use Rattle.std.specs.Prelude.{⊤, ℕ, Bool, List, Result}
use Rattle.fb_bench.specs.Calls.{Exchange}
use Rattle.fb_wire.specs.{Progress.{PieceTaken}, declared.end.RunEnd.{RunEnd}, declared.line.Conversation.{Conversation}}
use Rattle.fb_wire.specs.declared.end.RunEnd.TheVariants as end

-- the conversation takes a piece of the bytes, by its line and its jobs
abbrev pub TakesPiece : (has_reads : Bool) → {S : Type 0} → (S → Exchange → S → Type 0) → S → Conversation → List ℕ → List ℕ → List ℕ → Result ⊤ RunEnd → S → Conversation → List ℕ → Type 0
TakesPiece has_reads Step old old_conversation old_held piece behind result new conversation held =
    PieceTaken has_reads Step old old_conversation.line.items old_conversation.held.items old_held piece behind result new conversation.line.items conversation.held.items held

-- the ends that may come at the end of the input
abbrev pub StopsAtEnd : RunEnd → Type 0
StopsAtEnd end.ReadFailed = ⊥
StopsAtEnd end.TurnsOver = ⊥
StopsAtEnd _ = Unit {0}

-- the ends that may come with a read
abbrev pub StopsRead : RunEnd → Type 0
StopsRead end.TurnsOver = ⊥
StopsRead _ = Unit {0}
