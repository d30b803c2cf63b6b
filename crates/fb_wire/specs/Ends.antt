-- How a run ends, and what it has asked and written by then.
use Rattle.std.specs.{Prelude.{◌≡◌, ◌↔◌, ◌≤◌, ◌+◌, ℕ, [], ◌∷◌, ◌++◌, Bool, IsTrue, List, Option, length, take}, Io.KnownBytes.{Consumes, IsAtEnd}}
use Rattle.fb_streams.specs.Streams.{StaysFlushed}
use Rattle.serde_json.specs.Data.{Data}
use Rattle.fb_bench.specs.Calls.{Exchange}
use Rattle.fb_wire.specs.{Lines.{Fits, IsTooLong, lines_of}, Conversations.{AnswersLines, Jobs, LinePart, Plan, says}, declared.end.RunEnd.{RunEnd}}
use Rattle.fb_wire.specs.declared.end.RunEnd.TheVariants.{End, LineTooLong, Memory, ReadFailed, TurnsOver, WriteFailed}
use Rattle.fb_messages.specs.Replies.{reply_line}

-- every line was answered, the last one too; so none is too long
abbrev pub AnsweredAll : (has_reads : Bool) → List ℕ → List Exchange → List ℕ → Type 0
AnsweredAll has_reads bytes pairs out = (after : Jobs) × AnswersLines has_reads (lines_of bytes) [] pairs out after

-- every line that has its line feed was answered, and what was read of the next one is not too long
abbrev pub AnsweredEnded : (has_reads : Bool) → List ℕ → List Exchange → List ℕ → Type 0
AnsweredEnded has_reads bytes pairs out =
    (lines : List (List ℕ)) × (rest : List ℕ) × (after : Jobs) × (lines_of bytes ≡ lines ++ rest ∷ []) × Fits rest × AnswersLines has_reads lines [] pairs out after

-- every line before the first one that is too long was answered
abbrev pub AnsweredBefore : (has_reads : Bool) → List ℕ → List Exchange → List ℕ → Type 0
AnsweredBefore has_reads bytes pairs out =
    (lines more : List (List ℕ)) × (long : List ℕ) × (after : Jobs)
    × (lines_of bytes ≡ lines ++ long ∷ more) × IsTooLong long × AnswersLines has_reads lines [] pairs out after

-- Some lines were answered whole. Of the next one, which is not too long, some calls or its checkpoint were made, and `part` was written.
abbrev pub AnsweredPart : (has_reads : Bool) → (Plan → List ℕ → Type 0) → List ℕ → List Exchange → List ℕ → Type 0
AnsweredPart has_reads IsPart bytes pairs out =
    (lines more : List (List ℕ)) × (line : List ℕ) × (first begun : List Exchange) × (said part : List ℕ) × (held : Jobs)
    × (lines_of bytes ≡ lines ++ line ∷ more) × Fits line × (pairs ≡ first ++ begun) × (out ≡ said ++ part)
    × AnswersLines has_reads lines [] first said held × LinePart has_reads IsPart line held begun part

-- a prefix of the reply's line
abbrev pub IsPrefixOfReply : Plan → List ℕ → Type 0
IsPrefixOfReply rest part = (reply : Data) × (held : Jobs) × (n : ℕ) × (rest ≡ says reply held) × (part ≡ take n (reply_line reply))

abbrev pub IsNothing : Plan → List ℕ → Type 0
IsNothing rest part = part ≡ []

-- what holds at each end, by the bytes that were read, the calls and checkpoints with their answers, and what was written
abbrev pub OutputAt : (has_reads : Bool) → RunEnd → List ℕ → List Exchange → List ℕ → Type 0
OutputAt has_reads End bytes pairs out = AnsweredAll has_reads bytes pairs out
OutputAt has_reads ReadFailed bytes pairs out = AnsweredEnded has_reads bytes pairs out
OutputAt has_reads TurnsOver bytes pairs out = AnsweredEnded has_reads bytes pairs out
OutputAt has_reads LineTooLong bytes pairs out = AnsweredBefore has_reads bytes pairs out
OutputAt has_reads WriteFailed bytes pairs out = AnsweredPart has_reads IsPrefixOfReply bytes pairs out
OutputAt has_reads Memory bytes pairs out = AnsweredPart has_reads IsNothing bytes pairs out

-- the ends that come between two lines: each line that was begun was answered whole
abbrev pub IsBetweenLines : RunEnd → Type 0
IsBetweenLines WriteFailed = ⊥
IsBetweenLines Memory = ⊥
IsBetweenLines _ = Unit {0}

-- ---- what was read, asked and written by an end

-- what a reader and a writer show: what was read and is left, the number of reads, what was written, and what has failed or is flushed
pub record Streams : Type 0 where
  pub given : List ℕ
  pub left : Option (List ℕ)
  pub reads : ℕ
  pub read_has_failed : Bool
  pub held : List ℕ
  pub is_flushed : Bool
  pub write_has_failed : Bool

-- these of a reader and a writer of any type
abbrev pub streams : {R W : Type 0} → (R → List ℕ) → (R → Option (List ℕ)) → (R → ℕ) → (R → Bool) → (W → List ℕ) → (W → Bool) → (W → Bool) → R → W → Streams
streams given left reads read_has_failed held is_flushed write_has_failed reader writer = record {
  given = given reader;
  left = left reader;
  reads = reads reader;
  read_has_failed = read_has_failed reader;
  held = held writer;
  is_flushed = is_flushed writer;
  write_has_failed = write_has_failed writer;
}

-- At the end of the input nothing is left. The reads are at most the turns, and equal to them if these are over. There is at most one read more than
-- bytes that came; if the turns are over, none more. A read or a write has failed exactly if the end says so, and if no write has failed, all that was
-- written is flushed if it was before.
pub record ShowsEnd (end : RunEnd) (turns : ℕ) (old new : Streams) : Type 0 where
  pub whole : end ≡ End → IsAtEnd new.left
  pub turns_are : new.reads ≤ old.reads + turns
  pub all_turns : end ≡ TurnsOver → new.reads ≡ old.reads + turns
  pub gave : length old.given + new.reads ≤ length new.given + old.reads + 1
  pub all_gave : end ≡ TurnsOver → length old.given + new.reads ≤ length new.given + old.reads
  pub read_failed : IsTrue new.read_has_failed ↔ (end ≡ ReadFailed)
  pub flushed : StaysFlushed old.is_flushed new.write_has_failed new.is_flushed
  pub write_failed : IsTrue new.write_has_failed ↔ (end ≡ WriteFailed)

-- what was read, asked and written is what holds at this end, as the reader and the writer show it
pub record IsConversation (has_reads : Bool) (end : RunEnd) (turns : ℕ) (old new : Streams) : Type 0 where
  pub bytes : List ℕ
  pub pairs : List Exchange
  pub out : List ℕ
  pub given : new.given ≡ old.given ++ bytes
  pub consumed : Consumes old.left new.left bytes
  pub written : new.held ≡ old.held ++ out
  pub stands : OutputAt has_reads end bytes pairs out
  pub shown : ShowsEnd end turns old new
