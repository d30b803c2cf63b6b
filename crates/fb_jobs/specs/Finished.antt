-- What each `Inputs`, each `Finished` and each `Derivation` keeps.
use Rattle.std.specs.{Prelude.{◌≡◌, Bool, List, All, Option, Some, IfSome}, declared.sync.Arc.{Arc}, declared.alloc.Global.{Global}}
use Rattle.fb_jobs.specs.{Keys.{Finding, scratch}, Cached.{some_faults}, Reads.{PlainJob, Seen, IsRight, read_texts}, Values.{finding_of, all_seen, IsOwn}}
use Rattle.fb_jobs.specs.{Work.{IsFoundFor}, declared.jobs.computed.Worked.{Worked}, declared.keys.key.Key.{Key}, declared.keys.read.Read.{Read}, declared.values.value.Value.{Value}}

abbrev pub plain_job : Key → List Read → PlainJob
plain_job key reads = record { key = key; reads = all_seen reads }

-- the reads are right for the key, each source is of the name that it was read under, and the texts are those of the reads
pub record IsJob (key : Key) (reads : List Read) (texts : List Seen) : Type 0 where
  pub right : IsRight (plain_job key reads)
  pub own : All IsOwn reads
  pub texts_are : texts ≡ all_seen reads

-- what the reads give the key, from scratch
abbrev pub value_of : PlainJob → Finding
value_of it = scratch (read_texts it.reads) it.key

-- the value is that of the reads, from scratch, and so are the nets that were found on the way
pub record IsFinished (it : PlainJob) (work : Worked) : Type 0 where
  pub value_is : finding_of work.value.value ≡ value_of it
  pub found_are : All (IsFoundFor (read_texts it.reads) it.key) work.found.items

-- the reads are right for the key, the value is that of what was read, from scratch, it is known of it whether it has faults, and if what was read is kept too, it is that
pub record IsDerivation (it : PlainJob) (value : Value) (has_faults : Option Bool) (inputs : Option (Arc PlainJob Global)) : Type 0 where
  pub right : IsRight it
  pub value_is : finding_of value ≡ value_of it
  pub faults_are : has_faults ≡ some_faults (Some (finding_of value))
  pub inputs_are : IfSome inputs (λ kept. kept.value ≡ it)
