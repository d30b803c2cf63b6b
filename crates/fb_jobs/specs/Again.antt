-- What is read of texts.
use Rattle.std.specs.Prelude.{◌≡◌, ℕ, List, All}
use Rattle.fb_deploy.specs.Library.Texts.{Texts}
use Rattle.fb_jobs.specs.{declared.keys.key.Key.{Key}, declared.keys.read.Read.{Read}, Reads.{Seen, reads_under}}
use Rattle.fb_jobs.specs.{Keys.{needs}, Values.{all_seen, IsOwn}}

-- under these names it is read of the library, each source is of the name that it was read under, and these are the texts
pub record AreReadUnder (library : Texts) (names : List (List ℕ)) (reads : List Read) (texts : List Seen) : Type 0 where
  pub seen : all_seen reads ≡ reads_under library names
  pub own : All IsOwn reads
  pub kept : texts ≡ all_seen reads

-- what the key needs is read of the library
abbrev pub AreReads : Texts → Key → List Read → List Seen → Type 0
AreReads library key reads texts = AreReadUnder library (needs library key) reads texts
