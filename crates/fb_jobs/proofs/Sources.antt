-- The texts of what is held.
use Rattle.std.proofs.Common.{◌≡◌, ℕ, List}
use Rattle.std.specs.FinMap.{get}
use Rattle.fb_deploy.specs.Library.Texts.{Texts, text_at, sources_of}
use Rattle.fb_deploy.proofs.Library.Sources as sources

pub get_source : (texts : Texts) (name : List ℕ) → get (sources_of texts) name ≡ text_at texts name
get_source texts name = sources.get_source texts name
