use Rattle.fb_flatten.proofs.CleanUnits.{applications_clean}
use Rattle.fb_flatten.proofs.clean_laws.applications_are_clean.Goals as goal

pub returns : goal.returns
returns c = applications_clean
