-- What a machine takes from its domain.
use Rattle.std.specs.Prelude.{◌≡◌, ℕ, Bool, List}
use Rattle.fb_deploy.specs.Library.Texts.{Texts}
use Rattle.fb_jobs.specs.{declared.keys.key.Key.{Key}, Keys.{Finding}, Reads.{Agree}}
use Rattle.fb_jobs.specs.Keys as keys

-- which keys texts have, what each key needs, and its value from scratch
pub record Rules : Type 0 where
  pub has_key : Texts → Key → Bool
  pub needs : Texts → Key → List (List ℕ)
  pub scratch : Texts → Key → Finding

-- texts that agree on what a key needs have the same needs and the same value for it, whatever their revisions
pub record AreLocal (rules : Rules) : Type 0 where
  pub needs : (texts others : Texts) (key : Key) → Agree texts others (rules.needs texts key) → rules.needs others key ≡ rules.needs texts key
  pub has : (texts others : Texts) (key : Key) → Agree texts others (rules.needs texts key) → rules.has_key others key ≡ rules.has_key texts key
  pub value : (texts others : Texts) (key : Key) → Agree texts others (rules.needs texts key) → rules.scratch others key ≡ rules.scratch texts key

-- the rules of a workbench: keys of units, with faults, nets and plans
abbrev pub unit_rules : Rules
unit_rules = record { has_key = keys.has_key; needs = keys.needs; scratch = keys.scratch }
