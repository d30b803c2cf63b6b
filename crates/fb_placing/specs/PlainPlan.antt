-- Plans as plain values.
use Rattle.std.specs.Prelude.{List}
use Rattle.fb_network.specs.declared.flat.Link.{Link}
use Rattle.fb_placing.specs.PlainResource.{PlainResource}

-- the links between resources, and the resources with their commands
pub record PlainPlan : Type 0 where
  pub cuts : List Link
  pub resources : List PlainResource
