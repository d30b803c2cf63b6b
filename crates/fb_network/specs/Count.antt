-- The number of instances of a network, of all depths, up to one past the limit.
use Rattle.std.specs.Prelude.{ℕ, ◌≡◌, ◌+◌, List, length, min}
use Rattle.fb_network.specs.{declared.network.Instance.{Instance}, declared.flat.count.TheConstants.{INSTANCE_LIMIT}, Network.{View}, Instances.{Held, AreInstances}}

-- the list of instances has this number of instances of all depths, or more than the limit if the count is one past it
pub record IsCount (view : View) (list : List Instance) (count : ℕ) : Type 0 where
  pub held : List Held
  pub instances : AreInstances view list held
  pub count_is : count ≡ min (length held) (INSTANCE_LIMIT + 1)
