-- Sorts of connections, and their order.
use Rattle.std.specs.Prelude.{ℕ, Bool, true, false}
use Rattle.fb_tree.specs.{declared.network.Sort.{Sort}, declared.network.Sort.TheVariants.{Event, Data, Adapter}}

abbrev pub same_sort : Sort → Sort → Bool
same_sort Event Event = true
same_sort Event Data = false
same_sort Event Adapter = false
same_sort Data Event = false
same_sort Data Data = true
same_sort Data Adapter = false
same_sort Adapter Event = false
same_sort Adapter Data = false
same_sort Adapter Adapter = true

-- the place of a sort in their order
abbrev pub number_of : Sort → ℕ
number_of Event = 0
number_of Data = 1
number_of Adapter = 2
