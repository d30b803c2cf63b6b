use Rattle.std.proofs.Common.{◌≡◌, ◌++◌, drop, map, option_map}
use Rattle.serde_json.specs.View.{items_view}
use Rattle.fb_messages.specs.{RequestView.{change_view}, Requests.{changes_of}}
use Rattle.fb_messages.proofs.request.changes_of.Given as goal

abbrev pub invariant-loop-value : goal.invariant-loop-value
invariant-loop-value l =
    option_map (λ more. map change_view l.changes.items ++ more) (changes_of (items_view (drop l.value-index l.values))) ≡ changes_of (items_view l.values)
