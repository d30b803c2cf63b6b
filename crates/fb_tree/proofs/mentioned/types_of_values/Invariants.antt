use Rattle.std.proofs.Common.{◌≡◌, filter, map, not, take}
use Rattle.fb_text.specs.Elementary.{is_elementary}
use Rattle.fb_tree.proofs.mentioned.types_of_values.Given as goal

abbrev pub invariant-loop-group : goal.invariant-loop-group
invariant-loop-group l =
    l.names.items ≡ filter (λ name. not (is_elementary name)) (map (λ v. v.type_use.name.name) (take l.group-index l.groups))
