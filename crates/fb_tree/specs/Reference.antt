-- The names of references.
use Rattle.std.specs.Prelude.{List, [], box_value}
use Rattle.fb_text.specs.declared.name.NameUse.{NameUse}
use Rattle.fb_tree.specs.{declared.reference.Member.{Member}, declared.reference.ReferenceNames.{ReferenceNames}}
use Rattle.fb_tree.specs.declared.reference.ReferenceNames.TheVariants.{One, Members}

-- the first name with its span
abbrev pub first_use : ReferenceNames → NameUse
first_use (One used) = used
first_use (Members names) = (box_value names).0

-- the names after it
abbrev pub further_names : ReferenceNames → List Member
further_names (One used) = []
further_names (Members names) = (box_value names).1.items
