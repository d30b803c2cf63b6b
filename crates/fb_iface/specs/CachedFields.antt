-- The types of values that are kept for references.
use Rattle.std.specs.{Prelude.{ℕ, List, Option, Some, None, nat_eq}, Cmp.Lexicographic.{pointwise}, HashMap.{get}}
use Rattle.fb_iface.specs.{Fields.{Fields, NotChecked, NoFields, HasFields}, declared.structures.Behind.{Behind}, declared.structures.CachedFields.{CachedFields}}
use Rattle.fb_iface.specs.declared.structures.Structures.{Structures}
use Rattle.fb_iface.specs.declared.structures.Behind.TheVariants as behind
use Rattle.fb_iface.specs.declared.structures.CachedFields.TheVariants as kept

-- what may be named after a type of which this is kept; nothing for a type of which nothing is kept
abbrev pub kept_fields : Option CachedFields → Fields
kept_fields None = NoFields
kept_fields (Some kept.NotChecked) = NotChecked
kept_fields (Some (kept.Known fields)) = HasFields fields

-- what may be named after each type, by what is kept
abbrev pub structures_in : Structures → List ℕ → Fields
structures_in s name = kept_fields (get (pointwise nat_eq) s.by_name name)

-- what may be named after a type, lent by reference
abbrev pub fields_shown : Behind → Fields
fields_shown behind.NotChecked = NotChecked
fields_shown behind.NoFields = NoFields
fields_shown (behind.Fields fields) = HasFields fields.now
