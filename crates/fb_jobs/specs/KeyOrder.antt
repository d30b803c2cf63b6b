-- The order of keys.
use Rattle.std.specs.{Prelude.{ℕ, Bool}, declared.cmp.Ordering.{Ordering}, Ordering.{nat_cmp, on, then_cmp, is_eq}}
use Rattle.std.specs.{Cmp.{IsTotalOrder, then_total, on_total, nat_cmp_total}, Cmp.Lexicographic.{nat_list_cmp_total}}
use Rattle.fb_text.specs.Order.{name_cmp}
use Rattle.fb_jobs.specs.{declared.keys.key.Kind.{Kind}, declared.keys.key.Kind.TheVariants.{Faults, Net, Deploy}, declared.keys.key.Key.{Key}}

abbrev pub kind_number : Kind → ℕ
kind_number Faults = 0
kind_number Net = 1
kind_number Deploy = 2

abbrev pub kind_cmp : Kind → Kind → Ordering
kind_cmp = on kind_number nat_cmp

-- by kind, then by the bytes of the unit's name
abbrev pub key_cmp : Key → Key → Ordering
key_cmp = then_cmp (on (λ (key : Key). kind_number key.kind) nat_cmp) (on (λ (key : Key). key.unit) name_cmp)

abbrev pub same_key : Key → Key → Bool
same_key a b = is_eq (key_cmp a b)

pub key_cmp_total : IsTotalOrder key_cmp
key_cmp_total = then_total (on_total (λ (key : Key). kind_number key.kind) nat_cmp_total) (on_total (λ (key : Key). key.unit) nat_list_cmp_total)
