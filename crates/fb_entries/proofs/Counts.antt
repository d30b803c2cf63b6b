-- How many entries have no value, after each write of a map.
use Rattle.std.proofs.Common.{◌≡◌, ◌+◌, ℕ, List, count_by, Option, Some, sym, ap, arith, cond, option_map, unwrap_or}
use Rattle.std.proofs.lemmas.Map.Entries.{sum_by-insert_entry, sum_by-remove_entry, sum_by-set_value}
use Rattle.std.specs.{Map.{keys_of, remove_entry, set_value, values_of}, BTreeMap.{insert_entry, is_at}, List.Sorted.{IsStrictlySortedBy}}
use Rattle.fb_jobs.specs.{declared.keys.key.Key.{Key}, KeyOrder.{key_cmp, key_cmp_total}}
use Rattle.fb_entries.specs.{declared.entry.Entry.{Entry}, Keyed.{entry_in}, Marking.{is_unkept}}

-- how many of these entries have no value
abbrev pub unkept_in : List (Key × Entry) → ℕ
unkept_in entries = count_by is_unkept (values_of entries)

-- 1 for an entry that has no value
abbrev pub one_if_unkept : Entry → ℕ
one_if_unkept it = cond (is_unkept it) 1 0

-- 1 if there is an entry that has no value
abbrev pub unkept_of : Option Entry → ℕ
unkept_of it = unwrap_or (option_map one_if_unkept it) 0

module _ (key : Key) (old new : List (Key × Entry)) where
  pub unkept-insert : (was : Option Entry) (now : Entry) → IsStrictlySortedBy key_cmp (keys_of old) → was ≡ entry_in old key → new ≡ insert_entry key_cmp old key now → unkept_in new + unkept_of was ≡ unkept_in old + one_if_unkept now
  unkept-insert was now sorted found is =
      omega (arith, ap unkept_in is, ap unkept_of found, sum_by-insert_entry one_if_unkept key_cmp_total old key now sorted)

  pub unkept-remove : (was : Option Entry) → was ≡ entry_in old key → new ≡ remove_entry (is_at (key_cmp key)) old → unkept_in new + unkept_of was ≡ unkept_in old
  unkept-remove was found is =
      omega (arith, ap unkept_in is, ap unkept_of found, sum_by-remove_entry one_if_unkept (is_at (key_cmp key)) old)

  pub unkept-set : (was now : Entry) → Some was ≡ entry_in old key → new ≡ set_value (is_at (key_cmp key)) old now → unkept_in new + one_if_unkept was ≡ unkept_in old + one_if_unkept now
  unkept-set was now found is =
      omega (arith, ap unkept_in is, sum_by-set_value one_if_unkept (is_at (key_cmp key)) old was now (sym found))
