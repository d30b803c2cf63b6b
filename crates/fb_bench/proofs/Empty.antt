-- A workbench that has done nothing.
use Rattle.std.proofs.Common.{◌≡◌, ℕ, false, [], refl, sym, ap, subst, arith}
use Rattle.std.specs.{Map.{lookup}, BTreeMap.{is_at}, List.{list_any}}
use Rattle.fb_entries.specs.{Keyed.{Keyed}, Library.Texts.{Texts}, Jobs.declared.keys.key.Key.{Key}, Jobs.Keys.{has_key}, Jobs.KeyOrder.{key_cmp}}
use Rattle.fb_entries.specs.Index.Indexed.{Indexed, nothing_indexed}
use Rattle.fb_history.specs.BenchView.{BenchView, empty_origin, new_bench, opened, replay, replies}
use Rattle.fb_bench.specs.Consistent.{Agrees, IsConsistent, EntryFits}
use Rattle.fb_entries.proofs.{Indexing.{indexed_none}, Jobs.KindLemmas.{no_kind}}
use Rattle.fb_history.proofs.AfterCalls.{begins_empty}

no_key : (key : Key) → has_key [] key ≡ false
unfolding has_key
no_key key = no_kind key.kind

agrees_empty : (most : ℕ) (entries : Keyed) → entries.entries ≡ [] → entries.ready ≡ [] → Agrees [] 0 entries (opened (empty_origin most))
agrees_empty most entries no_entries no_keys = record {
  units_are = refl;
  commits_are = refl;
  each = λ key. subst (λ es. EntryFits (opened (empty_origin most)) key (lookup (is_at (key_cmp key)) es)) (sym no_entries) (no_key key, refl, refl);
  ready_are = λ key. ap (λ ks. list_any (is_at (key_cmp key)) ks) no_keys;
}

kept_start : (most limit : ℕ) (entries : Keyed) (index : Indexed) → entries.entries ≡ [] → entries.ready ≡ [] → index ≡ nothing_indexed → IsConsistent [] 0 entries index (new_bench most limit)
unfolding replay replies
kept_start most limit entries index no_entries no_keys empty = record { begins = begins_empty most; agrees = agrees_empty most entries no_entries no_keys; replayed = refl; indexed = indexed_none [] index refl empty; few = omega arith }

pub kept_empty : (most limit : ℕ) (units : Texts) (entries : Keyed) (index : Indexed) (bench : BenchView) → units ≡ [] → entries.entries ≡ [] → entries.ready ≡ [] → index ≡ nothing_indexed → bench ≡ new_bench most limit → IsConsistent units 0 entries index bench
kept_empty most limit units entries index bench no_units no_entries no_keys empty is =
    subst (λ st. IsConsistent units 0 entries index st) (sym is)
    (subst (λ us. IsConsistent us 0 entries index (new_bench most limit)) (sym no_units)
    (kept_start most limit entries index no_entries no_keys empty))
