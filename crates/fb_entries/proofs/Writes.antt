-- What is written through `get_mut`, key by key.
use Rattle.std.proofs.Common.{◌≡◌, Bool, true, false, List, IsSome, sym, ap, subst, refl, ◌∙◌, Some, None, cond, rules}
use Rattle.std.specs.Option.{option_map}
use Rattle.std.specs.BTreeMap as tree
use Rattle.fb_jobs.specs.{declared.keys.key.Key.{Key}, KeyOrder.{key_cmp, same_key}}
use Rattle.fb_entries.specs.{declared.entry.Entry.{Entry}, Keyed.{entry_in}, Marking.{ChangesEntry}}
use Rattle.fb_jobs.proofs.Order.{keys_equal}

module _ (m n : tree.BTreeMap Key Entry) (was : List (Key × Entry)) (k : Key) (f : Entry → Entry) (seen : m.entries ≡ was) where
  written_at : (e w : Entry) (other : Key) (b : Bool) → same_key k other ≡ b → Some e ≡ tree.get key_cmp m k → f e ≡ w → tree.get key_cmp n other ≡ cond b (Some w) (tree.get key_cmp m other) → tree.get key_cmp n other ≡ cond b (option_map f (tree.get key_cmp m other)) (tree.get key_cmp m other)
  written_at e w other true same here is now =
      now ∙ sym (ap (λ q. option_map f (tree.get key_cmp m q)) (sym (keys_equal k other same)) ∙ ap (λ o. option_map f o) (sym here) ∙ ap (λ x. Some x) is)
  written_at e w other false same here is now = now

  unwritten_at : (other : Key) (b : Bool) → same_key k other ≡ b → None ≡ tree.get key_cmp m k → n ≡ m → tree.get key_cmp n other ≡ cond b (option_map f (tree.get key_cmp m other)) (tree.get key_cmp m other)
  unwritten_at other true same here is =
      let gone : tree.get key_cmp m other ≡ None = ap (λ q. tree.get key_cmp m q) (sym (keys_equal k other same)) ∙ sym here in
      ap (λ x. tree.get key_cmp x other) is ∙ gone ∙ sym (ap (λ o. option_map f o) gone)
  unwritten_at other false same here is = ap (λ x. tree.get key_cmp x other) is

  pub written : (e w : Entry) → Some e ≡ tree.get key_cmp m k → f e ≡ w → tree.WritesThrough key_cmp (key_cmp k) m w n → ChangesEntry k f (entry_in was) (entry_in n.entries)
  written e w here is wrote =
      let there : IsSome (tree.get key_cmp m k) = subst (λ o. IsSome o) here (search rules) in
      subst (λ es. ChangesEntry k f (entry_in es) (entry_in n.entries)) seen
      (λ other. written_at e w other (same_key k other) refl here is ((wrote.3 there).0 other))

  pub unwritten : None ≡ tree.get key_cmp m k → n ≡ m → ChangesEntry k f (entry_in was) (entry_in n.entries)
  unwritten here is =
      subst (λ es. ChangesEntry k f (entry_in es) (entry_in n.entries)) seen
      (λ other. unwritten_at other (same_key k other) refl here is)
