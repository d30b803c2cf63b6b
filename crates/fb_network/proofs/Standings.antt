-- Instances that are taken in one by one.
use Rattle.std.proofs.Common.{ℕ, ◌≡◌, ◌<◌, ◌+◌, Bool, true, false, cond, List, [], ◌∷◌, ◌++◌, Option, Some, None, length, take, get_or, refl, sym, ap, subst, ◌∙◌, arith, append_assoc, append-nil, length-append}
use Rattle.std.proofs.{lemmas.List.{take_more}, lemmas.List.Concat.{flat_map-append, flat_map-cons}, lemmas.List.Elements.{All-cons, All-nil}}
use Rattle.std.specs.{Prelude.{flat_map, is_some}, BTreeMap.{is_at}}
use Rattle.fb_tree.specs.Text.Order.{name_cmp}
use Rattle.fb_network.specs.{declared.network.InstanceKind.TheVariants.{Block, Subapplication}, declared.network.Instance.{Instance}}
use Rattle.fb_network.specs.{declared.flat.FlatBlock.{FlatBlock}, declared.flat.Link.{Link}, declared.paths.place.Place.{Place}, declared.flat.entries.Leaf.{Leaf}, declared.flat.entries.Edge.{Edge}}
use Rattle.fb_network.specs.{declared.composition.draft.Draft.{Draft}, declared.network.table.Standing.{Standing}, Network.{instance_named}, PlainFlat.{PlainFlat}}
use Rattle.fb_network.specs.{PlainPrefix.{PlainPrefix}, Ready.{Nets}, Composed.{inner_blocks, inner_links}}
use Rattle.fb_network.specs.{Laid.{IsEdgeBelow, IsJoinBelow, IsLeafBelow, block_at, border_at, link_at}, Reading.{AreEdges, AreJoins, AreLeaves, Grows, TakesIn}}
use Rattle.fb_network.specs.Standing.{HoldsInstances, IsTable, Says, StandsFor, TakesInstance, inner_borders, or_alone, or_instance}
use Rattle.fb_network.proofs.{Drafts.{added}, Equals.{same_bytes}, Readings.{edges_grown, joins_grown, leaves_grown, path_grown, reading_nothing}}

-- a new name is put
pub put_new : (old new : List ℕ → Option Standing) (s : Standing) → is_some (old s.instance.name) ≡ false → ((q : List ℕ) → new q ≡ cond (is_at (name_cmp s.instance.name) q) (Some s) (old q)) → (q : List ℕ) → new q ≡ or_alone s q (old q)
put_new old new s gone updates q = grind (arith, updates q, same_bytes s.instance.name q)

-- a name that is there stays
pub put_kept : (old : List ℕ → Option Standing) (s : Standing) → is_some (old s.instance.name) ≡ true → (q : List ℕ) → old q ≡ or_alone s q (old q)
put_kept old s there q = grind (arith, same_bytes s.instance.name q)

pub says_grown : {prefixes new : List PlainPrefix} {place : Place} {text : List ℕ} → Grows prefixes new → Says prefixes place text → Says new place text
says_grown {prefixes = prefixes} {place = place} {text = text} g s =
    rw g.1 (record { in_range = omega (arith, length-append prefixes g.0, s.in_range); is = path_grown prefixes g.0 place s.in_range ∙ s.is })

pub grows_none : (prefixes : List PlainPrefix) → Grows prefixes prefixes
grows_none prefixes = ([], sym (append-nil prefixes))

pub grows_twice : (a b c : List PlainPrefix) → Grows a b → Grows b c → Grows a c
grows_twice a b c g h = (g.0 ++ h.0, h.1 ∙ ap (λ (fs : List PlainPrefix). fs ++ h.0) g.1 ∙ append_assoc a g.0 h.0)

-- a block is taken in
pub takes_block : {nets : Nets} (old new : Draft) (i : Instance) (edges : List Edge) (place : Place) → i.kind ≡ Block → Says old.prefixes place i.name → new.prefixes ≡ old.prefixes → new.joins.items ≡ old.joins.items → new.leaves.items ≡ old.leaves.items ++ record { place = place; type_name = i.type_name } ∷ [] → edges ≡ [] → TakesInstance nets old new i edges
takes_block {nets = nets} old new i edges place kind says prefixes_stay joins_stay leaves_are none =
    let grows : Grows old.prefixes new.prefixes = ([], prefixes_stay ∙ sym (append-nil old.prefixes)) in
    let there = says_grown grows says in
    let leaf : Leaf = record { place = place; type_name = i.type_name } in
    let block : FlatBlock = record { path = i.name; type_name = i.type_name } in
    let one : AreLeaves new.prefixes (leaf ∷ []) (block ∷ []) = record {
      in_range = All-cons (IsLeafBelow (length new.prefixes)) leaf [] there.in_range (All-nil (IsLeafBelow (length new.prefixes)));
      is = λ j. record { path = there.is j; type_name = i.type_name } ∷ [];
    } in
    record {
      grows = grows;
      blocks = λ blocks p. rw kind (added new.leaves.items (block ∷ []) leaves_are refl (leaves_grown grows p) one);
      links = λ links p. rw (kind, append-nil links, joins_stay) (joins_grown grows p);
      borders = rw (kind, none) (reading_nothing IsEdgeBelow border_at new.prefixes);
    }

-- a subapplication instance without a net holds nothing
pub takes_unknown : {nets : Nets} (draft : Draft) (i : Instance) (edges : List Edge) → i.kind ≡ Subapplication → nets i.type_name ≡ None → edges ≡ [] → TakesInstance nets draft draft i edges
takes_unknown {nets = nets} draft i edges kind missing none =
    record {
      grows = grows_none draft.prefixes;
      blocks = λ blocks p. rw (kind, missing, append-nil blocks) p;
      links = λ links p. rw (kind, missing, append-nil links) p;
      borders = rw (kind, missing, none) (reading_nothing IsEdgeBelow border_at draft.prefixes);
    }

-- what a subapplication instance holds is taken in
pub takes_inner : {nets : Nets} (old new : Draft) (i : Instance) (inner : PlainFlat) (edges : List Edge) → i.kind ≡ Subapplication → nets i.type_name ≡ Some inner → TakesIn old new i.name inner edges → TakesInstance nets old new i edges
takes_inner {nets = nets} old new i inner edges kind found t =
    record {
      grows = t.grows;
      blocks = λ blocks p. rw (kind, found) (t.blocks blocks p);
      links = λ links p. rw (kind, found) (t.links links p);
      borders = rw (kind, found) t.borders;
    }

-- no instance has been taken in
pub holds_nothing : {nets : Nets} (draft : Draft) (table : List ℕ → Option Standing) → draft.leaves.items ≡ [] → draft.joins.items ≡ [] → ((q : List ℕ) → table q ≡ None) → HoldsInstances nets draft draft table []
holds_nothing {nets = nets} draft table no_blocks no_links none =
    record {
      grows = grows_none draft.prefixes;
      blocks = rw no_blocks (reading_nothing IsLeafBelow block_at draft.prefixes);
      links = rw no_links (reading_nothing IsJoinBelow link_at draft.prefixes);
      standing = λ name. rw (none name) tt;
    }

named_push : (xs : List Instance) (i : Instance) (name : List ℕ) → instance_named (xs ++ i ∷ []) name ≡ or_instance i name (instance_named xs name)
named_push [] i name = refl
named_push (x ∷ xs) i name = grind (arith, named_push xs i name)

stands_more : (nets : Nets) (prefixes new : List PlainPrefix) (s : Standing) (i : Instance) (q : List ℕ) → Grows prefixes new → s.instance ≡ i → AreEdges new s.borders.items (inner_borders nets i) → (a : Option Standing) (b : Option Instance) → StandsFor prefixes nets a b → StandsFor new nets (or_alone s q a) (or_instance i q b)
stands_more nets prefixes new s i q g same edges None None p =
    subst (λ (n : List ℕ). StandsFor new nets (cond (is_at (name_cmp n) q) (Some s) None) (cond (is_at (name_cmp i.name) q) (Some i) None)) (ap (λ (x : Instance). x.name) (sym same)) (by_test (is_at (name_cmp i.name) q))
  where
    by_test : (b : Bool) → StandsFor new nets (cond b (Some s) None) (cond b (Some i) None)
    by_test true = (same, edges)
    by_test false = tt
stands_more nets prefixes new s i q g same edges (Some t) (Some x) p = (p.0, edges_grown g p.1)
stands_more nets prefixes new s i q g same edges a b p = absurd p

pub flat_map_push : {A B : Type 0} (f : A → List B) (xs : List A) (x : A) → flat_map f (xs ++ x ∷ []) ≡ flat_map f xs ++ f x
flat_map_push f xs x = flat_map-append f xs (x ∷ []) ∙ ap (λ (bs : List _). flat_map f xs ++ bs) (flat_map-cons f x [] ∙ append-nil (f x))

-- one instance more has been taken in
pub holds_more : {nets : Nets} (start draft new : Draft) (table after : List ℕ → Option Standing) (xs : List Instance) (i : Instance) (s : Standing) → HoldsInstances nets start draft table xs → TakesInstance nets draft new i s.borders.items → s.instance ≡ i → ((q : List ℕ) → after q ≡ or_alone s q (table q)) → HoldsInstances nets start new after (xs ++ i ∷ [])
holds_more {nets = nets} start draft new table after xs i s h t same puts =
    record {
      grows = grows_twice start.prefixes draft.prefixes new.prefixes h.grows t.grows;
      blocks = subst (λ (bs : List FlatBlock). AreLeaves new.prefixes new.leaves.items bs) (sym (flat_map_push (inner_blocks nets) xs i)) (t.blocks _ h.blocks);
      links = subst (λ (ls : List Link). AreJoins new.prefixes new.joins.items ls) (sym (flat_map_push (inner_links nets) xs i)) (t.links _ h.links);
      standing = λ q.
          subst (λ (o : Option Instance). StandsFor new.prefixes nets (after q) o) (sym (named_push xs i q))
          (subst (λ (o : Option Standing). StandsFor new.prefixes nets o (or_instance i q (instance_named xs q))) (sym (puts q))
          (stands_more nets draft.prefixes new.prefixes s i q t.grows same t.borders (table q) (instance_named xs q) (h.standing q)));
    }

-- what has been passed, and the next
pub next_taken : {X : Type 0} (xs : List X) (k : ℕ) (x : X) → k < length xs → x ≡ get_or xs k x → take k xs ++ x ∷ [] ≡ take (k + 1) xs
next_taken xs k x lt e = ap (λ (y : _). take k xs ++ y ∷ []) e ∙ sym (take_more xs k x lt)

-- the table stays where prefixes are added
pub table_grown : (prefixes new : List PlainPrefix) (nets : Nets) (table : List ℕ → Option Standing) (xs : List Instance) → Grows prefixes new → IsTable prefixes nets table xs → IsTable new nets table xs
table_grown prefixes new nets table xs g is = λ name. by_found name (table name) (instance_named xs name) (is name)
  where
    by_found : (name : List ℕ) (a : Option Standing) (b : Option Instance) → StandsFor prefixes nets a b → StandsFor new nets a b
    by_found name None None p = tt
    by_found name (Some t) (Some x) p = (p.0, edges_grown g p.1)
    by_found name a b p = absurd p
