-- Prefixes behind plugs and sockets, and the links of an adapter's ports between them.
use Rattle.std.proofs.Common.{ℕ, ◌≡◌, ◌<◌, ◌+◌, suc, List, [], ◌∷◌, ◌++◌, Option, Some, length, map, take, get_or, refl, sym, ap, subst, ◌∙◌, arith, append_assoc, length-append}
use Rattle.std.proofs.{lemmas.List.Elements.{All-cons, All-get_or, All-nil}, lemmas.List.{length-take-le, map-append}, lemmas.Option.{slice_get_within}}
use Rattle.std.specs.{Prelude.{slice_get}, List.{All}}
use Rattle.fb_tree.specs.{declared.interface.Side.{Side}, declared.interface.Side.TheVariants.{Input, Output}}
use Rattle.fb_network.specs.{declared.network.Port.{Port}, declared.paths.place.Place.{Place}, declared.flat.entries.Join.{Join}, Places.{dotted}}
use Rattle.fb_network.specs.{PlainPrefix.{PlainPrefix}, Composed.{adapter_links, link_on_side, plug_links, port_links}}
use Rattle.fb_network.specs.{Laid.{IsJoinBelow, link_at, path_at, path_in, text_or_nothing}, Reading.{AreJoins, Grows, IsPlaceBelow}, Standing.{Says}}
use Rattle.fb_network.specs.Behind.{AreMembers, IsMember, adapter_joins, prefix_behind, join_on_side, member_join, member_joins, plug_joins}
use Rattle.fb_network.proofs.{Readings.{get_left, get_right, path_grown, reading_both, reading_nothing}, Standings.{grows_none, grows_twice, next_taken}}

-- the prefixes behind places have been added under these numbers
pub record AddsMembers (old new : List PlainPrefix) (names : List (List ℕ)) (numbers : List ℕ) (places : List Place) : Type 0 where
  pub grows : Grows old new
  pub members : AreMembers new names numbers (map (path_at old) places)

member_grown : (prefixes new : List PlainPrefix) (names : List (List ℕ)) (n : ℕ) (text : List ℕ) → Grows prefixes new → IsMember prefixes names n text → IsMember new names n text
member_grown prefixes new names n text g e = ap (λ (fs : List PlainPrefix). slice_get fs n) g.1 ∙ get_left prefixes g.0 n (slice_get_within prefixes n _ e) ∙ e

pub members_grown : (prefixes new : List PlainPrefix) (names : List (List ℕ)) (ns : List ℕ) (ts : List (List ℕ)) → Grows prefixes new → AreMembers prefixes names ns ts → AreMembers new names ns ts
members_grown prefixes new names [] [] g p = tt
members_grown prefixes new names (n ∷ ns) (t ∷ ts) g p = (member_grown prefixes new names n t g p.0, members_grown prefixes new names ns ts g p.1)
members_grown prefixes new names ns ts g p = absurd p

members_push : (prefixes : List PlainPrefix) (names : List (List ℕ)) (ns : List ℕ) (ts : List (List ℕ)) (n : ℕ) (t : List ℕ) → AreMembers prefixes names ns ts → IsMember prefixes names n t → AreMembers prefixes names (ns ++ n ∷ []) (ts ++ t ∷ [])
members_push prefixes names [] [] n t p q = (q, tt)
members_push prefixes names (m ∷ ns) (u ∷ ts) n t p q = (p.0, members_push prefixes names ns ts n t p.1 q)
members_push prefixes names ns ts n t p q = absurd p

pub adds_nothing : (prefixes : List PlainPrefix) (names : List (List ℕ)) → AddsMembers prefixes prefixes names [] []
adds_nothing prefixes names = record { grows = grows_none prefixes; members = tt }

-- one prefix more
pub adds_member : (start prefixes new : List PlainPrefix) (names : List (List ℕ)) (numbers all : List ℕ) (places : List Place) (k n : ℕ) (x : Place) → AddsMembers start prefixes names numbers (take k places) → All (IsPlaceBelow (length start)) places → k < length places → x ≡ get_or places k x → n ≡ length prefixes → new ≡ prefixes ++ prefix_behind names (path_at prefixes x) ∷ [] → all ≡ numbers ++ n ∷ [] → AddsMembers start new names all (take (k + 1) places)
adds_member start prefixes new names numbers all places k n x a below lt e count is all_are =
    let one : PlainPrefix = prefix_behind names (path_at prefixes x) in
    let more : Grows prefixes new = (one ∷ [], is) in
    let here : slice_get new n ≡ Some one = ap (λ (fs : List PlainPrefix). slice_get fs n) is ∙ get_right prefixes (one ∷ []) 0 n (omega (arith, count)) in
    let x_below : x.prefix < length start = subst (IsPlaceBelow (length start)) (sym e) (All-get_or (IsPlaceBelow (length start)) places k x lt below) in
    let same : path_at prefixes x ≡ path_at start x = ap (λ (fs : List PlainPrefix). path_at fs x) a.grows.1 ∙ path_grown start a.grows.0 x x_below in
    let texts = map (path_at start) (take k places) in
    record {
      grows = grows_twice start prefixes new a.grows more;
      members = rw (all_are, ← next_taken places k x lt e, map-append (path_at start) (take k places) (x ∷ []))
          (members_push new names numbers texts n (path_at start x) (members_grown prefixes new names numbers texts more a.members) (here ∙ ap (λ (t : List ℕ). Some (prefix_behind names t)) same));
    }

-- the links of one port more
pub member_joins_push : (plug socket end : ℕ) (xs : List Port) (x : Port) → member_joins plug socket end xs ++ member_join plug socket (length xs + end) x ∷ [] ≡ member_joins plug socket end (xs ++ x ∷ [])
member_joins_push plug socket end [] x = ap (λ (n : ℕ). member_join plug socket n x ∷ []) (omega arith)
member_joins_push plug socket end (y ∷ xs) x =
    let further : length xs + (end + 1) ≡ suc (length xs) + end = omega arith in
    ap (λ (js : List Join). member_join plug socket end y ∷ js) (ap (λ (n : ℕ). member_joins plug socket (end + 1) xs ++ member_join plug socket n x ∷ []) (sym further) ∙ member_joins_push plug socket (end + 1) xs x)

pub member_joins_next : (plug socket : ℕ) (xs : List Port) (k : ℕ) (x : Port) → k < length xs → x ≡ get_or xs k x → member_joins plug socket 0 (take k xs) ++ member_join plug socket k x ∷ [] ≡ member_joins plug socket 0 (take (k + 1) xs)
member_joins_next plug socket xs k x lt e =
    let passed : length (take k xs) ≡ k = length-take-le k xs (omega (arith, lt)) in
    let here : k ≡ length (take k xs) + 0 = omega (arith, passed) in
    ap (λ (n : ℕ). member_joins plug socket 0 (take k xs) ++ member_join plug socket n x ∷ []) here ∙ member_joins_push plug socket 0 (take k xs) x ∙ ap (member_joins plug socket 0) (next_taken xs k x lt e)

module _ (prefixes : List PlainPrefix) (names : List (List ℕ)) where
  abbrev below : Join → Type 0
  below = IsJoinBelow (length prefixes)

  member_says : (n end : ℕ) (text name : List ℕ) → IsMember prefixes names n text → slice_get names end ≡ Some name → Says prefixes (record { prefix = n; end = end }) (dotted text name)
  member_says n end text name is named =
      record {
        in_range = slice_get_within prefixes n _ is;
        is = ap (λ (o : Option PlainPrefix). path_in o end) is ∙ ap (λ (o : Option (List ℕ)). dotted text [] ++ text_or_nothing o) named ∙ append_assoc text (46 ∷ []) name;
      }

  one_reads : (side : Side) (port : Port) (a b : Place) (t u : List ℕ) → Says prefixes a (dotted t port.name) → Says prefixes b (dotted u port.name) → AreJoins prefixes (join_on_side side port a b ∷ []) (link_on_side side port t u ∷ [])
  one_reads Output port a b t u p q = record { in_range = All-cons below _ [] (p.in_range, q.in_range) (All-nil below); is = λ i. record { sort = port.sort; from = p.is i; to = q.is i } ∷ [] }
  one_reads Input port a b t u p q = record { in_range = All-cons below _ [] (q.in_range, p.in_range) (All-nil below); is = λ i. record { sort = port.sort; from = q.is i; to = p.is i } ∷ [] }

  member_reads : (pre : List (List ℕ)) (ports : List Port) (end n m : ℕ) (t u : List ℕ) → end ≡ length pre → names ≡ pre ++ map (λ (port : Port). port.name) ports → IsMember prefixes names n t → IsMember prefixes names m u → AreJoins prefixes (member_joins n m end ports) (port_links ports t u)
  member_reads pre [] end n m t u e is p q = reading_nothing IsJoinBelow link_at prefixes
  member_reads pre (port ∷ ports) end n m t u e is p q =
      let named : slice_get names end ≡ Some port.name = ap (λ (ns : List (List ℕ)). slice_get ns end) is ∙ get_right pre (port.name ∷ map (λ (port : Port). port.name) ports) 0 end (omega (arith, e)) in
      let head = one_reads port.side port (record { prefix = n; end = end }) (record { prefix = m; end = end }) t u (member_says n end t port.name p named) (member_says m end u port.name q named) in
      let longer : end + 1 ≡ length (pre ++ port.name ∷ []) = let long = length-append pre (port.name ∷ []) in omega (arith, e, long) in
      let tail = member_reads (pre ++ port.name ∷ []) ports (end + 1) n m t u longer (is ∙ sym (append_assoc pre (port.name ∷ []) (map (λ (port : Port). port.name) ports))) p q in
      reading_both IsJoinBelow link_at prefixes (member_join n m end port ∷ []) (member_joins n m (end + 1) ports) (link_on_side port.side port t u ∷ []) (port_links ports t u) head tail

  module _ (ports : List Port) (named : names ≡ map (λ (port : Port). port.name) ports) where
    plug_reads : (n : ℕ) (t : List ℕ) (ms : List ℕ) (us : List (List ℕ)) → IsMember prefixes names n t → AreMembers prefixes names ms us → AreJoins prefixes (plug_joins ports ms n) (plug_links ports us t)
    plug_reads n t [] [] p q = reading_nothing IsJoinBelow link_at prefixes
    plug_reads n t (m ∷ ms) (u ∷ us) p q =
        reading_both IsJoinBelow link_at prefixes (member_joins n m 0 ports) (plug_joins ports ms n) (port_links ports t u) (plug_links ports us t) (member_reads [] ports 0 n m t u refl named p q.0) (plug_reads n t ms us p q.1)
    plug_reads n t ms us p q = absurd q

    pub adapter_reads : (ns : List ℕ) (ts : List (List ℕ)) (ms : List ℕ) (us : List (List ℕ)) → AreMembers prefixes names ns ts → AreMembers prefixes names ms us → AreJoins prefixes (adapter_joins ports ns ms) (adapter_links ports ts us)
    adapter_reads [] [] ms us p q = reading_nothing IsJoinBelow link_at prefixes
    adapter_reads (n ∷ ns) (t ∷ ts) ms us p q =
        reading_both IsJoinBelow link_at prefixes (plug_joins ports ms n) (adapter_joins ports ns ms) (plug_links ports us t) (adapter_links ports ts us) (plug_reads n t ms us p.0 q) (adapter_reads ns ts ms us p.1 q)
    adapter_reads ns ts ms us p q = absurd p
