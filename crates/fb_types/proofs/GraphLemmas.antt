-- Graphs of names: what is followed forth and back.
use Rattle.std.proofs.{Common.{◌≡◌, ℕ, true, List, [], Some, None, sym, ap, subst, ◌∙◌, filter}, lemmas.Bool.{false≢true}}
use Rattle.std.specs.{List.{Contains}, Option.{option_map_or}, BTreeMap.{get}, BTreeSet.{BTreeSet}, declared.vec.Vec.{Vec}, declared.alloc.Global.{Global}}
use Rattle.fb_tree.specs.Text.Order.{name_cmp}
use Rattle.fb_iface.specs.Library.Seen.{has_name}
use Rattle.fb_iface.proofs.Library.WalkLemmas.{Contains-has, has-Contains}
use Rattle.fb_types.specs.Graph.{Edges, edges_at, edges_within, Follows, one, more, IsReverse}
use Rattle.fb_types.proofs.FilterLemmas.{in_filter, of_filter}

-- ---- the edges that a look-up finds
pub edges-none : (edges : Edges) (set : BTreeSet (List ℕ)) (u : List ℕ) → get name_cmp edges u ≡ None → edges_within edges set u ≡ []
edges-none edges set u none = ap (λ o. filter (has_name set.keys) (option_map_or (λ (it : Vec (List ℕ) Global). it.items) o [])) none

pub edges-some : (edges : Edges) (set : BTreeSet (List ℕ)) (u : List ℕ) (leads : Vec (List ℕ) Global) (names : List (List ℕ)) → get name_cmp edges u ≡ Some leads → names ≡ leads.items → edges_within edges set u ≡ filter (has_name set.keys) names
edges-some edges set u leads names some is = ap (λ o. filter (has_name set.keys) (option_map_or (λ (it : Vec (List ℕ) Global). it.items) o [])) some ∙ sym (ap (filter (has_name set.keys)) is)

-- ---- following
module _ (next : List ℕ → List (List ℕ)) where
  pub follow_first : {u w v : List ℕ} → Contains (next u) w → Follows next w v → Follows next u v
  follow_first m (one n) = more (one m) n
  follow_first m (more r n) = more (follow_first m r) n

  pub follow_both : {u w v : List ℕ} → Follows next u w → Follows next w v → Follows next u v
  follow_both r (one n) = more r n
  follow_both r (more s n) = more (follow_both r s) n

  pub no_follow : {u v : List ℕ} → next u ≡ [] → Follows next u v → ⊥
  no_follow {u} {v} none (one m) = absurd (false≢true (sym (ap (λ l. has_name l v) none) ∙ has-Contains v (next u) m))
  no_follow none (more r m) = no_follow none r

-- ---- a round: what a name reaches and what reaches it
module _ (forth back : Edges) (reverse : IsReverse forth back) (name : List ℕ) (undecided : BTreeSet (List ℕ)) where
  abbrev next : List ℕ → List (List ℕ)
  next = edges_at forth

  abbrev back_next : List ℕ → List (List ℕ)
  back_next = edges_within back undecided

  back_edge : (u v : List ℕ) → Contains (back_next u) v → Contains (next v) u
  back_edge u v m = Contains-has u (next v) (sym (reverse v u) ∙ (of_filter (has_name undecided.keys) (edges_at back u) v (has-Contains v (back_next u) m)).0)

  back_sound : {v : List ℕ} → Follows back_next name v → Follows next v name
  back_sound {v} (one m) = one (back_edge name v m)
  back_sound {v} (more {w = w} r m) = follow_first next (back_edge w v m) (back_sound r)

  module _ (whole : (v : List ℕ) → Follows next name v → Follows next v name → has_name undecided.keys v ≡ true) where
    turned : (u v : List ℕ) → Contains (next v) u → Follows next name v → Follows next v name → Contains (back_next u) v
    turned u v m to from = Contains-has v (back_next u) (in_filter (has_name undecided.keys) (edges_at back u) v (whole v to from) (reverse v u ∙ has-Contains u (next v) m))

    back_on : {u w : List ℕ} → Follows next u w → Follows next name u → Follows next w name → Follows back_next name w → Follows back_next name u
    back_on {u} {w} (one m) to from here = more here (turned w u m to (follow_first next m from))
    back_on {u} {w} (more {w = z} r m) to from here =
        let onward : Follows next z name = follow_first next m from in
        back_on r to onward (more here (turned w z m (follow_both next to r) onward))

    back_whole : {v : List ℕ} → Follows next v name → Follows next name v → Follows back_next name v
    back_whole {v} (one m) to = one (turned name v m to (one m))
    back_whole {v} (more {w = z} r m) to = back_on r to (one m) (one (turned name z m (follow_both next to r) (one m)))

    module _ (behind : BTreeSet (List ℕ)) (is_behind : (v : List ℕ) → (Contains behind.keys v → Follows back_next name v) × (Follows back_next name v → Contains behind.keys v)) where
      abbrev forth_next : List ℕ → List (List ℕ)
      forth_next = edges_within forth behind

      forth_edge : (u v : List ℕ) → Contains (forth_next u) v → Contains (next u) v × Follows next v name
      forth_edge u v m =
          let kept = of_filter (has_name behind.keys) (next u) v (has-Contains v (forth_next u) m) in
          (Contains-has v (next u) kept.0, back_sound ((is_behind v).0 (Contains-has v behind.keys kept.1)))

      forth_sound : {v : List ℕ} → Follows forth_next name v → Follows next name v × Follows next v name
      forth_sound {v} (one m) = let edge = forth_edge name v m in (one edge.0, edge.1)
      forth_sound {v} (more {w = w} r m) = let edge = forth_edge w v m in (more (forth_sound r).0 edge.0, edge.1)

      kept_edge : (u v : List ℕ) → Contains (next u) v → Follows next name v → Follows next v name → Contains (forth_next u) v
      kept_edge u v m to from = Contains-has v (forth_next u) (in_filter (has_name behind.keys) (next u) v (has-Contains v behind.keys ((is_behind v).1 (back_whole from to))) (has-Contains v (next u) m))

      forth_whole : {v : List ℕ} → Follows next name v → Follows next v name → Follows forth_next name v
      forth_whole {v} (one m) from = one (kept_edge name v m (one m) from)
      forth_whole {v} (more {w = w} r m) from = more (forth_whole r (follow_first next m from)) (kept_edge w v m (more r m) from)

      pub listed_round : (round : List (List ℕ)) → ((v : List ℕ) → (Contains round v → Follows forth_next name v) × (Follows forth_next name v → Contains round v)) → (listed : List (List ℕ)) → listed ≡ round → (v : List ℕ) → (Contains listed v → Follows next name v × Follows next v name) × (Follows next name v × Follows next v name → Contains listed v)
      listed_round round is_round listed is v = (
        λ there. forth_sound ((is_round v).0 (subst (λ (l : List (List ℕ)). Contains l v) is there)),
        λ r. subst (λ (l : List (List ℕ)). Contains l v) (sym is) ((is_round v).1 (forth_whole r.0 r.1)),
      )
