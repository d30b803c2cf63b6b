-- The search that makes a graph: what it keeps.
use Rattle.std.proofs.Common.{◌≡◌, ℕ, ◌<◌, Bool, true, false, cond, ◌||◌, ◌&&◌, List, [], ◌∷◌, ◌++◌, Option, Some, refl, sym, ap, subst, ◌∙◌, append_assoc, nat_cmp, arith}
use Rattle.std.proofs.{lemmas.Bool.{or_left, or_right}, lemmas.List.Elements.{Contains-append_left, Contains-append_right}}
use Rattle.std.specs.{Option.{option_map_or}, BTreeMap.{Updates, get, is_at}, Map.{lookup}, Cmp.Lexicographic.{slice_cmp}, declared.vec.Vec.{Vec}}
use Rattle.std.specs.declared.alloc.Global.{Global}
use Rattle.fb_tree.proofs.Text.Tests.{by_bool, or_cases, or_assoc, or_false, no_both, and_true, and_false}
use Rattle.fb_tree.specs.Text.Order.{name_cmp}
use Rattle.fb_iface.proofs.{Library.SeenLemmas.{same, same_is, same_self}, Library.WalkLemmas.{Contains-has, has-Contains, has-push, mentioned_somewhere}}
use Rattle.fb_iface.specs.{Library.View.{Sources, parts_at, parts_in}, Library.Seen.{has_name}}
use Rattle.fb_types.specs.{Graph.{Edges, edges_at, IsReverse}, Steps.{enters}, declared.search.Step.{Step}}
use Rattle.fb_types.specs.declared.search.Step.TheVariants.{Enter, Leave}
use Rattle.fb_types.proofs.{NameLemmas.{or_none_left, or_none_right, same_swap}, SearchLemmas.{all_parts, reachable, fuel, fuel_opens, at_step}}

-- ---- names that are still to be entered
abbrev pub awaits : List Step → List ℕ → Bool
awaits [] q = false
awaits (Enter w ∷ rest) q = same q w || awaits rest q
awaits (Leave v ∷ rest) q = awaits rest q

awaits-append : (xs ys : List Step) (q : List ℕ) → awaits (xs ++ ys) q ≡ (awaits xs q || awaits ys q)
awaits-append [] ys q = refl
awaits-append (Enter w ∷ xs) ys q = ap (λ b. same q w || b) (awaits-append xs ys q) ∙ or_assoc (same q w) (awaits xs q) (awaits ys q)
awaits-append (Leave w ∷ xs) ys q = awaits-append xs ys q

awaits-enters : (names : List (List ℕ)) (q : List ℕ) → awaits (enters names) q ≡ has_name names q
awaits-enters [] q = refl
awaits-enters (w ∷ names) q = ap (λ b. same q w || b) (awaits-enters names q)

awaits-last : (steps : List Step) (w q : List ℕ) → awaits (steps ++ Enter w ∷ []) q ≡ (awaits steps q || same q w)
awaits-last steps w q = awaits-append steps (Enter w ∷ []) q ∙ ap (λ b. awaits steps q || b) (or_false (same q w))

awaits-left : (steps : List Step) (w q : List ℕ) → awaits (steps ++ Leave w ∷ []) q ≡ awaits steps q
awaits-left steps w q = awaits-append steps (Leave w ∷ []) q ∙ or_false (awaits steps q)

-- ---- what the search keeps
pub record IsExplored (sources : Sources) (begun names : List (List ℕ)) (forth back : Edges) (steps : List Step) : Type 0 where
  pub begins : (u : List ℕ) → has_name begun u ≡ true → (has_name names u || awaits steps u) ≡ true
  pub closed : (u v : List ℕ) → has_name names u ≡ true → has_name (parts_at sources u) v ≡ true → (has_name names v || awaits steps v) ≡ true
  pub mentions : (u : List ℕ) → has_name names u ≡ true → edges_at forth u ≡ parts_at sources u
  pub outside : (u : List ℕ) → has_name names u ≡ false → edges_at forth u ≡ []
  pub reverse : IsReverse forth back
  pub bounded : (u : List ℕ) → awaits steps u ≡ true → has_name (reachable sources begun) u ≡ true

no_edges : (edges : Edges) → edges.entries ≡ [] → (u : List ℕ) → edges_at edges u ≡ []
no_edges edges none u = ap (λ es. option_map_or (λ (it : Vec (List ℕ) Global). it.items) (lookup (is_at (name_cmp u)) es) []) none

-- the edges after an insertion
edges_of : (b : Bool) (new : Vec (List ℕ) Global) (old : Option (Vec (List ℕ) Global)) → option_map_or (λ (it : Vec (List ℕ) Global). it.items) (cond b (Some new) old) [] ≡ cond b new.items (option_map_or (λ (it : Vec (List ℕ) Global). it.items) old [])
edges_of b new old = grind arith

pub edges-updates : (old new : Edges) (w : List ℕ) (leads : Vec (List ℕ) Global) → Updates (slice_cmp nat_cmp) old new w (Some leads) → (u : List ℕ) → edges_at new u ≡ cond (same w u) leads.items (edges_at old u)
edges-updates old new w leads updates u = ap (λ o. option_map_or (λ (it : Vec (List ℕ) Global). it.items) o []) (updates.0 u) ∙ edges_of (same w u) leads (get name_cmp old u)

-- the edges after one is added: `had` led there before, `leads` does now
pub edge_added : (old : Edges) (new : List (List ℕ × Vec (List ℕ) Global)) (from to : List ℕ) (had leads : Vec (List ℕ) Global) → edges_at old from ≡ had.items → leads.items ≡ had.items ++ to ∷ [] → ((u : List ℕ) → lookup (is_at (name_cmp u)) new ≡ cond (same from u) (Some leads) (get name_cmp old u))
    → (u : List ℕ) → option_map_or (λ (it : Vec (List ℕ) Global). it.items) (lookup (is_at (name_cmp u)) new) [] ≡ cond (same from u) (edges_at old u ++ to ∷ []) (edges_at old u)
edge_added old new from to had leads was is updates u =
    ap (λ o. option_map_or (λ (it : Vec (List ℕ) Global). it.items) o []) (updates u) ∙ edges_of (same from u) leads (get name_cmp old u)
    ∙ by_bool (same from u)
    (λ t. ap (λ b. cond b leads.items (edges_at old u)) t ∙ is ∙ ap (λ l. l ++ to ∷ []) (sym was ∙ ap (edges_at old) (same_is from u t)) ∙ sym (ap (λ b. cond b (edges_at old u ++ to ∷ []) (edges_at old u)) t))
    (λ f. ap (λ b. cond b leads.items (edges_at old u)) f ∙ sym (ap (λ b. cond b (edges_at old u ++ to ∷ []) (edges_at old u)) f))

or_and : (a b c d : Bool) → ((a || (b && d)) || (c && d)) ≡ (a || ((b || c) && d))
or_and a b c d = grind arith

-- one edge more, from x
pub edge_more : (first old new : Edges) (from : List (List ℕ)) (x to : List ℕ) → ((u : List ℕ) → edges_at new u ≡ cond (same x u) (edges_at old u ++ to ∷ []) (edges_at old u)) → ((u v : List ℕ) → has_name (edges_at old u) v ≡ (has_name (edges_at first u) v || (has_name from u && same v to)))
    → (u v : List ℕ) → has_name (edges_at new u) v ≡ (has_name (edges_at first u) v || (has_name (from ++ x ∷ []) u && same v to))
edge_more first old new from x to adds had u v =
    let now : has_name (edges_at new u) v ≡ (has_name (edges_at old u) v || (same u x && same v to)) = by_bool (same x u)
    (λ t. ap (λ l. has_name l v) (adds u ∙ ap (λ b. cond b (edges_at old u ++ to ∷ []) (edges_at old u)) t) ∙ has-push (edges_at old u) to v
    ∙ sym (ap (λ b. has_name (edges_at old u) v || (b && same v to)) (same_swap u x ∙ t)))
    (λ f. ap (λ l. has_name l v) (adds u ∙ ap (λ b. cond b (edges_at old u ++ to ∷ []) (edges_at old u)) f) ∙ sym (or_false (has_name (edges_at old u) v))
    ∙ sym (ap (λ b. has_name (edges_at old u) v || (b && same v to)) (same_swap u x ∙ f))) in
    now ∙ ap (λ b. b || (same u x && same v to)) (had u v) ∙ or_and (has_name (edges_at first u) v) (has_name from u) (same u x) (same v to)
    ∙ sym (ap (λ b. has_name (edges_at first u) v || (b && same v to)) (has-push from x u))

module _ (sources : Sources) (begun : List (List ℕ)) where
  in_begun : (u : List ℕ) → has_name begun u ≡ true → has_name (reachable sources begun) u ≡ true
  in_begun u h = has-Contains u (reachable sources begun) (Contains-append_left begun (all_parts sources) u (Contains-has u begun h))

  mentioned : (w u : List ℕ) → has_name (parts_at sources w) u ≡ true → has_name (reachable sources begun) u ≡ true
  mentioned w u h = has-Contains u (reachable sources begun) (Contains-append_right begun (all_parts sources) u (mentioned_somewhere parts_in refl sources w u (Contains-has u (parts_at sources w) h)))

  pub IsExplored-begin : (names : List (List ℕ)) (forth back : Edges) (none steps : List Step) → names ≡ [] → forth.entries ≡ [] → back.entries ≡ [] → none ≡ [] → steps ≡ none ++ enters begun → IsExplored sources begun names forth back steps
  IsExplored-begin names forth back none steps no_names no_forth no_back no_steps is =
      let entering : (u : List ℕ) → awaits steps u ≡ has_name begun u = λ u. ap (λ s. awaits s u) (is ∙ ap (λ s. s ++ enters begun) no_steps) ∙ awaits-enters begun u in
      let unnamed : (u : List ℕ) → has_name names u ≡ false = λ u. ap (λ l. has_name l u) no_names in
      record {
        begins = λ u h. or_right (has_name names u) _ (entering u ∙ h);
        closed = λ u v h m. no_both (has_name names u) h (unnamed u);
        mentions = λ u h. no_both (has_name names u) h (unnamed u);
        outside = λ u h. no_edges forth no_forth u;
        reverse = λ u v. ap (λ l. has_name l u) (no_edges back no_back v) ∙ sym (ap (λ l. has_name l v) (no_edges forth no_forth u));
        bounded = λ u h. in_begun u (sym (entering u) ∙ h);
      }

  module _ (names : List (List ℕ)) (forth back : Edges) (before steps : List Step) (step : Step) (w : List ℕ) (popped : before ≡ steps ++ step ∷ []) (explored : IsExplored sources begun names forth back before) where
    at_popped : (it : Step) → step ≡ it → IsExplored sources begun names forth back (steps ++ it ∷ [])
    at_popped it is = subst (λ (x : List Step). IsExplored sources begun names forth back x) (at_step before steps step it popped is) explored

    -- a name that is left
    pub IsExplored-leave : step ≡ Leave w → IsExplored sources begun names forth back steps
    IsExplored-leave is =
        let at = at_popped (Leave w) is in
        record {
          begins = λ u h. sym (ap (λ b. has_name names u || b) (awaits-left steps w u)) ∙ at.begins u h;
          closed = λ u v h m. sym (ap (λ b. has_name names v || b) (awaits-left steps w v)) ∙ at.closed u v h m;
          mentions = at.mentions;
          outside = at.outside;
          reverse = at.reverse;
          bounded = λ u h. at.bounded u (awaits-left steps w u ∙ h);
        }

    -- a name that was entered before
    pub IsExplored-skip : step ≡ Enter w → has_name names w ≡ true → IsExplored sources begun names forth back steps
    IsExplored-skip is old =
        let at = at_popped (Enter w) is in
        let still : (u : List ℕ) → (has_name names u || awaits (steps ++ Enter w ∷ []) u) ≡ true → (has_name names u || awaits steps u) ≡ true = λ u h. grind (arith, awaits-last steps w u, same_is u w, old) in
        record {
          begins = λ u h. still u (at.begins u h);
          closed = λ u v h m. still v (at.closed u v h m);
          mentions = at.mentions;
          outside = at.outside;
          reverse = at.reverse;
          bounded = λ u h. at.bounded u (awaits-last steps w u ∙ or_left (awaits steps u) _ h);
        }

    -- a new name, with what it mentions
    module _ (is : step ≡ Enter w) (new : has_name names w ≡ false) (names' leads : List (List ℕ)) (forth' back' : Edges) (pushed steps' : List Step) (adds : (q : List ℕ) → has_name names' q ≡ (has_name names q || same q w)) (known : leads ≡ parts_at sources w) (pushes : pushed ≡ steps ++ Leave w ∷ []) (enter : steps' ≡ pushed ++ enters leads) where
      opened : steps' ≡ steps ++ Leave w ∷ enters (parts_at sources w)
      opened = enter ∙ ap (λ s. s ++ enters leads) pushes ∙ append_assoc steps (Leave w ∷ []) (enters leads) ∙ ap (λ n. steps ++ Leave w ∷ enters n) known

      awaits-opened : (u : List ℕ) → awaits steps' u ≡ (awaits steps u || has_name (parts_at sources w) u)
      awaits-opened u = ap (λ s. awaits s u) opened ∙ awaits-append steps (Leave w ∷ enters (parts_at sources w)) u ∙ ap (λ b. awaits steps u || b) (awaits-enters (parts_at sources w) u)

      grows : (u : List ℕ) → has_name names u ≡ true → has_name names' u ≡ true
      grows u h = adds u ∙ or_left (has_name names u) _ h

      onward : (u : List ℕ) → (has_name names u || awaits (steps ++ Enter w ∷ []) u) ≡ true → (has_name names' u || awaits steps' u) ≡ true
      onward u h = grind (arith, awaits-last steps w u, awaits-opened u, adds u)

      pub explored_falls : fuel sources begun names' steps' < fuel sources begun names before
      explored_falls =
          let there = (at_popped (Enter w) is).bounded w (awaits-last steps w w ∙ or_right (awaits steps w) _ (same_self w)) in
          fuel_opens sources begun names names' before steps steps' w (at_step before steps step (Enter w) popped is) there new adds opened

      module _ (inserts : (u : List ℕ) → edges_at forth' u ≡ cond (same w u) leads (edges_at forth u)) (turns : (u v : List ℕ) → has_name (edges_at back' u) v ≡ (has_name (edges_at back u) v || (has_name leads u && same v w))) where
        here : (u : List ℕ) → same u w ≡ true → edges_at forth' u ≡ parts_at sources w
        here u s = inserts u ∙ ap (λ b. cond b leads (edges_at forth u)) (same_swap w u ∙ s) ∙ known

        elsewhere : (u : List ℕ) → same u w ≡ false → edges_at forth' u ≡ edges_at forth u
        elsewhere u f = inserts u ∙ ap (λ b. cond b leads (edges_at forth u)) (same_swap w u ∙ f)

        turned : IsReverse forth' back'
        turned u v = by_bool (same u w)
            (λ s.
            let unnamed : has_name names u ≡ false = ap (has_name names) (same_is u w s) ∙ new in
            let bare : has_name (edges_at back v) u ≡ false = explored.reverse u v ∙ ap (λ l. has_name l v) (explored.outside u unnamed) in
            turns v u ∙ (λ i. bare i || (has_name (known i) v && s i)) ∙ and_true (has_name (parts_at sources w) v) ∙ sym (ap (λ l. has_name l v) (here u s)))
            (λ f.
            turns v u ∙ ap (λ b. has_name (edges_at back v) u || (has_name leads v && b)) f ∙ ap (λ b. has_name (edges_at back v) u || b) (and_false (has_name leads v))
            ∙ or_false (has_name (edges_at back v) u) ∙ explored.reverse u v ∙ sym (ap (λ l. has_name l v) (elsewhere u f)))

        pub IsExplored-enter : IsExplored sources begun names' forth' back' steps'
        IsExplored-enter =
            let at = at_popped (Enter w) is in
            record {
              begins = λ u h. onward u (at.begins u h);
              closed = λ u v h m. or_cases (has_name names u) (same u w) (sym (adds u) ∙ h)
                  (λ t. onward v (at.closed u v t m))
                  (λ s. or_right (has_name names' v) _ (awaits-opened v ∙ or_right (awaits steps v) _ (sym (ap (λ n. has_name (parts_at sources n) v) (same_is u w s)) ∙ m)));
              mentions = λ u h. by_bool (same u w)
                  (λ s. here u s ∙ sym (ap (parts_at sources) (same_is u w s)))
                  (λ f. elsewhere u f ∙ at.mentions u (or_cases (has_name names u) (same u w) (sym (adds u) ∙ h) (λ t. t) (λ s. no_both (same u w) s f)));
              outside = λ u h.
                  let apart : (has_name names u || same u w) ≡ false = sym (adds u) ∙ h in
                  elsewhere u (or_none_right (has_name names u) (same u w) apart) ∙ at.outside u (or_none_left (has_name names u) (same u w) apart);
              reverse = turned;
              bounded = λ u h. or_cases (awaits steps u) (has_name (parts_at sources w) u) (sym (awaits-opened u) ∙ h)
                  (λ t. at.bounded u (awaits-last steps w u ∙ or_left (awaits steps u) _ t))
                  (mentioned w u);
            }
