-- The search: what it keeps, and that it ends.
use Rattle.std.proofs.Common.{◌≡◌, ℕ, ◌+◌, ◌<◌, ◌≤◌, true, false, cond, ◌||◌, List, [], ◌∷◌, ◌++◌, length, refl, sym, ap, subst, ◌∙◌, arith, length-append, append_assoc}
use Rattle.std.proofs.lemmas.List.Elements.{Contains-append_left, Contains-append_right}
use Rattle.std.proofs.{lemmas.Bool.{false≢true, or_left, or_right}, lemmas.List.{map_push, length-map}}
use Rattle.std.specs.List.{Contains}
use Rattle.fb_tree.proofs.Text.Tests.{or_cases, or_false}
use Rattle.fb_iface.proofs.{Library.SeenLemmas.{same, same_is, same_self}, Library.WalkLemmas.{Contains-has, has-Contains, has-push, mentioned_somewhere}}
use Rattle.fb_iface.proofs.Library.Locality.{parts_more}
use Rattle.fb_iface.specs.{Library.View.{Sources, parts_at, parts_in}, Library.Rests.{PartRests, on_itself, through_part}, Library.Seen.{has_name}}
use Rattle.fb_iface.specs.Library.Near.{in_all_trees}
use Rattle.fb_types.specs.{Order.{IsOrdered}, Reaches.{SomePartRests, SomePartRestsOnRecursive}, Steps.{enters}, declared.search.Step.{Step}}
use Rattle.fb_types.specs.declared.search.Step.TheVariants.{Enter, Leave}
use Rattle.fb_types.proofs.{NameLemmas.{or_none_right}, OrderLemmas.{IsOrdered-none, IsOrdered-push, all_listed, not_recursive}}
use Rattle.fb_types.proofs.StackLemmas.{has_step, on_path, has_step-append, on_path-append, has_step-enters, on_path-enters, Stands, enters_stand, skips, opens, leaves, unlisted_last, ready_last, meets}

-- ---- the steps of a list of names
pub enters_more : (before steps : List Step) (names : List (List ℕ)) (x : List ℕ) → steps ≡ before ++ enters names → steps ++ Enter x ∷ [] ≡ before ++ enters (names ++ x ∷ [])
enters_more before steps names x is =
    ap (λ s. s ++ Enter x ∷ []) is ∙ append_assoc before (enters names) (Enter x ∷ []) ∙ ap (λ s. before ++ s) (sym (map_push (λ (n : List ℕ). Enter n) names x))

-- ---- names of steps
kept : (steps more : List Step) (q : List ℕ) → has_step steps q ≡ true → has_step (steps ++ more) q ≡ true
kept steps more q h = has_step-append steps more q ∙ or_left (has_step steps q) _ h

there_last : (steps : List Step) (w : List ℕ) → has_step (steps ++ Enter w ∷ []) w ≡ true
there_last steps w = has_step-append steps (Enter w ∷ []) w ∙ or_right (has_step steps w) _ (or_left (same w w) false (same_self w))

path_without : (steps : List Step) (w q : List ℕ) → on_path (steps ++ Enter w ∷ []) q ≡ on_path steps q
path_without steps w q = on_path-append steps (Enter w ∷ []) q ∙ or_false (on_path steps q)

path_with : (steps : List Step) (v : List ℕ) (names : List (List ℕ)) (q : List ℕ) → on_path (steps ++ Leave v ∷ enters names) q ≡ (on_path steps q || same q v)
path_with steps v names q =
    on_path-append steps (Leave v ∷ enters names) q ∙ ap (λ b. on_path steps q || (same q v || b)) (on_path-enters names q) ∙ ap (λ b. on_path steps q || b) (or_false (same q v))

-- ---- what the search keeps
pub record IsSearch (sources : Sources) (names entered left order : List (List ℕ)) (steps : List Step) : Type 0 where
  pub ordered : IsOrdered sources order
  pub stands : Stands sources order [] steps
  pub marked : (q : List ℕ) → has_name entered q ≡ (has_name order q || on_path steps q)
  pub same_left : (q : List ℕ) → has_name left q ≡ has_name order q
  pub begun : (q : List ℕ) → has_name names q ≡ true → (has_name order q || has_step steps q) ≡ true
  pub sound : (q : List ℕ) → (has_name order q || has_step steps q) ≡ true → SomePartRests sources names q

module _ (sources : Sources) (names : List (List ℕ)) where
  none_yet : IsSearch sources names [] [] [] (enters names)
  none_yet = record {
    ordered = IsOrdered-none sources;
    stands = enters_stand sources [] [] names (λ w there u on. absurd (false≢true on));
    marked = λ q. sym (on_path-enters names q);
    same_left = λ q. refl;
    begun = λ q h. has_step-enters names q ∙ h;
    sound = λ q h. (q, (Contains-has q names (sym (has_step-enters names q) ∙ h), on_itself));
  }

  pub IsSearch-begin : (entered left order : List (List ℕ)) (before steps : List Step) → entered ≡ [] → left ≡ [] → order ≡ [] → before ≡ [] → steps ≡ before ++ enters names → IsSearch sources names entered left order steps
  IsSearch-begin entered left order before steps no_entered no_left no_order no_steps is =
      subst (λ (x : List (List ℕ)). IsSearch sources names x left order steps) (sym no_entered)
      (subst (λ (x : List (List ℕ)). IsSearch sources names [] x order steps) (sym no_left)
      (subst (λ (x : List (List ℕ)). IsSearch sources names [] [] x steps) (sym no_order)
      (subst (λ (x : List Step). IsSearch sources names [] [] [] x) (sym (is ∙ ap (λ s. s ++ enters names) no_steps)) none_yet)))

  module _ (entered left order : List (List ℕ)) (steps : List Step) where
    -- a name that is listed is passed over
    pub IsSearch-skip : (w : List ℕ) → IsSearch sources names entered left order (steps ++ Enter w ∷ []) → has_name left w ≡ true → IsSearch sources names entered left order steps
    IsSearch-skip w s old =
        let listed : has_name order w ≡ true = sym (s.same_left w) ∙ old in
        record {
          ordered = s.ordered;
          stands = skips sources order [] steps w listed s.stands;
          marked = λ q. s.marked q ∙ ap (λ b. has_name order q || b) (path_without steps w q);
          same_left = s.same_left;
          begun = λ q h. let was = s.begun q h in grind (arith, has_step-append steps (Enter w ∷ []) q, same_is q w, listed);
          sound = λ q h. s.sound q (grind (arith, has_step-append steps (Enter w ∷ []) q));
        }

    -- a new name is entered
    pub IsSearch-enter : (entered' : List (List ℕ)) (w : List ℕ) → IsSearch sources names entered left order (steps ++ Enter w ∷ []) → has_name left w ≡ false → has_name entered w ≡ false
        → ((q : List ℕ) → has_name entered' q ≡ (has_name entered q || same q w)) → IsSearch sources names entered' left order (steps ++ Leave w ∷ enters (parts_at sources w))
    IsSearch-enter entered' w s unleft new adds =
        let unlisted : has_name order w ≡ false = sym (s.same_left w) ∙ unleft in
        let off : on_path steps w ≡ false = sym (path_without steps w w) ∙ or_none_right (has_name order w) _ (sym (s.marked w) ∙ new) in
        let rests : SomePartRests sources names w = s.sound w (or_right (has_name order w) _ (there_last steps w)) in
        record {
          ordered = s.ordered;
          stands = opens sources order [] steps w unlisted off s.stands;
          marked = λ q. grind (arith, adds q, s.marked q, path_without steps w q, path_with steps w (parts_at sources w) q);
          same_left = s.same_left;
          begun = λ q h. let was = s.begun q h in grind (arith, has_step-append steps (Enter w ∷ []) q, has_step-append steps (Leave w ∷ enters (parts_at sources w)) q);
          sound = λ q h. or_cases (has_name order q) (has_step (steps ++ Leave w ∷ enters (parts_at sources w)) q) h
              (λ l. s.sound q (or_left (has_name order q) _ l))
              (λ a. or_cases (has_step steps q) (same q w || has_step (enters (parts_at sources w)) q) (sym (has_step-append steps (Leave w ∷ enters (parts_at sources w)) q) ∙ a)
              (λ b. s.sound q (or_right (has_name order q) _ (kept steps (Enter w ∷ []) q b)))
              (λ b. or_cases (same q w) (has_step (enters (parts_at sources w)) q) b
              (λ is. subst (λ (n : List ℕ). SomePartRests sources names n) (sym (same_is q w is)) rests)
              (λ m. (rests.0, (rests.1.0, parts_more rests.1.1 (Contains-has q (parts_at sources w) (sym (has_step-enters (parts_at sources w) q) ∙ m)))))));
        }

    -- a name is left and listed
    pub IsSearch-leave : (left' : List (List ℕ)) (v : List ℕ) → IsSearch sources names entered left order (steps ++ Leave v ∷ []) → ((q : List ℕ) → has_name left' q ≡ (has_name left q || same q v)) → IsSearch sources names entered left' (order ++ v ∷ []) steps
    IsSearch-leave left' v s adds = record {
      ordered = IsOrdered-push sources order v s.ordered (unlisted_last sources order [] steps v s.stands) (ready_last sources order [] steps v s.stands);
      stands = leaves sources order [] steps v s.stands;
      marked = λ q. grind (arith, s.marked q, path_with steps v [] q, has-push order v q);
      same_left = λ q. adds q ∙ ap (λ b. b || same q v) (s.same_left q) ∙ sym (has-push order v q);
      begun = λ q h. let was = s.begun q h in grind (arith, has_step-append steps (Leave v ∷ []) q, has-push order v q);
      sound = λ q h. s.sound q (grind (arith, has_step-append steps (Leave v ∷ []) q, has-push order v q));
    }

    -- a name that is entered again before it was left reaches itself
    pub found_again : (w : List ℕ) → IsSearch sources names entered left order (steps ++ Enter w ∷ []) → has_name left w ≡ false → has_name entered w ≡ true → SomePartRestsOnRecursive sources names
    found_again w s unleft old =
        let rests : SomePartRests sources names w = s.sound w (or_right (has_name order w) _ (there_last steps w)) in
        let on : on_path steps w ≡ true = grind (arith, s.marked w, s.same_left w, path_without steps w w) in
        (w, (rests, meets sources order [] steps w s.stands on))

  -- ---- at the end
  pub whole_at_end : (entered left order : List (List ℕ)) → IsSearch sources names entered left order [] → (v : List ℕ) → (Contains order v → SomePartRests sources names v) × (SomePartRests sources names v → Contains order v)
  whole_at_end entered left order s v = (
    λ there. s.sound v (or_left (has_name order v) _ (has-Contains v order there)),
    λ r.
        let begun : has_name order r.0 ≡ true = sym (or_false (has_name order r.0)) ∙ s.begun r.0 (has-Contains r.0 names r.1.0) in
        all_listed sources order s.ordered r.1.1 (Contains-has r.0 order begun),
  )

  pub none_at_end : (entered left order : List (List ℕ)) → IsSearch sources names entered left order [] → ¬ SomePartRestsOnRecursive sources names
  none_at_end entered left order s r = not_recursive sources order s.ordered r.0 ((whole_at_end entered left order s r.0).1 r.1.0) r.1.1

-- ---- that it ends
-- what entering a name can still cost
abbrev weight : Sources → List ℕ → ℕ
weight sources x = length (parts_at sources x) + 2

pub cost : Sources → List (List ℕ) → List (List ℕ) → ℕ
cost sources entered [] = 0
cost sources entered (x ∷ xs) = cond (has_name entered x) 0 (weight sources x) + cost sources entered xs

module _ (sources : Sources) (entered entered' : List (List ℕ)) (grows : (q : List ℕ) → has_name entered q ≡ true → has_name entered' q ≡ true) where
  cost_falls : (all : List (List ℕ)) → cost sources entered' all ≤ cost sources entered all
  unfolding cost
  cost_falls [] = omega arith
  cost_falls (y ∷ all) = grind (arith, cost_falls all, grows y)

  cost_less : (x : List ℕ) → has_name entered x ≡ false → has_name entered' x ≡ true → (all : List (List ℕ)) → has_name all x ≡ true → cost sources entered' all + weight sources x ≤ cost sources entered all
  unfolding cost
  cost_less x new now [] there = absurd (false≢true there)
  cost_less x new now (y ∷ all) there = grind (arith, cost_less x new now all, cost_falls all, same_is x y, grows y)

-- ---- the names that can be entered
abbrev pub all_parts : Sources → List (List ℕ)
all_parts sources = in_all_trees parts_in sources

abbrev pub reachable : Sources → List (List ℕ) → List (List ℕ)
reachable sources names = names ++ all_parts sources

rests_within : (sources : Sources) (names : List (List ℕ)) {u v : List ℕ} → PartRests sources u v → Contains (reachable sources names) u → Contains (reachable sources names) v
rests_within sources names on_itself there = there
rests_within sources names {u} (through_part {w = w} m r) there =
    rests_within sources names r (Contains-append_right names (all_parts sources) w (mentioned_somewhere parts_in refl sources u w m))

module _ (sources : Sources) (names : List (List ℕ)) where
  within : (v : List ℕ) → SomePartRests sources names v → has_name (reachable sources names) v ≡ true
  within v r = has-Contains v (reachable sources names) (rests_within sources names r.1.1 (Contains-append_left names (all_parts sources) r.0 r.1.0))

  pub fuel : List (List ℕ) → List Step → ℕ
  fuel entered steps = cost sources entered (reachable sources names) + length steps

  pub fuel_pop : (entered : List (List ℕ)) (before steps : List Step) (step : Step) → before ≡ steps ++ step ∷ [] → fuel entered steps < fuel entered before
  unfolding fuel
  fuel_pop entered before steps step is =
      let long = ap length is in
      let more = length-append steps (step ∷ []) in
      omega (arith, long, more)

  -- a new name is entered
  pub fuel_opens : (entered entered' : List (List ℕ)) (before steps steps' : List Step) (w : List ℕ) → before ≡ steps ++ Enter w ∷ [] → has_name (reachable sources names) w ≡ true → has_name entered w ≡ false
      → ((q : List ℕ) → has_name entered' q ≡ (has_name entered q || same q w)) → steps' ≡ steps ++ Leave w ∷ enters (parts_at sources w) → fuel entered' steps' < fuel entered before
  unfolding fuel
  fuel_opens entered entered' before steps steps' w is there new adds opened =
      let less = cost_less sources entered entered' (λ q h. adds q ∙ or_left (has_name entered q) _ h) w new (adds w ∙ or_right (has_name entered w) _ (same_self w)) (reachable sources names) there in
      let long = ap length is ∙ length-append steps (Enter w ∷ []) in
      let long' = ap length opened ∙ length-append steps (Leave w ∷ enters (parts_at sources w)) in
      let mentioned = length-map (parts_at sources w) (λ (n : List ℕ). Enter n) in
      omega (arith, less, long, long', mentioned)

  pub fuel_enter : (entered left order entered' : List (List ℕ)) (before steps steps' : List Step) (w : List ℕ) → before ≡ steps ++ Enter w ∷ [] → IsSearch sources names entered left order before → has_name entered w ≡ false
      → ((q : List ℕ) → has_name entered' q ≡ (has_name entered q || same q w)) → steps' ≡ steps ++ Leave w ∷ enters (parts_at sources w) → fuel entered' steps' < fuel entered before
  fuel_enter entered left order entered' before steps steps' w is s new adds opened =
      let at : IsSearch sources names entered left order (steps ++ Enter w ∷ []) = subst (λ (x : List Step). IsSearch sources names entered left order x) is s in
      fuel_opens entered entered' before steps steps' w is (within w (at.sound w (or_right (has_name order w) _ (there_last steps w)))) new adds opened

-- ---- for the answers: a step that was popped
pub at_step : (before steps : List Step) (step it : Step) → before ≡ steps ++ step ∷ [] → step ≡ it → before ≡ steps ++ it ∷ []
at_step before steps step it is same_step = is ∙ ap (λ s. steps ++ s ∷ []) same_step

module _ (sources : Sources) (names entered left order : List (List ℕ)) (before steps : List Step) (step : Step) (w : List ℕ) (popped : before ≡ steps ++ step ∷ []) (search : IsSearch sources names entered left order before) where
  at_popped : (it : Step) → step ≡ it → IsSearch sources names entered left order (steps ++ it ∷ [])
  at_popped it is = subst (λ (x : List Step). IsSearch sources names entered left order x) (at_step before steps step it popped is) search

  pub skipped : step ≡ Enter w → has_name left w ≡ true → IsSearch sources names entered left order steps
  skipped is old = IsSearch-skip sources names entered left order steps w (at_popped (Enter w) is) old

  pub left_last : step ≡ Leave w → (left' : List (List ℕ)) → ((q : List ℕ) → has_name left' q ≡ (has_name left q || same q w)) → IsSearch sources names entered left' (order ++ w ∷ []) steps
  left_last is left' adds = IsSearch-leave sources names entered left order steps left' w (at_popped (Leave w) is) adds

  pub found_loop : step ≡ Enter w → has_name left w ≡ false → has_name entered w ≡ true → SomePartRestsOnRecursive sources names
  found_loop is unleft old = found_again sources names entered left order steps w (at_popped (Enter w) is) unleft old

  -- a name is entered, its leaving is pushed, and then what it mentions
  module _ (is : step ≡ Enter w) (unleft : has_name left w ≡ false) (new : has_name entered w ≡ false) (entered' mentioned : List (List ℕ)) (adds : (q : List ℕ) → has_name entered' q ≡ (has_name entered q || same q w)) (known : mentioned ≡ parts_at sources w) (pushed steps' : List Step) (pushes : pushed ≡ steps ++ Leave w ∷ []) (more : steps' ≡ pushed ++ enters mentioned) where
    pub opened : steps' ≡ steps ++ Leave w ∷ enters (parts_at sources w)
    opened = more ∙ ap (λ s. s ++ enters mentioned) pushes ∙ append_assoc steps (Leave w ∷ []) (enters mentioned) ∙ ap (λ n. steps ++ Leave w ∷ enters n) known

    pub entered_next : IsSearch sources names entered' left order steps'
    entered_next = subst (λ (x : List Step). IsSearch sources names entered' left order x) (sym opened) (IsSearch-enter sources names entered left order steps entered' w (at_popped (Enter w) is) unleft new adds)

    pub entered_falls : fuel sources names entered' steps' < fuel sources names entered before
    entered_falls = fuel_enter sources names entered left order entered' before steps steps' w (at_step before steps step (Enter w) popped is) search new adds opened
