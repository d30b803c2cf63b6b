-- The steps that are left: what a search keeps of them.
use Rattle.std.proofs.{Common.{◌≡◌, ℕ, Bool, true, false, ◌||◌, List, [], ◌∷◌, ◌++◌, refl, sym, ap, subst, ◌∙◌, arith}, lemmas.Bool.{or_left, or_right}}
use Rattle.std.specs.List.{Contains}
use Rattle.fb_tree.proofs.Text.Tests.{or_cases, or_assoc, or_false}
use Rattle.fb_iface.proofs.{Library.SeenLemmas.{same, same_is, same_self}, Library.WalkLemmas.{Contains-has, has-Contains, has-push}}
use Rattle.fb_iface.specs.{Library.View.{Sources, parts_at}, Library.Seen.{has_name}}
use Rattle.fb_types.specs.{Reaches.{Reaches, directly, onward}, Steps.{enters}, declared.search.Step.{Step}, declared.search.Step.TheVariants.{Enter, Leave}}
use Rattle.fb_types.proofs.NameLemmas.{or_none, or_none_left, or_none_right, or_under, same_swap}

-- ---- reaching
pub reaches_more : {sources : Sources} {u v w : List ℕ} → Reaches sources u v → Contains (parts_at sources v) w → Reaches sources u w
reaches_more (directly m) n = onward m (directly n)
reaches_more (onward m r) n = onward m (reaches_more r n)

-- ---- names of steps
abbrev pub has_step : List Step → List ℕ → Bool
has_step [] q = false
has_step (Enter w ∷ rest) q = same q w || has_step rest q
has_step (Leave v ∷ rest) q = same q v || has_step rest q

-- a name on the path is entered and not left
abbrev pub on_path : List Step → List ℕ → Bool
on_path [] q = false
on_path (Enter w ∷ rest) q = on_path rest q
on_path (Leave v ∷ rest) q = same q v || on_path rest q

pub has_step-append : (xs ys : List Step) (q : List ℕ) → has_step (xs ++ ys) q ≡ (has_step xs q || has_step ys q)
has_step-append [] ys q = refl
has_step-append (Enter w ∷ xs) ys q = ap (λ b. same q w || b) (has_step-append xs ys q) ∙ or_assoc (same q w) (has_step xs q) (has_step ys q)
has_step-append (Leave w ∷ xs) ys q = ap (λ b. same q w || b) (has_step-append xs ys q) ∙ or_assoc (same q w) (has_step xs q) (has_step ys q)

pub on_path-append : (xs ys : List Step) (q : List ℕ) → on_path (xs ++ ys) q ≡ (on_path xs q || on_path ys q)
on_path-append [] ys q = refl
on_path-append (Enter w ∷ xs) ys q = on_path-append xs ys q
on_path-append (Leave w ∷ xs) ys q = ap (λ b. same q w || b) (on_path-append xs ys q) ∙ or_assoc (same q w) (on_path xs q) (on_path ys q)

pub has_step-enters : (names : List (List ℕ)) (q : List ℕ) → has_step (enters names) q ≡ has_name names q
has_step-enters [] q = refl
has_step-enters (w ∷ names) q = ap (λ b. same q w || b) (has_step-enters names q)

pub on_path-enters : (names : List (List ℕ)) (q : List ℕ) → on_path (enters names) q ≡ false
on_path-enters [] q = refl
on_path-enters (w ∷ names) q = on_path-enters names q

-- ---- what stands
module _ (sources : Sources) where
  -- each of these names reaches v
  abbrev pub AllReach : List (List ℕ) → List ℕ → Type 0
  AllReach path v = (u : List ℕ) → has_name path u ≡ true → Reaches sources u v

  -- a name that is entered and not left: all that it mentions is listed, or stands above it
  pub record IsOpen (order path : List (List ℕ)) (v : List ℕ) (above : List Step) : Type 0 where
    pub reached : AllReach path v
    pub unlisted : has_name order v ≡ false
    pub once : on_path above v ≡ false
    pub covered : (w : List ℕ) → Contains (parts_at sources v) w → (has_name order w || has_step above w) ≡ true

  -- each name on the path reaches what stands above it
  abbrev pub Stands : List (List ℕ) → List (List ℕ) → List Step → Type 0
  Stands order path [] = Unit {0}
  Stands order path (Enter w ∷ rest) = AllReach path w × Stands order path rest
  Stands order path (Leave v ∷ rest) = IsOpen order path v rest × Stands order (v ∷ path) rest

  pub enters_stand : (order path names : List (List ℕ)) → ((w : List ℕ) → has_name names w ≡ true → AllReach path w) → Stands order path (enters names)
  enters_stand order path [] reach = tt
  enters_stand order path (w ∷ names) reach =
      (reach w (or_left (same w w) (has_name names w) (same_self w)), enters_stand order path names (λ q h. reach q (or_right (same q w) (has_name names q) h)))

  -- a listed name need not be entered
  pub skips : (order path : List (List ℕ)) (steps : List Step) (w : List ℕ) → has_name order w ≡ true → Stands order path (steps ++ Enter w ∷ []) → Stands order path steps
  skips order path [] w listed h = tt
  skips order path (Enter u ∷ steps) w listed h = (h.0, skips order path steps w listed h.1)
  skips order path (Leave u ∷ steps) w listed h = (
    record {
      reached = h.0.reached;
      unlisted = h.0.unlisted;
      once = let was = h.0.once in grind (arith, on_path-append steps (Enter w ∷ []) u);
      covered = λ q m. let was = h.0.covered q m in grind (arith, has_step-append steps (Enter w ∷ []) q, same_is q w, listed);
    },
    skips order (u ∷ path) steps w listed h.1,
  )

  -- a name is entered, and what it mentions stands above it
  pub opens : (order path : List (List ℕ)) (steps : List Step) (w : List ℕ) → has_name order w ≡ false → on_path steps w ≡ false → Stands order path (steps ++ Enter w ∷ []) → Stands order path (steps ++ Leave w ∷ enters (parts_at sources w))
  opens order path [] w unlisted off h = (
    record {
      reached = h.0;
      unlisted = unlisted;
      once = on_path-enters (parts_at sources w) w;
      covered = λ q m. or_right (has_name order q) _ (has_step-enters (parts_at sources w) q ∙ has-Contains q (parts_at sources w) m);
    },
    enters_stand order (w ∷ path) (parts_at sources w) (λ q there u on.
        let mentioned : Contains (parts_at sources w) q = Contains-has q (parts_at sources w) there in
        or_cases (same u w) (has_name path u) on
        (λ s. subst (λ n. Reaches sources n q) (sym (same_is u w s)) (directly mentioned))
        (λ p. reaches_more (h.0 u p) mentioned)),
  )
  opens order path (Enter u ∷ steps) w unlisted off h = (h.0, opens order path steps w unlisted off h.1)
  opens order path (Leave u ∷ steps) w unlisted off h =
      let other : same u w ≡ false = same_swap u w ∙ or_none_left (same w u) (on_path steps w) off in (
        record {
          reached = h.0.reached;
          unlisted = h.0.unlisted;
          once = let was = h.0.once in grind (arith, other, on_path-append steps (Leave w ∷ enters (parts_at sources w)) u, on_path-append steps (Enter w ∷ []) u, on_path-enters (parts_at sources w) u);
          covered = λ q m. let was = h.0.covered q m in grind (arith, has_step-append steps (Leave w ∷ enters (parts_at sources w)) q, has_step-append steps (Enter w ∷ []) q);
        },
        opens order (u ∷ path) steps w unlisted (or_none_right (same w u) (on_path steps w) off) h.1,
      )

  -- a name is left and listed
  pub leaves : (order path : List (List ℕ)) (steps : List Step) (v : List ℕ) → Stands order path (steps ++ Leave v ∷ []) → Stands (order ++ v ∷ []) path steps
  leaves order path [] v h = tt
  leaves order path (Enter u ∷ steps) v h = (h.0, leaves order path steps v h.1)
  leaves order path (Leave u ∷ steps) v h =
      let apart : (on_path steps u || (same u v || false)) ≡ false = sym (on_path-append steps (Leave v ∷ []) u) ∙ h.0.once in
      let other : same u v ≡ false = or_none_left (same u v) false (or_none_right (on_path steps u) (same u v || false) apart) in (
        record {
          reached = h.0.reached;
          unlisted = has-push order v u ∙ or_none (has_name order u) (same u v) h.0.unlisted other;
          once = or_none_left (on_path steps u) (same u v || false) apart;
          covered = λ q m. let was = h.0.covered q m in grind (arith, has_step-append steps (Leave v ∷ []) q, has-push order v q);
        },
        leaves order (u ∷ path) steps v h.1,
      )

  -- a name that is left is not listed yet, and all that it mentions is
  pub unlisted_last : (order path : List (List ℕ)) (steps : List Step) (v : List ℕ) → Stands order path (steps ++ Leave v ∷ []) → has_name order v ≡ false
  unlisted_last order path [] v h = h.0.unlisted
  unlisted_last order path (Enter u ∷ steps) v h = unlisted_last order path steps v h.1
  unlisted_last order path (Leave u ∷ steps) v h = unlisted_last order (u ∷ path) steps v h.1

  pub ready_last : (order path : List (List ℕ)) (steps : List Step) (v : List ℕ) → Stands order path (steps ++ Leave v ∷ []) → (w : List ℕ) → Contains (parts_at sources v) w → has_name order w ≡ true
  ready_last order path [] v h w m = sym (or_false (has_name order w)) ∙ h.0.covered w m
  ready_last order path (Enter u ∷ steps) v h w m = ready_last order path steps v h.1 w m
  ready_last order path (Leave u ∷ steps) v h w m = ready_last order (u ∷ path) steps v h.1 w m

  -- a name that is to be entered again while it is on the path reaches itself
  pub meets : (order path : List (List ℕ)) (steps : List Step) (v : List ℕ) → Stands order path (steps ++ Enter v ∷ []) → (has_name path v || on_path steps v) ≡ true → Reaches sources v v
  meets order path [] v h on = h.0 v (sym (or_false (has_name path v)) ∙ on)
  meets order path (Enter u ∷ steps) v h on = meets order path steps v h.1 on
  meets order path (Leave u ∷ steps) v h on = meets order (u ∷ path) steps v h.1 (sym (or_under (has_name path v) (same v u) (on_path steps v)) ∙ on)
