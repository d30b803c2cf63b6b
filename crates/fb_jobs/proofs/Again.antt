-- What a key needs is the same where each name that was read for it mentions what it mentioned.
use Rattle.std.proofs.{Common.{◌≡◌, ℕ, ◌<◌, ◌++◌, [], ◌∷◌, List, length, get_or, sym, ap, subst, ◌∙◌, arith, Option, None}, lemmas.List.{get_or-map}}
use Rattle.std.proofs.lemmas.List.Elements.{AllZip-get_or}
use Rattle.std.specs.{List.{AllZip, Contains}, Option.{option_and_then}}
use Rattle.fb_tree.specs.Mentions.{Mentioned}
use Rattle.fb_text.specs.Order.{names_in_order}
use Rattle.fb_deploy.specs.{Library.Near.{Carries, directly, onward, bases_at, carried_of, near_of}, Library.Rests.{Rests, itself, through}}
use Rattle.fb_deploy.specs.Library.Texts.{Texts, held, sources_of}
use Rattle.fb_deploy.specs.{Library.View.{Sources, is_structure_at, mentioned_at, mentions_at, mentions_of_tree, tree_of, values_at}, Flatten.Far.{far_of}}
use Rattle.fb_deploy.proofs.{Library.CarriedLemmas.{carried_is_all}, Library.FarLemmas.{one_in_order, one_list}}
use Rattle.fb_deploy.proofs.{Library.Locality.{near_base, near_carried, near_unit, rests_more}, Flatten.FarNames.{far_is_all}}
use Rattle.fb_jobs.specs.{declared.keys.key.Kind.{Kind}, declared.keys.key.Key.{Key}, Keys.{needs, needs_of}, Reuse.{MentionsTheSame, seen_text}}
use Rattle.fb_jobs.specs.Reads.{IsRight, Seen, read_names, read_texts, reads_under}
use Rattle.fb_jobs.specs.declared.keys.key.Kind.TheVariants as kind
use Rattle.fb_jobs.proofs.{ReuseLemmas.{count_names, under}, Sources.{get_source}}

-- both mention the same under a name
abbrev Same : Sources → Sources → List ℕ → Type 0
Same a b v = mentioned_at a v ≡ mentioned_at b v

same_mentions : (a b : Sources) (v : List ℕ) → Same a b v → mentions_at a v ≡ mentions_at b v
same_mentions a b v same = ap (λ (m : Mentioned). m.parts ++ m.of_values) same

same_values : (a b : Sources) (v : List ℕ) → Same a b v → values_at a v ≡ values_at b v
same_values a b v same = ap (λ (m : Mentioned). m.of_values) same

same_structure : (a b : Sources) (v : List ℕ) → Same a b v → is_structure_at a v ≡ is_structure_at b v
same_structure a b v same = ap (λ (m : Mentioned). m.is_structure) same

-- ---- what a unit rests on

module _ (a b : Sources) (unit : List ℕ) (same : (v : List ℕ) → Contains (far_of a unit) v → Same a b v) where
  known : (v : List ℕ) → Rests a unit v → mentions_at a v ≡ mentions_at b v
  known v r = same_mentions a b v (same v (((far_is_all a unit).1 v).1 r))

  rests_from : {u v : List ℕ} → Rests a unit u → Rests a u v → Rests b u v
  rests_from r itself = itself
  rests_from {u} r (through {w = w} m s) = through (subst (λ l. Contains l w) (known u r) m) (rests_from (rests_more r m) s)

  rests_to : {u v : List ℕ} → Rests a unit u → Rests b u v → Rests a u v
  rests_to r itself = itself
  rests_to {u} r (through {w = w} m s) =
      let there : Contains (mentions_at a u) w = subst (λ l. Contains l w) (sym (known u r)) m in
      through there (rests_to (rests_more r there) s)

  same_far : far_of a unit ≡ far_of b unit
  same_far =
      one_list b unit (far_of a unit) (far_of b unit) (
        (far_is_all a unit).0,
        λ v. (
          λ c. rests_from itself (((far_is_all a unit).1 v).0 c),
          λ r. ((far_is_all a unit).1 v).1 (rests_to itself r),
        ),
      ) (far_is_all b unit)

-- ---- what is near a unit

module _ (a b : Sources) (units : List (List ℕ)) (same : (v : List ℕ) → Contains units v → Same a b v) (further : (v : List ℕ) → Contains (carried_of a units) v → Same a b v) where
  carried_known : {u v : List ℕ} → Contains units u → Carries a u v → Same a b v
  carried_known {u} {v} c r = further v (((carried_is_all a units).1 v).1 (u, c, r))

  carried_there : {u v : List ℕ} → Contains units u → Carries a u v → Carries b u v
  carried_there {u} {v} c (directly m) = directly (subst (λ l. Contains l v) (same_values a b u (same u c)) m)
  carried_there {u} {v} c (onward {w = w} r s m) =
      let here = carried_known c r in
      onward (carried_there c r) (sym (same_structure a b w here) ∙ s) (subst (λ l. Contains l v) (same_values a b w here) m)

  carried_back : {u v : List ℕ} → Contains units u → Carries b u v → Carries a u v
  carried_back {u} {v} c (directly m) = directly (subst (λ l. Contains l v) (sym (same_values a b u (same u c))) m)
  carried_back {u} {v} c (onward {w = w} r s m) =
      let before = carried_back c r in
      let here = carried_known c before in
      onward before (same_structure a b w here ∙ s) (subst (λ l. Contains l v) (sym (same_values a b w here)) m)

  same_carried : carried_of a units ≡ carried_of b units
  same_carried =
      one_in_order (carried_of a units) (carried_of b units) (carried_is_all a units).0 (carried_is_all b units).0
      (λ v c. let some = ((carried_is_all a units).1 v).0 c in ((carried_is_all b units).1 v).1 (some.0, some.1, carried_there some.1 some.2))
      (λ v c. let some = ((carried_is_all b units).1 v).0 c in ((carried_is_all a units).1 v).1 (some.0, some.1, carried_back some.1 some.2))

same_near : (a b : Sources) (unit : List ℕ) → ((v : List ℕ) → Contains (near_of a unit) v → Same a b v) → near_of a unit ≡ near_of b unit
unfolding near_of
same_near a b unit same =
    let bases : bases_at a unit ≡ bases_at b unit = ap (λ (m : Mentioned). m.parts ++ unit ∷ []) (same unit (near_unit a unit)) in
    let carried = same_carried a b (bases_at a unit) (λ v c. same v (near_base a unit v c)) (λ v c. same v (near_carried a unit v c)) in
    ap (λ names. names_in_order (names ++ bases_at a unit)) carried ∙ ap (λ names. names_in_order (carried_of b names ++ names)) bases

-- ---- what a key needs

module _ (T : Texts) (key : Key) (before : List Seen) (right : read_names before ≡ needs (read_texts before) key) (mentions : AllZip MentionsTheSame before (reads_under T (read_names before))) where
  same_there : (v : List ℕ) → Contains (read_names before) v → Same (sources_of (read_texts before)) (sources_of T) v
  same_there v c =
      let names : List (List ℕ) = read_names before in
      let lt : c.0 < length before = omega (arith, c.1, count_names before) in
      let d : Seen = record { name = v; found = None } in
      let named : (get_or before c.0 d).name ≡ v = sym (get_or-map (λ (it : Seen). it.name) before c.0 d v lt) ∙ c.2 in
      let now : get_or (reads_under T names) c.0 d ≡ record { name = v; found = held T v } =
      get_or-map (λ (n : List ℕ). record { name = n; found = held T n }) names c.0 v d c.1 ∙ ap (λ (n : List ℕ). record { name = n; found = held T n }) c.2 in
      let here = AllZip-get_or MentionsTheSame before (reads_under T names) c.0 d d mentions lt in
      ap (λ (o : Option (List ℕ)). mentions_of_tree (option_and_then tree_of o)) (under key before v c.0 d right lt named)
      ∙ here
      ∙ ap (λ (it : Seen). mentions_of_tree (option_and_then tree_of (seen_text it))) now
      ∙ ap (λ (o : Option (List ℕ)). mentions_of_tree (option_and_then tree_of o)) (sym (get_source T v))

by_kind : (kind : Kind) (a b : Sources) (unit : List ℕ) → ((v : List ℕ) → Contains (needs_of kind a unit) v → Same a b v) → needs_of kind a unit ≡ needs_of kind b unit
by_kind kind.Faults a b unit same = same_near a b unit same
by_kind kind.Net a b unit same = same_far a b unit same
by_kind kind.Deploy a b unit same = same_far a b unit same

pub needs_again : (T : Texts) (key : Key) (before : List Seen) → IsRight (record { key = key; reads = before }) → AllZip MentionsTheSame before (reads_under T (read_names before)) → read_names before ≡ needs T key
unfolding needs
needs_again T key before right mentions =
    right.names
    ∙ by_kind key.kind (sources_of (read_texts before)) (sources_of T) key.unit
    (λ v c. same_there T key before right.names mentions v (subst (λ (ns : List (List ℕ)). Contains ns v) (sym right.names) c))
