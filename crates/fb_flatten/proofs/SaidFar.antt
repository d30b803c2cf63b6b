-- What nets take of the texts that a unit rests on, but for faults: what these mention, and what they say to networks.
use Rattle.std.proofs.Common.{ℕ, ◌≡◌, List, sym, ◌∙◌, ◌++◌, subst}
use Rattle.std.specs.Prelude.{Contains}
use Rattle.fb_types.specs.{Library.View.{Sources, mentions_at, parts_at, tree_at}, Library.Rests.{Rests, itself, through}}
use Rattle.fb_types.specs.{Reaches.{IsRecursive, Reaches, directly, onward}, Network.PlainFlat.{PlainFlat}, Network.Instances.{Held}}
use Rattle.fb_types.specs.{Network.declared.flat.application.FlatApplication.{FlatApplication}, ByName.{declared}, Local.{HasSameInterface}}
use Rattle.fb_types.specs.{Network.Plain.{PlainNetwork}, declared.systems.Application.{Application}}
use Rattle.fb_types.specs.Units.{AreFlatApplications, NoApplication, ThenApplication, Holds, IsTooLarge, IsWithinLimit, IsUnitFlat, OfSubapplication, OfSystem}
use Rattle.fb_types.proofs.{Library.Locality.{part_mention, rests_more}, Text.Members.{contains_here, contains_later}}
use Rattle.fb_flatten.specs.{Blocking.{AreThose, IsPartBelow}, Locality.{Within, IsClosed, SameNetworks}}
use Rattle.fb_flatten.proofs.{FlatLocality.{instances_there, same_flats}, MentionLemmas.{applications_within, declared_within, own_within}}

-- under each name that the unit rests on both say the same
abbrev pub SaysSameFar : Sources → Sources → List ℕ → Type 0
SaysSameFar a b unit = (v : List ℕ) → Rests a unit v → HasSameInterface (tree_at a v) (tree_at b v)

module _ (a b : Sources) (unit : List ℕ) (says : SaysSameFar a b unit) where
  mentions_same : (v : List ℕ) → Rests a unit v → mentions_at a v ≡ mentions_at b v
  mentions_same v r = let it = says v r in λ i. it.parts i ++ it.values i

  parts_same : (v : List ℕ) → Rests a unit v → parts_at a v ≡ parts_at b v
  parts_same v r = (says v r).parts

  rests_from : {u v : List ℕ} → Rests a unit u → Rests a u v → Rests b u v
  rests_from r itself = itself
  rests_from {u} r (through {w = w} m s) = through (subst (λ l. Contains l w) (mentions_same u r) m) (rests_from (rests_more r m) s)

  rests_to : {u v : List ℕ} → Rests a unit u → Rests b u v → Rests a u v
  rests_to r itself = itself
  rests_to {u} r (through {w = w} m s) =
      let known : Contains (mentions_at a u) w = subst (λ l. Contains l w) (sym (mentions_same u r)) m in
      through known (rests_to (rests_more r known) s)

  pub far_there : (v : List ℕ) → Rests a unit v → Rests b unit v
  far_there v r = rests_from itself r

  pub far_back : (v : List ℕ) → Rests b unit v → Rests a unit v
  far_back v r = rests_to itself r

  reaches_from : {u v : List ℕ} → Rests a unit u → Reaches a u v → Reaches b u v
  reaches_from {u} {v} r (directly m) = directly (subst (λ (l : List (List ℕ)). Contains l v) (parts_same u r) m)
  reaches_from {u} r (onward {w = w} m s) =
      onward (subst (λ (l : List (List ℕ)). Contains l w) (parts_same u r) m) (reaches_from (rests_more r (part_mention a u w m)) s)

  reaches_to : {u v : List ℕ} → Rests a unit u → Reaches b u v → Reaches a u v
  reaches_to {u} {v} r (directly m) = directly (subst (λ (l : List (List ℕ)). Contains l v) (sym (parts_same u r)) m)
  reaches_to {u} r (onward {w = w} m s) =
      let known : Contains (parts_at a u) w = subst (λ (l : List (List ℕ)). Contains l w) (sym (parts_same u r)) m in
      onward known (reaches_to (rests_more r (part_mention a u w known)) s)

  pub recursive_those_there : (names : List (List ℕ)) → AreThose a unit (IsRecursive a) names → AreThose b unit (IsRecursive b) names
  recursive_those_there names t =
      record {
        sorted = t.sorted;
        members = λ v. (
          λ c. let m = (t.members v).0 c in (far_there v m.0, reaches_from m.0 m.1),
          λ p. let far = far_back v p.0 in (t.members v).1 (far, reaches_to far p.1),
        );
      }

  pub part_there : (v : List ℕ) → IsPartBelow a unit v → IsPartBelow b unit v
  part_there v (holder, r, m) = (holder, far_there holder r, subst (λ (l : List (List ℕ)). Contains l v) (parts_same holder r) m)

  pub part_back : (v : List ℕ) → IsPartBelow b unit v → IsPartBelow a unit v
  part_back v (holder, r, m) =
      let far : Rests a unit holder = far_back holder r in
      (holder, far, subst (λ (l : List (List ℕ)). Contains l v) (sym (parts_same holder far)) m)

  part_below : {v n : List ℕ} → Rests a unit v → Contains (parts_at a v) n → Rests a unit n
  part_below {v} {n} r m = rests_more r (part_mention a v n m)

  rests_below : {v : List ℕ} {network : PlainNetwork} → Rests a unit v → Within (Contains (parts_at a v)) network → Within (Rests a unit) network
  rests_below r w = record { types = λ i c. part_below r (w.types i c); adapters = λ port n c p. part_below r (w.adapters port n c p) }

  same_networks : SameNetworks (Rests a unit) (declared a) (declared b)
  same_networks name r = (says name r).said.network

  closed : IsClosed (declared a) (Rests a unit)
  closed name network r e = rests_below r (declared_within a name network e)

  flats_there : {applications : List Application} {flats : List FlatApplication} → ((x : Application) → Contains applications x → Within (Rests a unit) x.network) → AreFlatApplications (declared a) applications flats → AreFlatApplications (declared b) applications flats
  flats_there within NoApplication = NoApplication
  flats_there within (ThenApplication {rest = rest} x f here more) =
      ThenApplication x f
      (record { name = here.name; net = ((same_flats closed same_networks (within x (contains_here x rest))).flats f.flat).0 here.net })
      (flats_there (λ y c. within y (contains_later x rest y c)) more)

  pub unit_flat_there : (flat : PlainFlat) → IsUnitFlat a unit flat → IsUnitFlat b unit flat
  unit_flat_there flat (OfSubapplication network k d f) =
      let same = (says unit itself).said in
      OfSubapplication network (sym same.kind ∙ k) (sym same.network ∙ d)
      (((same_flats closed same_networks (closed unit network itself d)).flats flat).0 f)
  unit_flat_there flat (OfSystem applications flats k d each joined) =
      let same = (says unit itself).said in
      OfSystem applications flats (sym same.kind ∙ k) (sym same.applications ∙ d) (flats_there (λ x c. rests_below itself (applications_within a unit applications d x c)) each) joined

  holds_there : tree_at a unit ≡ tree_at b unit → (held : List Held) → Holds a unit held → Holds b unit held
  holds_there own held h =
      record {
        tree = h.tree;
        present = sym own ∙ h.present;
        instances = instances_there closed same_networks (λ i c. part_below itself (own_within a unit h.tree h.present i c)) h.instances;
      }

  pub large_there : tree_at a unit ≡ tree_at b unit → IsTooLarge a unit → IsTooLarge b unit
  large_there own t = record { held = t.held; holds = holds_there own t.held t.holds; more = t.more }

  pub within_there : tree_at a unit ≡ tree_at b unit → IsWithinLimit a unit → IsWithinLimit b unit
  within_there own t = record { held = t.held; holds = holds_there own t.held t.holds; within = t.within }
