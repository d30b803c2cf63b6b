-- The links of a system.
use Rattle.std.proofs.{Common.{ℕ, ◌≡◌, ◌<◌, ◌+◌, ◌∙◌, List, [], ◌∷◌, length, map, take, get_or, refl, sym}, lemmas.List.Elements.{All-nil}}
use Rattle.std.specs.{Prelude.{◌↔◌, Contains}, List.{flat_map}}
use Rattle.fb_network.specs.{declared.flat.Link.{Link}, declared.flat.entries.Edge.{Edge}, declared.composition.draft.Draft.{Draft}}
use Rattle.fb_network.specs.{declared.flat.application.FlatApplication.{FlatApplication}, Composed.{link_within}, PlainFlat.{PlainFlat}, LinkOrder.{link_cmp_total}}
use Rattle.fb_network.specs.SystemFlat.{IsApplicationLink, IsSystemFlat, application_blocks, application_links}
use Rattle.fb_network.specs.{Laid.{IsEdgeBelow, IsJoinBelow, IsLaid, IsLeafBelow, block_at, link_at}, Reading.{AreJoins, AreLeaves, IsFinish, TakesIn}}
use Rattle.fb_network.proofs.{Readings.{reading_nothing}, SameSorted.{same_sorted}, Standings.{flat_map_push, next_taken}}
use Rattle.fb_tree.proofs.Text.Members.{contains_flat_map, contains_here, contains_map, contains_nothing, origin_in_flat_map, origin_in_map}

link_of_application : (applications : List FlatApplication) (link : Link) → Contains (flat_map application_links applications) link → IsApplicationLink applications link
link_of_application applications link c =
    let o = origin_in_flat_map application_links applications link c in
    let m = origin_in_map (link_within o.origin.name) o.origin.flat.links link o.has in
    record { application = o.origin; among = o.among; own = m.origin; is_own = m.among; inside = sym m.gives }

application_link_listed : (applications : List FlatApplication) (link : Link) → IsApplicationLink applications link → Contains (flat_map application_links applications) link
application_link_listed applications link i =
    contains_flat_map application_links applications i.application link i.among (rw i.inside (contains_map (link_within i.application.name) i.application.flat.links i.own i.is_own))

-- a list with the members of the applications' links has the links of the system
pub system_links_are : (applications : List FlatApplication) (made links : List Link) → made ≡ flat_map application_links applications → ((l : Link) → Contains made l → Contains links l) → ((l : Link) → Contains links l → Contains made l) → (link : Link) → Contains links link ↔ IsApplicationLink applications link
system_links_are applications made links is kept added link = (
  λ c. link_of_application applications link (rw is at (added link c)),
  λ i. kept link (rw is (application_link_listed applications link i)),
)

-- the draft has what the applications hold
pub record HoldsApplications (draft : Draft) (applications : List FlatApplication) : Type 0 where
  pub blocks : AreLeaves draft.prefixes draft.leaves.items (flat_map application_blocks applications)
  pub links : AreJoins draft.prefixes draft.joins.items (flat_map application_links applications)

pub applications_none : (draft : Draft) → draft.leaves.items ≡ [] → draft.joins.items ≡ [] → HoldsApplications draft []
applications_none draft no_leaves no_joins =
    record {
      blocks = rw no_leaves (reading_nothing IsLeafBelow block_at draft.prefixes);
      links = rw no_joins (reading_nothing IsJoinBelow link_at draft.prefixes);
    }

-- one application more has been taken in
pub applications_more : (old new : Draft) (xs : List FlatApplication) (k : ℕ) (a : FlatApplication) (edges : List Edge) → k < length xs → a ≡ get_or xs k a → HoldsApplications old (take k xs) → TakesIn old new a.name a.flat edges → HoldsApplications new (take (k + 1) xs)
applications_more old new xs k a edges lt e h t =
    record {
      blocks = rw (← next_taken xs k a lt e, flat_map_push application_blocks (take k xs) a) (t.blocks _ h.blocks);
      links = rw (← next_taken xs k a lt e, flat_map_push application_links (take k xs) a) (t.links _ h.links);
    }

pub applications_laid : (draft : Draft) (applications : List FlatApplication) (edges : List Edge) → HoldsApplications draft applications → edges ≡ [] → IsLaid (length draft.prefixes) draft.leaves.items draft.joins.items edges
applications_laid draft applications edges h none =
    record { leaves_below = h.blocks.in_range; joins_below = h.links.in_range; edges_below = rw none (All-nil (IsEdgeBelow (length draft.prefixes))) }

without_members : {X : Type 0} (xs : List X) → ((x : X) → Contains xs x → Contains [] x) → xs ≡ []
without_members [] none = refl
without_members (x ∷ xs) none = absurd (contains_nothing x (none x (contains_here x xs)))

-- what the applications hold, put in order, is the flat network of the system
pub system_is : (draft : Draft) (applications : List FlatApplication) (edges : List Edge) (flat : PlainFlat) → HoldsApplications draft applications → edges ≡ [] → IsFinish draft edges flat → IsSystemFlat applications flat
system_is draft applications edges flat h none f =
    record {
      blocks = f.blocks ∙ h.blocks.is;
      links = system_links_are applications (map (link_at draft.prefixes) draft.joins.items) flat.links h.links.is f.links.kept f.links.added;
      links_sorted = f.links.sorted;
      borders = without_members flat.borders (λ b c. rw none at (f.borders.added b c));
    }

-- a system has one flat network only
pub same_system : (applications : List FlatApplication) (a b : PlainFlat) → IsSystemFlat applications a → IsSystemFlat applications b → a ≡ b
same_system applications a b p q =
    let blocks = p.blocks ∙ sym q.blocks in
    let links = same_sorted link_cmp_total a.links b.links p.links_sorted q.links_sorted (λ l c. (q.links l).1 ((p.links l).0 c)) (λ l c. (p.links l).1 ((q.links l).0 c)) in
    let borders = p.borders ∙ sym q.borders in
    λ i. record { blocks = blocks i; links = links i; borders = borders i }
