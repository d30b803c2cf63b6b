-- What is composed, put in order, is the flat network.
use Rattle.std.proofs.Common.{ℕ, ◌≡◌, ◌++◌, List, Option, length, map, refl, ◌∙◌}
use Rattle.std.specs.{Prelude.{Contains, flat_map}, List.Sorted.{IsStrictlySortedBy}}
use Rattle.fb_network.specs.{declared.flat.FlatBlock.{FlatBlock}, declared.flat.Link.{Link}, declared.flat.Border.{Border}, declared.flat.entries.Edge.{Edge}}
use Rattle.fb_network.specs.{declared.composition.draft.Draft.{Draft}, declared.network.table.Standing.{Standing}, Plain.{PlainNetwork}, LinkOrder.{border_cmp, link_cmp}}
use Rattle.fb_network.specs.{Network.{View, instance_named}, Clean.{IsCleanThroughout}, FlatNet.{IsFlat}, Ready.{Nets, AreFinished}}
use Rattle.fb_network.specs.Composed.{Instances, behind_of, composed_blocks, composed_borders, composed_links, inner_links, links_of_sort}
use Rattle.fb_network.specs.{Part.{IsFlatInWhole, SameAdapters}, PlainFlat.{PlainFlat}, Laid.{IsLaid, border_at, link_at}}
use Rattle.fb_network.specs.{Reading.{AreEdges, AreJoins, AreLeaves, IsFinish}, Standing.{AddsConnections, AreEdgesOf, HasOwn, HoldsInstances}}
use Rattle.fb_network.proofs.{BlockLemmas.{composed_blocks_are}, Composing.{borders_kept, composed_borders_are, composed_links_are, links_kept}}
use Rattle.fb_network.proofs.{Connections.{own_grown}, Readings.{leaves_grown}, Standings.{grows_twice, table_grown}}

-- a list holds what another holds, in order
pub record IsOrderOf {X : Type 0} (made sorted : List X) : Type 0 where
  pub kept : (x : X) → Contains made x → Contains sorted x
  pub added : (x : X) → Contains sorted x → Contains made x

-- a part that has the adapters gives the same links
pub same_links : {part whole : View} (network : PlainNetwork) (instances : Instances) (nets : Nets) → SameAdapters part whole network → composed_links part network instances nets ≡ composed_links whole network instances nets
same_links network instances nets same i =
    flat_map (inner_links nets) network.instances
    ++ flat_map (λ c. links_of_sort c.sort (same c.source i) (behind_of instances nets c.sort c.source) (behind_of instances nets c.sort c.destination)) network.connections

pub flat_of : {view : View} {network : PlainNetwork} {nets : Nets} (instances : Instances) (blocks : List FlatBlock) (made links : List Link) (found borders : List Border) → IsCleanThroughout view network → AreFinished view network nets → instances ≡ instance_named network.instances → blocks ≡ composed_blocks network nets → made ≡ composed_links view network instances nets → found ≡ composed_borders network instances nets → IsOrderOf made links → IsOrderOf found borders → IsStrictlySortedBy link_cmp links → IsStrictlySortedBy border_cmp borders → IsFlat view network (record { blocks = blocks; links = links; borders = borders })
flat_of {view = view} {network = network} {nets = nets} instances blocks made links found borders clean ready table blocks_are links_are borders_are l b links_sorted borders_sorted =
    record {
      blocks = rw blocks_are (composed_blocks_are ready);
      links = links_kept made links (rw (links_are, table) (composed_links_are clean ready)) l.kept l.added;
      borders = borders_kept found borders (rw (borders_are, table) (composed_borders_are clean ready)) b.kept b.added;
      links_sorted = links_sorted;
      borders_sorted = borders_sorted;
    }

-- what the draft and the borders say is what is composed
pub record HoldsAll (part : View) (network : PlainNetwork) (nets : Nets) (draft : Draft) (edges : List Edge) : Type 0 where
  pub blocks : AreLeaves draft.prefixes draft.leaves.items (composed_blocks network nets)
  pub links : AreJoins draft.prefixes draft.joins.items (composed_links part network (instance_named network.instances) nets)
  pub borders : AreEdges draft.prefixes edges (composed_borders network (instance_named network.instances) nets)

pub holds_all : (part : View) (network : PlainNetwork) (nets : Nets) (table : List ℕ → Option Standing) (start held draft : Draft) (edges : List Edge) → HasOwn start.prefixes network → HoldsInstances nets start held table network.instances → AddsConnections part network table held draft network.connections → AreEdgesOf network table edges network.connections → HoldsAll part network nets draft edges
holds_all part network nets table start held draft edges own h adds are =
    let more = adds nets h.standing in
    let own_there = own_grown start.prefixes draft.prefixes network (grows_twice start.prefixes held.prefixes draft.prefixes h.grows more.grows) own in
    let stands = table_grown held.prefixes draft.prefixes nets table network.instances more.grows h.standing in
    record {
      blocks = rw more.same_blocks (leaves_grown more.grows h.blocks);
      links = more.links (flat_map (inner_links nets) network.instances) h.links;
      borders = are draft.prefixes nets stands own_there;
    }

pub laid_of : {part : View} {network : PlainNetwork} {nets : Nets} {draft : Draft} {edges : List Edge} → HoldsAll part network nets draft edges → IsLaid (length draft.prefixes) draft.leaves.items draft.joins.items edges
laid_of h = record { leaves_below = h.blocks.in_range; joins_below = h.links.in_range; edges_below = h.borders.in_range }

pub flat_in_whole : {part : View} {network : PlainNetwork} {nets : Nets} {draft : Draft} {edges : List Edge} (flat : PlainFlat) → HoldsAll part network nets draft edges → IsFinish draft edges flat → IsFlatInWhole part network nets flat
flat_in_whole {network = network} {nets = nets} {draft = draft} {edges = edges} flat h f whole same clean ready =
    flat_of (instance_named network.instances) flat.blocks (map (link_at draft.prefixes) draft.joins.items) flat.links (map (border_at draft.prefixes) edges) flat.borders
    clean ready refl (f.blocks ∙ h.blocks.is) (h.links.is ∙ same_links network (instance_named network.instances) nets same) h.borders.is
    (record { kept = f.links.kept; added = f.links.added }) (record { kept = f.borders.kept; added = f.borders.added }) f.links.sorted f.borders.sorted
