-- A network has one flat network only.
use Rattle.std.proofs.Common.{◌≡◌, List, refl, sym, ◌∙◌, ap, subst}
use Rattle.std.specs.Prelude.{Contains}
use Rattle.fb_network.specs.{declared.flat.FlatBlock.{FlatBlock}, declared.flat.Link.{Link}, declared.flat.Border.{Border}, Plain.{PlainNetwork}}
use Rattle.fb_network.specs.{PlainFlat.{PlainFlat}, LinkOrder.{link_cmp_total, border_cmp_total}, Network.{View}, Flat.{AreLinks, AreBorders}}
use Rattle.fb_network.specs.{Instances.{AreBlocks, leaves_of}, FlatNet.{IsFlat}}
use Rattle.fb_network.proofs.{BlockLemmas.{same_instances}, Equals.{same_links, same_borders}, SameSorted.{same_sorted}}

-- a link of one list is in each other list of the links
links_in : {view : View} {network : PlainNetwork} (xs ys : List Link) → AreLinks view network xs → AreLinks view network ys → (l : Link) → Contains xs l → Contains ys l
links_in xs ys a b l c =
    let p = a.sound l c in
    subst (λ (x : Link). Contains ys x) (same_links refl (sym p.from_is) (sym p.to_is)) (b.complete l.sort p.from_place p.to_place p.link)

borders_in : {view : View} {network : PlainNetwork} (xs ys : List Border) → AreBorders view network xs → AreBorders view network ys → (l : Border) → Contains xs l → Contains ys l
borders_in xs ys a b l c =
    let p = a.sound l c in
    subst (λ (x : Border). Contains ys x) (same_borders refl refl (sym p.place_is)) (b.complete l.sort l.port p.at p.border)

same_blocks : {view : View} {network : PlainNetwork} (xs ys : List FlatBlock) → AreBlocks view network xs → AreBlocks view network ys → xs ≡ ys
same_blocks xs ys a b = a.blocks_are ∙ ap leaves_of (same_instances a.instances b.instances) ∙ sym b.blocks_are

pub same_flat : {view : View} {network : PlainNetwork} (a b : PlainFlat) → IsFlat view network a → IsFlat view network b → a ≡ b
same_flat a b p q =
    let blocks = same_blocks a.blocks b.blocks p.blocks q.blocks in
    let links = same_sorted link_cmp_total a.links b.links p.links_sorted q.links_sorted (links_in a.links b.links p.links q.links) (links_in b.links a.links q.links p.links) in
    let borders = same_sorted border_cmp_total a.borders b.borders p.borders_sorted q.borders_sorted (borders_in a.borders b.borders p.borders q.borders) (borders_in b.borders a.borders q.borders p.borders) in
    λ i. record { blocks = blocks i; links = links i; borders = borders i }
