-- The networks of units whose nets are flat, and the nets of the types of their subapplication instances.
use Rattle.fb_laws.proofs.Common.{arith, ℕ, ◌≡◌, List, Some, length, inl, ap, subst, Contains, contains_flat_map, unit_kind_of, DeclTree, system_configuration, Sources, parts_at, tree_at, IsSound, flat_net, done_part, net_at_is, unit_faultless, sound_part, sound_tree, IsClean, IsCleanThroughout, IsFlat, IsInner, PlainNetwork, Instance, applications_of, applications_at, declared, kind_at, IsWithinLimit, OfSubapplication, own_instances, Application, option_map}
use Rattle.fb_laws.proofs.ChainParts.{borders_composed, links_composed}
use Rattle.fb_deploy.specs.Flatten.Far.{far_of}
use Rattle.fb_deploy.proofs.{Flatten.CleanUnits.{applications_clean, networks_clean}, Flatten.ComputedFlats.{IsDone, clean_with}}
use Rattle.fb_deploy.proofs.{Flatten.CountLemmas.{inner_small, own_kind}, Flatten.MentionLemmas.{own_within}}
use Rattle.fb_types.proofs.Network.Composing.{found_by_name}
use Rattle.fb_laws.specs.Chains.{FlatBordersAreComposed, FlatLinksAreComposed, FlatUnitsAreClean, HasFlatNet, InnerBordersAreListed, InnerNetsAreFlat, IsOwnNetwork, of_application, of_subapplication}

-- the instances of an own network are the unit's
in_unit : (sources : Sources) (unit : List ℕ) (network : PlainNetwork) → IsOwnNetwork sources unit network → (i : Instance) → Contains network.instances i → (tree : DeclTree) → tree_at sources unit ≡ Some tree → Contains (own_instances tree) i
in_unit sources unit network (of_subapplication kind is) i c tree e = grind (arith, option_map)
in_unit sources unit network (of_application {applications = list} {application = a} kind is among) i c (system_configuration s) e =
    let there : applications_at sources unit ≡ Some (applications_of (system_configuration s)) = ap (option_map applications_of) e in
    let same : list ≡ applications_of (system_configuration s) = cc in
    contains_flat_map (λ (x : Application). x.network.instances) (applications_of (system_configuration s)) a i (subst (λ (l : List Application). Contains l a) same among) c
in_unit sources unit network (of_application kind is among) i c tree e = let other : kind_at sources unit ≡ Some (unit_kind_of tree) = ap (option_map unit_kind_of) e in absurd (let no : ⊥ = cc in no)

module _ (sources : Sources) (unit : List ℕ) (sound : IsSound sources unit) where
  -- the types of its instances are parts of the unit
  type_is_part : (network : PlainNetwork) → IsOwnNetwork sources unit network → (i : Instance) → Contains network.instances i → Contains (parts_at sources unit) i.type_name
  type_is_part network holds i c = let t = sound_tree sound in own_within sources unit t.tree t.present i (in_unit sources unit network holds i c t.tree t.present)

  clean_own : (network : PlainNetwork) → IsOwnNetwork sources unit network → IsClean (declared sources) network
  clean_own network (of_subapplication kind is) = (networks_clean sources unit network is (unit_faultless sources unit sound)).clean
  clean_own network (of_application {applications = list} {application = a} kind is among) = ((applications_clean sources unit list is (unit_faultless sources unit sound)).sound a among).clean

  type_done : (network : PlainNetwork) → IsOwnNetwork sources unit network → (i : Instance) → Contains network.instances i → IsDone sources (length (far_of sources unit)) i.type_name
  type_done network holds i c = done_part sources unit sound i.type_name (type_is_part network holds i c)

  clean_throughout : (network : PlainNetwork) → IsOwnNetwork sources unit network → IsCleanThroughout (declared sources) network
  clean_throughout network holds = clean_with sources (length (far_of sources unit)) network (clean_own network holds) (type_done network holds)

  inner_flat : (network : PlainNetwork) → IsOwnNetwork sources unit network → IsWithinLimit sources unit → (name : List ℕ) (inner : PlainNetwork) (is : IsInner (declared sources) network name inner) → HasFlatNet sources is.instance.type_name inner
  inner_flat network holds limit name inner is =
      let i = is.instance in
      let found = found_by_name network.instances name i is.first in
      let there = limit.holds in
      let own = in_unit sources unit network holds i found.among there.tree there.present in
      let kind = own_kind sources unit there.tree sound there.present i own is.kind in
      let small = inner_small i there.instances limit.within own is.kind in
      let done = (type_done network holds i found.among).finished in
      let one = done.declared in
      let two = is.declared in
      let same : done.inner ≡ inner = cc in
      let flat : IsFlat (declared sources) inner done.net = subst (λ (n : PlainNetwork). IsFlat (declared sources) n done.net) same done.flat in
      let within : IsWithinLimit sources i.type_name = record { held = small.held; holds = grind (arith, option_map); within = small.within } in
      record {
        flat = done.net;
        net = (net_at_is sources i.type_name (flat_net done.net)).1 (inl kind, (sound_part sound i.type_name (type_is_part network holds i found.among), within, OfSubapplication inner kind two flat));
        is_flat = flat;
      }

-- ---- laws

pub flat_clean : FlatUnitsAreClean
flat_clean sources unit network of = let net = ((net_at_is sources unit (flat_net of.flat)).0 of.net).1 in clean_throughout sources unit net.0 network of.holds

pub link_chains : FlatLinksAreComposed
link_chains sources unit network of = links_composed (flat_clean sources unit network of)

pub border_chains : FlatBordersAreComposed
border_chains sources unit network of = borders_composed (flat_clean sources unit network of)

pub inner_nets : InnerNetsAreFlat
inner_nets sources unit network of = let net = ((net_at_is sources unit (flat_net of.flat)).0 of.net).1 in inner_flat sources unit net.0 network of.holds net.1

pub inner_borders : InnerBordersAreListed
inner_borders sources type inner net sort port place border = net.is_flat.borders.complete sort port place border
