-- What can be composed by a table that has the networks of types and of the adapters of their ports.
use Rattle.std.proofs.Common.{ℕ, ◌≡◌, List, Option, Some, None, refl, sym, ◌∙◌, ap, subst, length, arith}
use Rattle.std.specs.{Prelude.{Contains, ◌&&◌}, Option.{option_and_then}, BTreeMap.{is_at}}
use Rattle.fb_types.specs.{Text.Order.{name_cmp}, Tree.Tree.{DeclTree}, Tree.declared.network.Sort.TheVariants.{Adapter}}
use Rattle.fb_types.specs.{Library.View.{Sources, parts_at, tree_at}, Network.Sorts.{same_sort}, Network.declared.network.Port.{Port}}
use Rattle.fb_types.specs.{Network.declared.network.Instance.{Instance}, Network.declared.network.End.TheVariants.{Own, Of}, Network.Plain.{PlainNetwork}}
use Rattle.fb_types.specs.{Network.Network.{View, instance_named}, Network.Clean.{port_named}, ByName.{declared}, Applications.{applications_of}}
use Rattle.fb_types.specs.{declared.systems.Application.{Application}, Network.Part.{SameAdapters}, Network.Ready.{Nets, AreFinished}}
use Rattle.fb_flatten.proofs.{CleanUnits.{applications_clean}, ComputedFlats.{clean_with}, ComputedNets.{done_part, unit_faultless}, FlatLocality.{found}}
use Rattle.fb_flatten.proofs.{MentionLemmas.{applications_within, declared_within}, SoundLemmas.{clean_network, sound_part, sound_network}}
use Rattle.fb_flatten.specs.{Far.{far_of}, Net.{PlainNet}, Tables.{IsComposable, IsSoundOrder, IsTable}}
use Rattle.fb_types.proofs.FoundUnits.{system_applications}

module _ (table view : View) where
  -- both have the same adapters of these ports
  abbrev SamePorts : List Port → Type 0
  SamePorts ports = (port : Port) (name : List ℕ) → Contains ports port → port.adapter ≡ Some name → table name ≡ view name

  -- both have the same network under the name, and the same adapters of its ports
  record SameType (name : List ℕ) : Type 0 where
    pub network : PlainNetwork
    pub there : table name ≡ Some network
    pub is : view name ≡ Some network
    pub ports : SamePorts network.ports

  abbrev adapter_in : List ℕ → PlainNetwork → Option (List ℕ)
  adapter_in port type = option_and_then (λ (p : Port). p.adapter) (port_named type.ports Adapter port)

  same_adapter_of : (o : Option Port) → ((p : Port) → o ≡ Some p → (a : List ℕ) → p.adapter ≡ Some a → table a ≡ view a) → option_and_then table (option_and_then (λ (p : Port). p.adapter) o) ≡ option_and_then view (option_and_then (λ (p : Port). p.adapter) o)
  same_adapter_of o same = grind arith

  same_adapter : (ports : List Port) (name : List ℕ) → SamePorts ports → option_and_then table (option_and_then (λ (p : Port). p.adapter) (port_named ports Adapter name)) ≡ option_and_then view (option_and_then (λ (p : Port). p.adapter) (port_named ports Adapter name))
  same_adapter ports name same = same_adapter_of (port_named ports Adapter name) (λ p e a h. same p a (found (λ (q : Port). same_sort q.sort Adapter && is_at (name_cmp q.name) name) ports p e) h)

  same_adapters : (network : PlainNetwork) → SamePorts network.ports → ((i : Instance) → Contains network.instances i → SameType i.type_name) → SameAdapters table view network
  same_adapters network own types (Own port) = same_adapter network.ports port own
  same_adapters network own types (Of name port) = by (instance_named network.instances name) refl
    where
      by : (o : Option Instance) → instance_named network.instances name ≡ o → option_and_then table (option_and_then (adapter_in port) (option_and_then (λ (i : Instance). table i.type_name) o)) ≡ option_and_then view (option_and_then (adapter_in port) (option_and_then (λ (i : Instance). view i.type_name) o))
      by None e = refl
      by (Some i) e =
          let t = types i (found (λ (j : Instance). is_at (name_cmp j.name) name) network.instances i e) in
          ap (λ (o : Option PlainNetwork). option_and_then table (option_and_then (adapter_in port) o)) t.there
          ∙ same_adapter t.network.ports port t.ports
          ∙ ap (λ (o : Option PlainNetwork). option_and_then view (option_and_then (adapter_in port) o)) (sym t.is)

module _ {sources : Sources} {hints : List ℕ → Option PlainNet} {table : View} {order : List (List ℕ)} (names : IsSoundOrder sources hints order) (t : IsTable sources table order) where
  -- the table has what the texts say of a name of the order
  same_type : (name : List ℕ) → Contains order name → SameType table (declared sources) name
  same_type name c =
      let sound = names.sound name c in
      let it = sound_network sound in
      let has = t.types name c in
      record {
        network = it.network;
        there = has.network it.network it.is_declared;
        is = it.is_declared;
        ports = λ port adapter h e.
            let own = sound_network (sound_part sound adapter ((declared_within sources name it.network it.is_declared).adapters port adapter h e)) in
            has.adapters it.network it.is_declared port h adapter e own.network own.is_declared ∙ sym own.is_declared;
      }

  -- the network of a name of the order, where the order has its inner types
  pub type_composable : {nets : Nets} (name : List ℕ) (network : PlainNetwork) → Contains order name → table name ≡ Some network → ((i : Instance) → Contains network.instances i → Contains order i.type_name) → AreFinished (declared sources) network nets → IsComposable table (declared sources) nets network
  type_composable name network c there held finished =
      let own = same_type name c in
      let is = own.there in
      let same : own.network ≡ network = cc in
      record {
        same = same_adapters table (declared sources) network
            (λ port adapter h e. own.ports port adapter (subst (λ (n : PlainNetwork). Contains n.ports port) (sym same) h) e)
            (λ i h. same_type i.type_name (held i h));
        clean = clean_network (names.sound name c) network (own.is ∙ ap (λ (n : PlainNetwork). Some n) same);
        finished = finished;
      }

  -- the network of an application of the unit
  pub application_composable : {nets : Nets} (unit : List ℕ) (tree : DeclTree) → Contains order unit → ((w : List ℕ) → Contains (parts_at sources unit) w → Contains order w) → tree_at sources unit ≡ Some tree → (a : Application) → Contains (applications_of tree) a → AreFinished (declared sources) a.network nets → IsComposable table (declared sources) nets a.network
  application_composable unit tree c parts present a among finished =
      let sound = names.sound unit c in
      let is = system_applications sources unit tree present in
      let within = applications_within sources unit (applications_of tree) is a among in
      record {
        same = same_adapters table (declared sources) a.network
            (λ port adapter h e. let s = same_type adapter (parts adapter (within.adapters port adapter h e)) in s.there ∙ sym s.is)
            (λ i h. same_type i.type_name (parts i.type_name (within.types i h)));
        clean = clean_with sources (length (far_of sources unit)) a.network
            ((applications_clean sources unit (applications_of tree) is (unit_faultless sources unit sound)).sound a among).clean
            (λ i h. done_part sources unit sound i.type_name (within.types i h));
        finished = finished;
      }
