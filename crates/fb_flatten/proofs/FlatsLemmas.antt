-- One more name of an order is finished.
use Rattle.std.proofs.Common.{ℕ, ◌≡◌, ◌<◌, true, false, not, List, [], ◌∷◌, ◌++◌, Option, Some, inl, inr, sym, ◌∙◌, ap, subst, take, get_or, length, arith}
use Rattle.std.proofs.{lemmas.Bool.{and_parts}, lemmas.List.Elements.{All-contains, All-contains_itself, All-take, Contains-push_cases}}
use Rattle.std.specs.{Prelude.{Contains, ◌≢◌, option_map}, Option.{option_or}, BTreeMap.{is_at}}
use Rattle.fb_types.proofs.{Text.Tests.{by_bool, not_true}, Network.Equals.{same_bytes, not_at, at_not}}
use Rattle.fb_types.proofs.{KindLemmas.{subapplication_told}, FoundUnits.{own_of_application, own_of_type, system_applications}}
use Rattle.fb_types.specs.{Text.Order.{name_cmp}, Tree.Mentions.{unit_kind_of}, Tree.Tree.{DeclTree}, Library.View.{Sources, parts_at, tree_at}}
use Rattle.fb_types.specs.{Network.declared.network.InstanceKind.TheVariants.{Subapplication}, Network.declared.network.Instance.{Instance}}
use Rattle.fb_types.specs.{Network.Plain.{PlainNetwork}, Network.PlainFlat.{PlainFlat}, Network.Network.{View}, Network.Instances.{AreInstances}}
use Rattle.fb_types.specs.{Applications.{applications_of}, ByName.{declared, kind_at}, Networks.{network_of}, Network.Ready.{Nets, IsFinished, AreFinished}}
use Rattle.fb_types.specs.Units.{HasNet, IsUnitFlat, IsWithinLimit, OfSubapplication, OfSystem, own_instances}
use Rattle.fb_types.specs.Tree.declared.kinds.UnitKind.TheVariants as kinds
use Rattle.fb_flatten.specs.{Hints.{AreRightHints, flat_of_hint, is_whole_hint}, Net.{PlainNet}}
use Rattle.fb_flatten.specs.Tables.{AllFinished, AreComposedTogether, AreMissing, IsAdded, IsComposed, IsSmallType, IsTable, IsUnitOrder, SameOthers, is_missing, is_system_tree, known_flats}
use Rattle.fb_flatten.proofs.{ComposeLemmas.{application_composable, type_composable}, CountLemmas.{inner_kind, inner_small, own_kind}}
use Rattle.fb_flatten.proofs.{HintLemmas.{kept_finished, no_flat}, MentionLemmas.{declared_within, own_within}, SoundLemmas.{not_mentioned, sound_network}}

in_take : {X : Type 0} (k : ℕ) (xs : List X) (x : X) → Contains (take k xs) x → Contains xs x
in_take k xs x c = All-contains (Contains xs) (take k xs) x (All-take (Contains xs) k xs (All-contains_itself xs)) c

not_system : (tree : DeclTree) → is_system_tree tree ≡ false → Some (unit_kind_of tree) ≡ Some kinds.System → ⊥
not_system tree s k = grind arith

is_system : (tree : DeclTree) → is_system_tree tree ≡ true → Some (unit_kind_of tree) ≡ Some kinds.System
is_system tree s = grind arith

-- ---- the names of an order

-- what is composed, when these names of the order are passed
pub record AreComposed (sources : Sources) (hints : List ℕ → Option PlainNet) (unit : List ℕ) (order names : List (List ℕ)) (composed : Nets) : Type 0 where
  pub finished : AllFinished sources (known_flats hints composed) unit names
  pub missing : AreMissing sources hints unit order composed

module _ (sources : Sources) (hints : List ℕ → Option PlainNet) (unit : List ℕ) (names : List (List ℕ)) (name : List ℕ) where
  -- a further name that is finished
  pub finished_more : (old new : Nets) → AllFinished sources (known_flats hints old) unit names → SameOthers old new name → (kind_at sources name ≡ Some kinds.Subapplication → IsSmallType (declared sources) name → IsFinished (declared sources) (known_flats hints new) name) → AllFinished sources (known_flats hints new) unit (names ++ name ∷ [])
  finished_more old new all others one q c other kind small =
      let here : name ≡ q → IsFinished (declared sources) (known_flats hints new) q = λ same.
      subst (λ (n : List ℕ). IsFinished (declared sources) (known_flats hints new) n) same
      (one (ap (kind_at sources) same ∙ kind) (subst (λ (n : List ℕ). IsSmallType (declared sources) n) (sym same) small)) in
      elim (Contains-push_cases names name q c) [
        | inr s ↦ here s
        | inl d ↦ by_bool (is_at (name_cmp name) q)
            (λ e. here (same_bytes name q e))
            (λ e.
            let f = all q d other kind small in
            let kept = ap (λ (o : Option PlainFlat). option_or (flat_of_hint (hints q)) o) (others q (at_not name q e)) in
            record { inner = f.inner; declared = f.declared; net = f.net; found = kept ∙ f.found; flat = f.flat })
      ]

  -- a further name that is missing
  pub missing_more : (order : List (List ℕ)) (old new : Nets) → AreMissing sources hints unit order old → SameOthers old new name → Contains order name → is_missing sources hints unit name ≡ true → AreMissing sources hints unit order new
  missing_more order old new all others c missing q flat e = by_bool (is_at (name_cmp name) q)
      (λ t. subst (λ (n : List ℕ). Contains order n × (is_missing sources hints unit n ≡ true)) (same_bytes name q t) (c, missing))
      (λ f. all q flat (sym (others q (at_not name q f)) ∙ e))

  -- a further name that is not missing
  pub finished_skip : (composed : Nets) → AreRightHints sources hints → is_missing sources hints unit name ≡ false → AllFinished sources (known_flats hints composed) unit names → AllFinished sources (known_flats hints composed) unit (names ++ name ∷ [])
  finished_skip composed right here all q c other kind small =
      elim (Contains-push_cases names name q c) [
        | inl h ↦ all q h other kind small
        | inr s ↦
            let at : is_missing sources hints unit q ≡ false = subst (λ (n : List ℕ). is_missing sources hints unit n ≡ false) s here in
            let whole : is_whole_hint (hints q) ≡ true = grind (arith, not_at unit q other, subapplication_told sources q kind) in
            kept_finished sources q kind small.network small.declared hints right composed whole small
      ]

module _ {sources : Sources} {hints : List ℕ → Option PlainNet} {table : View} {unit : List ℕ} {order : List (List ℕ)} (o : IsUnitOrder sources hints unit order) (t : IsTable sources table order) where
  apart : (name w : List ℕ) → Contains order name → Contains (parts_at sources name) w → w ≢ unit
  apart name w c m e = not_mentioned (o.names.sound unit o.own) name (o.below name c) (subst (λ (n : List ℕ). Contains (parts_at sources name) n) e m)

  -- the types that a small type of the order holds are finished
  inner_finished : (nets : Nets) (names : List (List ℕ)) (name : List ℕ) (network : PlainNetwork) → Contains order name → declared sources name ≡ Some network → AllFinished sources nets unit names → ((w : List ℕ) → Contains (parts_at sources name) w → Contains names w) → IsSmallType (declared sources) name → AreFinished (declared sources) network nets
  inner_finished nets names name network c d all held small i h k =
      let m = (declared_within sources name network d).types i h in
      let own = small.declared in
      let same : small.network ≡ network = cc in
      let instances = subst (λ (n : PlainNetwork). AreInstances (declared sources) n.instances small.held) same small.instances in
      all i.type_name (held i.type_name m) (apart name i.type_name c m) (inner_kind sources name network (o.names.sound name c) d i h k) (inner_small i instances small.within h k)

  -- what is composed of the next name that is missing is its flat network
  pub added_finished : (old new : Nets) (i : ℕ) (name : List ℕ) → i < length order → name ≡ get_or order i name → is_missing sources hints unit name ≡ true → AllFinished sources (known_flats hints old) unit (take i order) → IsAdded table (known_flats hints old) new name → IsSmallType (declared sources) name → IsFinished (declared sources) (known_flats hints new) name
  added_finished old new i name lt e missing all added small =
      let unknown = not_true (is_whole_hint (hints name)) (and_parts (not (is_whole_hint (hints name))) _ (and_parts (not (is_at (name_cmp unit) name)) _ missing).1).0 in
      let c : Contains order name = (i, lt, sym e) in
      let it = sound_network (o.names.sound name c) in
      let made = added.composed in
      let there = made.there in
      let has = (t.types name c).network it.network it.is_declared in
      let same : it.network ≡ made.network = cc in
      let d : declared sources name ≡ Some made.network = it.is_declared ∙ ap (λ (n : PlainNetwork). Some n) same in
      let first : (w : List ℕ) → Contains (parts_at sources name) w → Contains (take i order) w = λ w m. o.names.inner_first i name w lt e unknown m in
      let finished = inner_finished (known_flats hints old) (take i order) name made.network c d all first small in
      let fit = type_composable o.names t name made.network c there (λ j h. in_take i order j.type_name (first j.type_name ((declared_within sources name made.network d).types j h))) finished in
      record {
        inner = made.network;
        declared = d;
        net = added.flat;
        found = ap (λ (f : Option PlainFlat). option_or f (new name)) (no_flat (hints name) unknown) ∙ added.found;
        flat = made.whole (declared sources) fit.same fit.clean fit.finished;
      }

  -- ---- the unit

  own_finished : (nets : Nets) (tree : DeclTree) → tree_at sources unit ≡ Some tree → AllFinished sources nets unit order → IsWithinLimit sources unit → (i : Instance) → Contains (own_instances tree) i → i.kind ≡ Subapplication → IsFinished (declared sources) nets i.type_name
  own_finished nets tree present all small i c k =
      let m = own_within sources unit tree present i c in
      let other = small.holds.present in
      let same : small.holds.tree ≡ tree = cc in
      let instances = subst (λ (d : DeclTree). AreInstances (declared sources) (own_instances d) small.held) same small.holds.instances in
      all i.type_name (o.parts i.type_name m) (apart unit i.type_name o.own m) (own_kind sources unit tree (o.names.sound unit o.own) present i c k) (inner_small i instances small.within c k)

  -- what is composed of a type that has a net, which is a subapplication
  pub flat_of_type_is : {nets : Nets} {flat : PlainFlat} (tree : DeclTree) → HasNet sources unit → tree_at sources unit ≡ Some tree → is_system_tree tree ≡ false → AllFinished sources nets unit order → IsWithinLimit sources unit → IsComposed table nets unit flat → IsUnitFlat sources unit flat
  flat_of_type_is {nets = nets} {flat = flat} tree net present no_system all small made =
      let own : declared sources unit ≡ Some (network_of tree) = ap (option_map network_of) present in
      let there = made.there in
      let has = (t.types unit o.own).network (network_of tree) own in
      let same : network_of tree ≡ made.network = cc in
      let d : declared sources unit ≡ Some made.network = own ∙ ap (λ (n : PlainNetwork). Some n) same in
      let finished : AreFinished (declared sources) made.network nets = λ i h k.
      own_finished nets tree present all small i
      (subst (λ (l : List Instance). Contains l i) (own_of_type tree no_system) (subst (λ (n : PlainNetwork). Contains n.instances i) (sym same) h)) k in
      let fit = type_composable o.names t unit made.network o.own there (λ i h. o.parts i.type_name ((declared_within sources unit made.network d).types i h)) finished in
      elim net [
        | inl k ↦ OfSubapplication made.network k d (made.whole (declared sources) fit.same fit.clean fit.finished)
        | inr k ↦ absurd (not_system tree no_system (sym (ap (option_map unit_kind_of) present) ∙ k))
      ]

  -- what is composed of the applications of a system
  pub flat_of_system_is : (nets : Nets) {flat : PlainFlat} (tree : DeclTree) → tree_at sources unit ≡ Some tree → is_system_tree tree ≡ true → AllFinished sources nets unit order → IsWithinLimit sources unit → AreComposedTogether table nets (applications_of tree) flat → IsUnitFlat sources unit flat
  flat_of_system_is nets tree present system all small together =
      let f = together (declared sources) (λ a c. application_composable o.names t unit tree o.own o.parts present a c (λ i h k. own_finished nets tree present all small i (own_of_application tree a i c h) k)) in
      OfSystem (applications_of tree) f.flats (ap (option_map unit_kind_of) present ∙ is_system tree system) (system_applications sources unit tree present) f.each f.joined
