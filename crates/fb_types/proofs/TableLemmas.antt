-- One more name of a table.
use Rattle.std.proofs.Common.{ℕ, ◌≡◌, ◌<◌, ◌+◌, true, false, is_some, List, [], ◌∷◌, ◌++◌, Option, Some, None, inl, inr, sym, ◌∙◌, ap, subst, take, get_or, length, add-one, arith}
use Rattle.std.proofs.{lemmas.List.Elements.{Contains-push_cases}, Math.Seq.{take-suc}}
use Rattle.std.specs.{BTreeMap.{is_at}}
use Rattle.fb_tree.specs.Text.Order.{name_cmp}
use Rattle.fb_iface.specs.Library.View.{Sources}
use Rattle.fb_network.specs.{declared.network.Port.{Port}, Plain.{PlainNetwork}, Network.{View}}
use Rattle.fb_network.proofs.Equals.{same_bytes}
use Rattle.fb_tree.proofs.{Text.Members.{contains_nothing}, Text.Tests.{by_bool}}
use Rattle.fb_types.specs.{ByName.{declared}, Tables.{Grows, Has, HasAdapter, HasAdapters, HasType, IsTable, IsDeclaredIn}}

pub nothing_true : (sources : Sources) (table : View) → ((name : List ℕ) → table name ≡ None) → IsDeclaredIn sources table
nothing_true sources table none name network e = let n = none name in absurd (let no : ⊥ = cc in no)

pub grows_none : {sources : Sources} {table : View} → IsDeclaredIn sources table → Grows sources table table
grows_none is_true = record { is_true = is_true; keeps = λ q h. h }

pub grows_both : {sources : Sources} {a b c : View} → Grows sources a b → Grows sources b c → Grows sources a c
grows_both g h = record { is_true = h.is_true; keeps = λ q k. h.keeps q (g.keeps q k) }

-- a name that is not declared
pub has_none : (sources : Sources) (table : View) (name : List ℕ) → declared sources name ≡ None → Has sources table name
has_none sources table name none network d = absurd (let no : ⊥ = cc in no)

-- a name that is in the table
pub has_there : (sources : Sources) (table : View) (name : List ℕ) → IsDeclaredIn sources table → is_some (table name) ≡ true → Has sources table name
has_there sources table name is_true some network d = grind (arith, is_true name)

-- a name whose network is added
module _ (sources : Sources) (old new : View) (name : List ℕ) (network : PlainNetwork) (d : declared sources name ≡ Some network) (is : new name ≡ Some network) (others : (q : List ℕ) → is_at (name_cmp name) q ≡ false → new q ≡ old q) where
  pub put_has : Has sources new name
  put_has it e = is ∙ sym d ∙ e

  pub put_grows : IsDeclaredIn sources old → Grows sources old new
  put_grows old_true = record {
    is_true = λ q it e. by_bool (is_at (name_cmp name) q)
        (λ s. let same = same_bytes name q s in ap (declared sources) (sym same) ∙ d ∙ sym is ∙ ap new same ∙ e)
        (λ f. old_true q it (sym (others q f) ∙ e));
    keeps = λ q had it e. by_bool (is_at (name_cmp name) q)
        (λ s. let same = same_bytes name q s in ap new (sym same) ∙ is ∙ sym d ∙ ap (declared sources) same ∙ e)
        (λ f. others q f ∙ had it e);
  }

-- the adapter of a port
pub adapter_is : (sources : Sources) (table : View) (adapter : Option (List ℕ)) (name : List ℕ) → adapter ≡ Some name → Has sources table name → HasAdapter sources table adapter
adapter_is sources table adapter name is has other e = let same : name ≡ other = cc in subst (λ (n : List ℕ). Has sources table n) same has

pub adapter_none : (sources : Sources) (table : View) (adapter : Option (List ℕ)) → adapter ≡ None → HasAdapter sources table adapter
adapter_none sources table adapter is name e = absurd (let no : ⊥ = cc in no)

-- ports
pub adapters_nothing : (sources : Sources) (table : View) → HasAdapters sources table []
adapters_nothing sources table port c name e = absurd (contains_nothing port c)

pub adapters_kept : {sources : Sources} {old new : View} (ports : List Port) → Grows sources old new → HasAdapters sources old ports → HasAdapters sources new ports
adapters_kept ports grows has port c name e = grows.keeps name (has port c name e)

-- one port further
pub adapters_more : (sources : Sources) (table : View) (ports : List Port) (port : Port) → HasAdapters sources table ports → HasAdapter sources table port.adapter → HasAdapters sources table (ports ++ port ∷ [])
adapters_more sources table ports port all one q c name e =
    elim (Contains-push_cases ports port q c) [ inl h ↦ all q h name e | inr s ↦ one name (ap (λ (p : Port). p.adapter) s ∙ e) ]

-- types
pub type_kept : {sources : Sources} {old new : View} (name : List ℕ) → Grows sources old new → HasType sources old name → HasType sources new name
type_kept name grows has = record { network = grows.keeps name has.network; adapters = λ network d. adapters_kept network.ports grows (has.adapters network d) }

pub type_none : {sources : Sources} (table : View) (name : List ℕ) → declared sources name ≡ None → HasType sources table name
type_none {sources = sources} table name none = record { network = has_none sources table name none; adapters = λ network d. absurd (let no : ⊥ = cc in no) }

-- the network of the type, where the adapters of its ports are there
pub type_is : {sources : Sources} {table : View} (name : List ℕ) (network : PlainNetwork) → declared sources name ≡ Some network → Has sources table name → HasAdapters sources table network.ports → HasType sources table name
type_is {sources = sources} {table = table} name network d has adapters =
    record { network = has; adapters = λ it e. let same : network ≡ it = cc in subst (λ (n : PlainNetwork). HasAdapters sources table n.ports) same adapters }

pub table_nothing : {sources : Sources} (table : View) → IsDeclaredIn sources table → IsTable sources table []
table_nothing table is_true = record { is_true = is_true; types = λ name c. absurd (contains_nothing name c) }

-- one type further
pub table_more : {sources : Sources} {old new : View} (names : List (List ℕ)) (name : List ℕ) → IsTable sources old names → Grows sources old new → HasType sources new name → IsTable sources new (names ++ name ∷ [])
table_more {sources = sources} {new = new} names name t grows has = record {
  is_true = grows.is_true;
  types = λ q c. elim (Contains-push_cases names name q c) [ inl h ↦ type_kept q grows (t.types q h) | inr s ↦ subst (λ (n : List ℕ). HasType sources new n) s has ];
}

-- one element further
pub further : {X : Type 0} (list : List X) (i : ℕ) (x : X) → i < length list → x ≡ get_or list i x → take i list ++ x ∷ [] ≡ take (i + 1) list
further {X = X} list i x lt e = ap (λ (y : X). take i list ++ y ∷ []) e ∙ sym (take-suc list i x lt) ∙ ap (λ (n : ℕ). take n list) (sym (add-one i))
