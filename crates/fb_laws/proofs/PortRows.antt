-- Places in a list of rows, the data inputs and outputs of a type, and its ports once and in order.
use Rattle.fb_laws.proofs.Common.{◌≡◌, zero, suc, ℕ, ◌+◌, ◌-◌, ◌<◌, ◌≤◌, List, [], ◌∷◌, length, Some, refl, sym, ◌∙◌, ◌⊎◌, inl, inr, arith, flat_map, slice_get, cases_lt, cases_order, slice_get_within, Cell, IsBefore, in_earlier_row, in_same_row, ◌≢◌, ◌↔◌, Bool, ap, subst, NameUse, InterfaceTree, VariablesTree, Section, Side, TypeUse, DeclaredVariable, first_ones, stands_for, variables_in, variables_together, is_data_on, IsDataOn, IsFirstVariable, IsVariableIn, data_input, data_output, of_block, AreExactly, ComeAsDeclared, DataAreDeclared, got_in_map, map_gets, Input, Output, TypeTree, adapter_type, block_type, subapplication_type, meanings_in_type, ComeAsDeclaredEach, DeclaredEvent, DeclaredInstance, events_in, instances_in, same_role, same_side, HaveOwnNamesEach, InternalVariablesAreNoPorts, NamesStandForFirst, PortsComeAsDeclared, PortsHaveOwnNames, StandForFirst}
use Rattle.fb_types.proofs.Network.Readings.{get_left, get_right}
use Rattle.fb_laws.proofs.FirstLemmas.{IsFirst, IsPort, NoneBefore, among_ports, first_stands, in_turn, is_port, ports, stands_first, once}
use Rattle.fb_laws.proofs.ItemRows.{adapters_in_turn, events_in_turn, events_stand, instances_stand}
use Rattle.fb_laws.specs.Declared.{StandsAt}
use Rattle.fb_tree.specs.declared.interface.Section.TheVariants as sections

module _ {X Y : Type 0} (f : X → List Y) where
  -- the number of a place among all
  pub number_of : List X → ℕ → ℕ → ℕ
  number_of (x ∷ xs) (suc row) column = length (f x) + number_of xs row column
  number_of xs row column = column

  -- what is at a place of the rows
  pub record IsAt (xs : List X) (row column : ℕ) (y : Y) : Type 0 where
    pub item : X
    pub row_there : slice_get xs row ≡ Some item
    pub there : slice_get (f item) column ≡ Some y

  -- a place of this number
  pub record InRows (xs : List X) (k : ℕ) (y : Y) : Type 0 where
    pub row : ℕ
    pub column : ℕ
    pub is_at : IsAt xs row column y
    pub number : k ≡ number_of xs row column

  pub in_rows : (xs : List X) (k : ℕ) (y : Y) → slice_get (flat_map f xs) k ≡ Some y → InRows xs k y
  unfolding number_of
  in_rows [] k y e = absurd (let no : ⊥ = cc in no)
  in_rows (x ∷ xs) k y e = by (cases_lt k (length (f x))) (λ j h. in_rows xs j y h)
    where
      by : (k < length (f x)) ⊎ (length (f x) ≤ k) → ((j : ℕ) → slice_get (flat_map f xs) j ≡ Some y → InRows xs j y) → InRows (x ∷ xs) k y
      by (inl inside) more = record { row = 0; column = k; is_at = record { item = x; row_there = refl; there = sym (get_left (f x) (flat_map f xs) k inside) ∙ e }; number = refl }
      by (inr past) more =
          let p = more (k - length (f x)) (sym (get_right (f x) (flat_map f xs) (k - length (f x)) k (omega (arith, past))) ∙ e) in
          let number : k - length (f x) ≡ number_of xs p.row p.column = p.number in
          record { row = suc p.row; column = p.column; is_at = record { item = p.is_at.item; row_there = p.is_at.row_there; there = p.is_at.there }; number = omega (arith, past, number) }

  pub at_number : (xs : List X) (row column : ℕ) (y : Y) → IsAt xs row column y → slice_get (flat_map f xs) (number_of xs row column) ≡ Some y
  unfolding number_of
  at_number [] row column y o = absurd (let h = o.row_there in let no : ⊥ = cc in no)
  at_number (x ∷ xs) zero column y o = grind (arith, get_left, slice_get_within)
  at_number (x ∷ xs) (suc row) column y o = grind (arith, get_right, at_number xs row column y)

  rise_together : (xs : List X) (row column row' column' : ℕ) (y : Y) → IsAt xs row column y → (row < row') ⊎ ((row ≡ row') × (column < column')) → number_of xs row column < number_of xs row' column'
  unfolding number_of
  rise_together [] row column row' column' y o less = absurd (let h = o.row_there in let no : ⊥ = cc in no)
  rise_together (x ∷ xs) zero column zero column' y o less = omega arith
  rise_together (x ∷ xs) zero column (suc row') column' y o less = grind (arith, slice_get_within)
  rise_together (x ∷ xs) (suc row) column zero column' y o less = absurd (omega arith)
  rise_together (x ∷ xs) (suc row) column (suc row') column' y o less = grind (arith, rise_together xs row column row' column' y)

  pub numbers_in_turn : (xs : List X) (a b : Cell) (y : Y) → IsAt xs a.row a.column y → IsBefore a b → number_of xs a.row a.column < number_of xs b.row b.column
  numbers_in_turn xs a b y o (in_earlier_row less) = rise_together xs a.row a.column b.row b.column y o (inl less)
  numbers_in_turn xs a b y o (in_same_row same less) = rise_together xs a.row a.column b.row b.column y o (inr (same, less))

  pub before_by_numbers : (xs : List X) (a b : Cell) (y : Y) → IsAt xs b.row b.column y → number_of xs a.row a.column < number_of xs b.row b.column → IsBefore a b
  before_by_numbers xs a b y o less =
      let rows = cases_order a.row b.row in
      let columns = cases_order a.column b.column in
      let not_after : IsBefore b a → ⊥ = λ h. let more = numbers_in_turn xs b a y o h in omega (arith, less, more) in
      grind (arith, in_earlier_row, not_after, in_same_row)

abbrev meaning_of : VariablesTree → DeclaredVariable
meaning_of v = record { section = v.section; type_use = v.type_use }

abbrev declared_as : VariablesTree → NameUse → List ℕ × DeclaredVariable
declared_as v n = (n.name, meaning_of v)

module _ (i : InterfaceTree) where
  abbrev number : Cell → ℕ
  number p = number_of variables_together i.variables p.row p.column

  abbrev is_there : (p : Cell) (row : VariablesTree) (n : NameUse) → StandsAt i p row n → IsAt variables_together i.variables p.row p.column (declared_as row n)
  is_there p row n s = record { item = row; row_there = s.row_there; there = map_gets (declared_as row) row.names p.column n s.name_there }

  listed : (p : Cell) (row : VariablesTree) (n : NameUse) → StandsAt i p row n → slice_get (variables_in i) (number p) ≡ Some (declared_as row n)
  listed p row n s = at_number variables_together i.variables p.row p.column (declared_as row n) (is_there p row n s)

  -- what is declared at a number, by its place
  record IsVariable (k : ℕ) (x : List ℕ × DeclaredVariable) : Type 0 where
    place : Cell
    row : VariablesTree
    spelled : NameUse
    stands : StandsAt i place row spelled
    is : declared_as row spelled ≡ x
    numbered : k ≡ number place

  variable_at : (k : ℕ) (x : List ℕ × DeclaredVariable) → slice_get (variables_in i) k ≡ Some x → IsVariable k x
  variable_at k x e =
      let o = in_rows variables_together i.variables k x e in
      let row = o.is_at.item in
      let n = got_in_map (declared_as row) row.names o.column x o.is_at.there in
      record { place = record { row = o.row; column = o.column }; row = row; spelled = n.0; stands = record { row_there = o.is_at.row_there; name_there = n.1 }; is = n.2; numbered = o.number }

  abbrev variable_of : (name : List ℕ) (m : DeclaredVariable) (o : IsFirst (variables_in i) name m) → IsVariable o.place (name, m)
  variable_of name m o = variable_at o.place (name, m) o.there

  none_earlier : (name : List ℕ) (m : DeclaredVariable) (o : IsFirst (variables_in i) name m) (earlier : Cell) (row : VariablesTree) (other : NameUse) → IsBefore earlier (variable_of name m o).place → StandsAt i earlier row other → other.name ≢ name
  none_earlier name m o earlier row other before stands =
      let v = variable_of name m o in
      let less : number earlier < number v.place = numbers_in_turn variables_together i.variables earlier v.place (declared_as row other) (is_there earlier row other stands) before in
      o.first (number earlier) (declared_as row other) (subst (λ (n : ℕ). number earlier < n) (sym v.numbered) less) (listed earlier row other stands)

  abbrev first_of : (name : List ℕ) (m : DeclaredVariable) (o : IsFirst (variables_in i) name m) → IsFirstVariable i name (variable_of name m o).place
  first_of name m o =
      let v = variable_of name m o in
      record { row = v.row; spelled = v.spelled; there = v.stands; named = ap (λ (x : List ℕ × DeclaredVariable). x.0) v.is; first = none_earlier name m o }

  is_variable : (section : Section) (name : List ℕ) (type_use : TypeUse) (m : DeclaredVariable) → m.section ≡ section → m.type_use ≡ type_use → IsFirst (variables_in i) name m → IsVariableIn i section name type_use
  is_variable section name type_use m s t o =
      let v = variable_of name m o in
      record { place = v.place; declared = first_of name m o; in_section = ap (λ (x : List ℕ × DeclaredVariable). x.1.section) v.is ∙ s; typed = ap (λ (x : List ℕ × DeclaredVariable). x.1.type_use) v.is ∙ t }

  none_before : (name : List ℕ) (place : Cell) → IsFirstVariable i name place → NoneBefore (variables_in i) (number place) name
  none_before name place v k y less at same =
      let o = variable_at k y at in
      let earlier : number o.place < number place = subst (λ (n : ℕ). n < number place) o.numbered less in
      let before : IsBefore o.place place = before_by_numbers variables_together i.variables o.place place (declared_as v.row v.spelled) (is_there place v.row v.spelled v.there) earlier in
      v.first o.place o.row o.spelled before o.stands (ap (λ (x : List ℕ × DeclaredVariable). x.0) o.is ∙ same)

  variable_is : (section : Section) (name : List ℕ) (type_use : TypeUse) → IsVariableIn i section name type_use → IsFirst (variables_in i) name (record { section = section; type_use = type_use })
  variable_is section name type_use h =
      let v = h.declared in
      let means : meaning_of v.row ≡ record { section = section; type_use = type_use } = λ j. record { section = h.in_section j; type_use = h.typed j } in
      record { place = number h.place; there = listed h.place v.row v.spelled v.there ∙ (λ j. Some (v.named j, means j)); first = none_before name h.place v }

  pub variables_stand : (name : List ℕ) (m : DeclaredVariable) → stands_for (first_ones (variables_in i)) name ≡ Some m ↔ IsVariableIn i m.section name m.type_use
  variables_stand name m = (λ e. is_variable m.section name m.type_use m refl refl (stands_first (variables_in i) name m e), λ h. first_stands (variables_in i) name m (variable_is m.section name m.type_use h))

  module _ (side : Side) where
    abbrev stands_on : DeclaredVariable → Bool
    stands_on d = is_data_on side d.section

    abbrev type_of : DeclaredVariable → TypeUse
    type_of d = d.type_use

    pub data_in_turn : ComeAsDeclared (ports stands_on type_of (variables_in i)) (IsFirstVariable i) IsBefore
    data_in_turn j k one other before at_one at_other =
        let t = in_turn stands_on type_of (variables_in i) j k one other before at_one at_other in
        let v = variable_of one.0 t.first.meaning t.first.origin in
        let w = variable_of other.0 t.second.meaning t.second.origin in
        let less : number v.place < number w.place = subst (λ (n : ℕ). n < number w.place) v.numbered (subst (λ (n : ℕ). t.first.origin.place < n) w.numbered t.earlier) in
        let earlier = before_by_numbers variables_together i.variables v.place w.place (declared_as w.row w.spelled) (is_there w.place w.row w.spelled w.stands) less in
        record { place = v.place; later = w.place; declared = first_of one.0 t.first.meaning t.first.origin; other_declared = first_of other.0 t.second.meaning t.second.origin; earlier = earlier }

  is_data : (side : Side) (name : List ℕ) (type_use : TypeUse) → IsPort (stands_on side) (type_of side) (variables_in i) name type_use → IsDataOn i side name type_use
  is_data Input name type_use o = data_input (is_variable sections.Input name type_use o.meaning (grind arith) o.gives o.origin)
  is_data Output name type_use o = data_output (is_variable sections.Output name type_use o.meaning (grind arith) o.gives o.origin)

  data_is : (side : Side) (name : List ℕ) (type_use : TypeUse) → IsDataOn i side name type_use → IsPort (stands_on side) (type_of side) (variables_in i) name type_use
  data_is side name type_use (data_input h) = record { meaning = _; origin = variable_is sections.Input name type_use h; kept = refl; gives = refl }
  data_is side name type_use (data_output h) = record { meaning = _; origin = variable_is sections.Output name type_use h; kept = refl; gives = refl }

  data_ports : (side : Side) → AreExactly (ports (stands_on side) (type_of side) (variables_in i)) (IsDataOn i side)
  data_ports side = grind (arith, is_data, is_port, among_ports, data_is)

pub data_declared : DataAreDeclared
data_declared decl type (of_block d) side = data_ports type.interface side
data_declared decl type is side = data_ports type.interface side

once_each : (d : TypeTree) → HaveOwnNamesEach (meanings_in_type d)
once_each d = record {
  of_events = λ side. once (λ (e : DeclaredEvent). same_side e.side side) (λ e. e.type_name) (events_in d.interface);
  of_data = λ side. once (λ (v : DeclaredVariable). is_data_on side v.section) (λ v. v.type_use) (variables_in d.interface);
  of_adapters = λ role. once (λ (i : DeclaredInstance). same_role i.role role) (λ i. i.type_name) (instances_in d.network);
}

pub own_names : PortsHaveOwnNames
own_names decl = (elim decl as (λ d. HaveOwnNamesEach (Rattle.fb_deploy.specs.Iface.Ports.meanings_in d)) [ block_type d ↦ once_each d | adapter_type d ↦ once_each d | subapplication_type d ↦ once_each d | o ↦ grind arith ])

in_order : (d : TypeTree) → ComeAsDeclaredEach d (meanings_in_type d)
in_order d = record { of_events = events_in_turn d.interface; of_data = data_in_turn d.interface; of_adapters = adapters_in_turn d.network }

pub come_as_declared : PortsComeAsDeclared
come_as_declared decl type (of_block d) = in_order type
come_as_declared decl type is = in_order type

-- a name is in one section
one_section : (i : InterfaceTree) (name : List ℕ) (a b : Section) (t u : TypeUse) → IsVariableIn i a name t → IsVariableIn i b name u → a ≡ b
one_section i name a b t u v w = let rows = cases_order v.place.row w.place.row in grind (arith, in_earlier_row)

pub internal : InternalVariablesAreNoPorts
internal decl type is name type_use v side other c = let w = (data_declared decl type is side name other).0 c in grind (arith, one_section)

stand_each : (d : TypeTree) → StandForFirst d (meanings_in_type d)
stand_each d = record { of_events = events_stand d.interface; of_variables = variables_stand d.interface; of_instances = instances_stand d.network }

pub stand_for_first : NamesStandForFirst
stand_for_first decl type (of_block d) = stand_each type
stand_for_first decl type is = stand_each type
