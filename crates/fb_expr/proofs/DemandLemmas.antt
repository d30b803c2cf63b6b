-- The faults of a block type are those of its demands that are not met.
use Rattle.std.proofs.Common.{◌≡◌, Bool, true, false, true≢false, not, ◌||◌, ◌⊎◌, inl, inr, List, [], ◌∷◌, ◌++◌, Option, Some, None, refl, sym, ap, subst, ◌∙◌, append-nil, append_assoc, arith, if◌then◌else◌}
use Rattle.std.proofs.lemmas.Grind.{flat_map-append}
use Rattle.std.proofs.lemmas.List.Elements.{Contains-append_cases, Contains-append_left, Contains-append_right, Contains-push_cases}
use Rattle.std.specs.{List.{Contains, flat_map}, Option.{option_map_or}}
use Rattle.fb_tree.specs.{Text.declared.name.NameUse.{NameUse}, Text.declared.token.Span.{Span}}
use Rattle.fb_tree.specs.Expression.{ReferenceTree, alone_tree, Expression, literal_expression, reference_expression, unary_expression, row_expression, parentheses, Expressions, no_expressions, expression_then, Operands, no_operands, operand_then}
use Rattle.fb_tree.specs.Statement.{Statement, empty, assignment, exit, return, choice, selection, count, while_loop, repeat_loop, Statements, no_statements, statement_then, Arms, no_arms, arm_then, statements_of}
use Rattle.fb_tree.specs.{Tree.{AlgorithmTree, ChartTree, ConditionTree, always, on_event, guarded, guard, TransitionTree}, declared.reference.Member.{Member}}
use Rattle.fb_iface.specs.{Names.{stands_for}, declared.classes.Class.{Class as ValueClass}, declared.code.Code.TheVariants.{MemberUnknown, VariableUnknown}}
use Rattle.fb_iface.specs.declared.fault.Fault.{Fault}
use Rattle.fb_expr.specs.{Charts.{algorithm_faults, expression_faults, faults_in_unit, guard_faults, transition_faults}, Classes.{pair_class}}
use Rattle.fb_expr.specs.Demands.{Demand, names_field, names_variable, suits_operand, suits_operands, suits_place, assigns, is_field, is_known, is_met, fault_of, referent_through, field_demands, reference_demands, demands_in, row_demands, subscript_demands, demands_at, counter_demands, range_demands, assignment_demands, statement_demands, statements_demands, arms_demands, guard_demands, transition_demands, algorithm_demands, chart_demands, IsUnmet, FaultsAreUnmet}
use Rattle.fb_expr.specs.{Expressions.{class_in, faults_in, row_faults, subscript_faults}, Names.{Names, names_of_type}}
use Rattle.fb_expr.specs.{References.{is_some_count, reference_faults, referent_of}, Spans.{names_span}}
use Rattle.fb_expr.specs.Statements.{arms_faults, assignment_faults, counter_faults, faults_at_place, range_faults, statement_faults, statements_faults}
use Rattle.fb_expr.specs.{declared.references.Referent.{Referent}, declared.references.Referent.TheVariants.{Variable, Unjudged, Unknown, NoMember}}
use Rattle.fb_expr.specs.{declared.rules.ClassPlace.{ClassPlace}, declared.rules.ClassPlace.TheVariants.{Condition, Count, Counter, Selector}}
use Rattle.fb_expr.proofs.MemberLemmas.{Next, goes_on, fails, failed, next, own_field, stays}

-- a name that is no field
abbrev member_faults : Referent → List Fault
member_faults (Variable used subscripted) = []
member_faults Unjudged = []
member_faults Unknown = []
member_faults (NoMember at) = record { code = MemberUnknown; span = at } ∷ []

either_fault : (referent : Referent) (span : Span) → reference_faults referent span ≡ (if is_known referent then [] else record { code = VariableUnknown; span = span } ∷ []) ++ member_faults referent
either_fault (Variable used subscripted) span = refl
either_fault Unjudged span = refl
either_fault Unknown span = refl
either_fault (NoMember at) span = refl

-- the same where all names before are fields
abbrev newly : Bool → Referent → List Fault
newly fields referent = if fields then member_faults referent else []

none_newly : (referent : Referent) → newly (is_field referent) referent ≡ []
none_newly (Variable used subscripted) = refl
none_newly Unjudged = refl
none_newly Unknown = refl
none_newly (NoMember at) = refl

abbrev at_name : Bool → Bool → Span → List Fault
at_name before through span = if through || not before then [] else record { code = MemberUnknown; span = span } ∷ []

-- one further name, and those behind it
newly_next : (before through last : Referent) (m : Member) → Next before through m → ((at : Span) → through ≡ NoMember at → last ≡ NoMember at) → newly (is_field before) last ≡ at_name (is_field before) (is_field through) m.name.span ++ newly (is_field through) last
newly_next before through last m (goes_on p q) stays = (λ i. newly (p i) last) ∙ sym (λ i. at_name (p i) (q i) m.name.span ++ newly (q i) last)
newly_next before through last m (fails p q) stays =
    let end = stays m.name.span q in
    (λ i. newly (p i) (end i)) ∙ sym (λ i. at_name (p i) (is_field (q i)) m.name.span ++ newly (is_field (q i)) last)
newly_next before through last m (failed p q) stays = (λ i. newly (p i) last) ∙ sym (λ i. at_name (p i) (q i) m.name.span ++ newly (q i) last)

module _ (names : Names) where
  -- the fault of a demand, where it is not met
  abbrev of_one : Demand → List Fault
  of_one demand = if is_met names demand then [] else fault_of demand ∷ []

  abbrev of_all : List Demand → List Fault
  of_all demands = flat_map of_one demands

  joined : (a b : List Demand) (x y : List Fault) → x ≡ of_all a → y ≡ of_all b → x ++ y ≡ of_all (a ++ b)
  joined a b x y p q = (λ i. p i ++ q i) ∙ sym (flat_map-append of_one a b)

  -- one more demand between two lists
  between : (a : List Demand) (demand : Demand) (b : List Demand) (x z : List Fault) → x ≡ of_all a → z ≡ of_all b → (x ++ of_one demand) ++ z ≡ of_all (a ++ demand ∷ b)
  between a demand b x z p q =
      append_assoc x (of_one demand) z
      ∙ joined a (demand ∷ b) x (of_one demand ++ z) p (ap (λ l. of_one demand ++ l) q)

  -- one more demand at the end
  last : (a : List Demand) (demand : Demand) (x : List Fault) → x ≡ of_all a → x ++ of_one demand ≡ of_all (a ++ demand ∷ [])
  last a demand x p = joined a (demand ∷ []) x (of_one demand) p (sym (append-nil (of_one demand)))

  in_fields : (r : ReferenceTree) (before ms : List Member) → newly (is_field (referent_through names r before)) (referent_through names r (before ++ ms)) ≡ of_all (field_demands r before ms)
  in_fields r before [] = ap (λ l. newly (is_field (referent_through names r before)) (referent_through names r l)) (append-nil before) ∙ none_newly (referent_through names r before)
  in_fields r before (m ∷ ms) =
      let through = before ++ m ∷ [] in
      ap (λ l. newly (is_field (referent_through names r before)) (referent_through names r l)) (sym (append_assoc before (m ∷ []) ms))
      ∙ newly_next (referent_through names r before) (referent_through names r through) (referent_through names r (through ++ ms)) m (next names r before m) (stays names r through ms)
      ∙ ap (λ l. of_one (names_field r before m) ++ l) (in_fields r through ms)

  in_reference : (r : ReferenceTree) → reference_faults (referent_of names r) (names_span r) ≡ of_all (reference_demands r)
  in_reference r =
      let first = own_field (stands_for names.scope.own.variables r.name.name) (is_some_count r.subscripts) in
      either_fault (referent_of names r) (names_span r)
      ∙ ap (λ l. of_one (names_variable r) ++ l) (ap (λ fields. newly fields (referent_of names r)) (sym first) ∙ in_fields r [] r.members)

  mutual
    in_expression : (e : Expression) → faults_in names e ≡ of_all (demands_in names e)
    in_expression (literal_expression l) = refl
    in_expression (reference_expression r subscripts) = joined (reference_demands r) (subscript_demands names subscripts) (reference_faults (referent_of names r) (names_span r)) (subscript_faults names subscripts) (in_reference r) (in_subscripts subscripts)
    in_expression (unary_expression used e) = last (demands_in names e) (suits_operand used e) (faults_in names e) (in_expression e)
    in_expression (row_expression e operands) =
        joined (demands_in names e) (row_demands names (class_in names e) operands) (faults_in names e) (row_faults names (class_in names e) operands) (in_expression e) (in_row (class_in names e) operands)
    in_expression (parentheses e span) = in_expression e

    in_row : (left : ValueClass) (operands : Operands) → row_faults names left operands ≡ of_all (row_demands names left operands)
    in_row left no_operands = refl
    in_row left (operand_then used e operands) =
        let after = pair_class used.operator left (class_in names e) in
        between (demands_in names e) (suits_operands used left e) (row_demands names after operands) (faults_in names e) (row_faults names after operands) (in_expression e) (in_row after operands)

    in_subscripts : (subscripts : Expressions) → subscript_faults names subscripts ≡ of_all (subscript_demands names subscripts)
    in_subscripts no_expressions = refl
    in_subscripts (expression_then e others) =
        between (demands_in names e) (suits_place Count e) (subscript_demands names others) (faults_in names e) (subscript_faults names others) (in_expression e) (in_subscripts others)

  at_place : (place : ClassPlace) (e : Expression) → faults_at_place place names e ≡ of_all (demands_at place names e)
  at_place place e = last (demands_in names e) (suits_place place e) (faults_in names e) (in_expression e)

  in_counter : (name : NameUse) → counter_faults names name ≡ of_all (counter_demands name)
  in_counter name =
      let counter = suits_place Counter (reference_expression (alone_tree name) no_expressions) in
      joined (reference_demands (alone_tree name)) (counter ∷ []) (reference_faults (referent_of names (alone_tree name)) name.span) (of_one counter) (in_reference (alone_tree name)) (sym (append-nil (of_one counter)))

  in_step : (by : Option Expression) → option_map_or (faults_at_place Count names) by [] ≡ of_all (option_map_or (demands_at Count names) by [])
  in_step None = refl
  in_step (Some e) = at_place Count e

  in_range : (from to : Expression) (by : Option Expression) → range_faults names from to by ≡ of_all (range_demands names from to by)
  in_range from to by =
      joined (demands_at Count names from ++ demands_at Count names to) (option_map_or (demands_at Count names) by []) (faults_at_place Count names from ++ faults_at_place Count names to) (option_map_or (faults_at_place Count names) by [])
      (joined (demands_at Count names from) (demands_at Count names to) (faults_at_place Count names from) (faults_at_place Count names to) (at_place Count from) (at_place Count to))
      (in_step by)

  in_assignment : (variable : Expression) (place : Span) (value : Expression) → assignment_faults names variable place value ≡ of_all (assignment_demands names variable place value)
  in_assignment variable place value =
      last (demands_in names variable ++ demands_in names value) (assigns variable place value) (faults_in names variable ++ faults_in names value)
      (joined (demands_in names variable) (demands_in names value) (faults_in names variable) (faults_in names value) (in_expression variable) (in_expression value))

  mutual
    in_statement : (s : Statement) → statement_faults names s ≡ of_all (statement_demands names s)
    in_statement empty = refl
    in_statement (assignment r subscripts place value) = in_assignment (reference_expression r subscripts) place value
    in_statement exit = refl
    in_statement return = refl
    in_statement (choice arms otherwise) =
        joined (arms_demands names arms) (statements_demands names otherwise) (arms_faults names arms) (statements_faults names otherwise) (in_arms arms) (in_statements otherwise)
    in_statement (selection selector cases otherwise) =
        joined (demands_at Selector names selector ++ statements_demands names cases) (statements_demands names otherwise) (faults_at_place Selector names selector ++ statements_faults names cases) (statements_faults names otherwise)
        (joined (demands_at Selector names selector) (statements_demands names cases) (faults_at_place Selector names selector) (statements_faults names cases) (at_place Selector selector) (in_statements cases))
        (in_statements otherwise)
    in_statement (count name from to by body) =
        joined (counter_demands name ++ range_demands names from to by) (statements_demands names body) (counter_faults names name ++ range_faults names from to by) (statements_faults names body)
        (joined (counter_demands name) (range_demands names from to by) (counter_faults names name) (range_faults names from to by) (in_counter name) (in_range from to by))
        (in_statements body)
    in_statement (while_loop condition body) =
        joined (demands_at Condition names condition) (statements_demands names body) (faults_at_place Condition names condition) (statements_faults names body) (at_place Condition condition) (in_statements body)
    in_statement (repeat_loop body condition) =
        joined (statements_demands names body) (demands_at Condition names condition) (statements_faults names body) (faults_at_place Condition names condition) (in_statements body) (at_place Condition condition)

    in_statements : (ss : Statements) → statements_faults names ss ≡ of_all (statements_demands names ss)
    in_statements no_statements = refl
    in_statements (statement_then s others) =
        joined (statement_demands names s) (statements_demands names others) (statement_faults names s) (statements_faults names others) (in_statement s) (in_statements others)

    in_arms : (arms : Arms) → arms_faults names arms ≡ of_all (arms_demands names arms)
    in_arms no_arms = refl
    in_arms (arm_then condition body others) =
        joined (demands_at Condition names condition ++ statements_demands names body) (arms_demands names others) (faults_at_place Condition names condition ++ statements_faults names body) (arms_faults names others)
        (joined (demands_at Condition names condition) (statements_demands names body) (faults_at_place Condition names condition) (statements_faults names body) (at_place Condition condition) (in_statements body))
        (in_arms others)

  in_guard : (condition : ConditionTree) → guard_faults names condition ≡ of_all (guard_demands names condition)
  in_guard (always span) = refl
  in_guard (on_event event) = refl
  in_guard (guarded event test) = at_place Condition test
  in_guard (guard test) = at_place Condition test

  in_transitions : (ts : List TransitionTree) → flat_map (transition_faults names) ts ≡ of_all (flat_map (transition_demands names) ts)
  in_transitions [] = refl
  in_transitions (t ∷ ts) =
      joined (transition_demands names t) (flat_map (transition_demands names) ts) (transition_faults names t) (flat_map (transition_faults names) ts) (in_guard t.condition) (in_transitions ts)

  in_algorithms : (algorithms : List AlgorithmTree) → flat_map (algorithm_faults names) algorithms ≡ of_all (flat_map (algorithm_demands names) algorithms)
  in_algorithms [] = refl
  in_algorithms (a ∷ others) =
      joined (algorithm_demands names a) (flat_map (algorithm_demands names) others) (algorithm_faults names a) (flat_map (algorithm_faults names) others) (in_statements (statements_of a.statements)) (in_algorithms others)

  in_chart : (c : ChartTree) → expression_faults names c ≡ of_all (chart_demands names c)
  in_chart c =
      joined (flat_map (transition_demands names) c.transitions) (flat_map (algorithm_demands names) c.algorithms) (flat_map (transition_faults names) c.transitions) (flat_map (algorithm_faults names) c.algorithms) (in_transitions c.transitions) (in_algorithms c.algorithms)

  -- a demand gives its fault where it is not met, and no other
  one_unmet : (demand : Demand) (f : Fault) (met : Bool) → Contains (if met then [] else fault_of demand ∷ []) f → (met ≡ false) × (f ≡ fault_of demand)
  one_unmet demand f true h = absurd (omega (arith, h.1))
  one_unmet demand f false h = (refl, by (Contains-push_cases [] (fault_of demand) f h))
    where
      by : Contains [] f ⊎ (fault_of demand ≡ f) → f ≡ fault_of demand
      by (inl none) = absurd (omega (arith, none.1))
      by (inr same) = sym same

  one_there : (demand : Demand) (f : Fault) (met : Bool) → met ≡ false → f ≡ fault_of demand → Contains (if met then [] else fault_of demand ∷ []) f
  one_there demand f true unmet e = absurd (true≢false unmet)
  one_there demand f false unmet e = subst (λ (g : Fault). Contains (fault_of demand ∷ []) g) (sym e) (0, omega arith, refl)

  found_first : (demand : Demand) (others : List Demand) (f : Fault) → (is_met names demand ≡ false) × (f ≡ fault_of demand) → IsUnmet names (demand ∷ others) f
  found_first demand others f it = (demand, (0, omega arith, refl), it.0, it.1)

  found_later : (demand : Demand) (others : List Demand) (f : Fault) → IsUnmet names others f → IsUnmet names (demand ∷ others) f
  found_later demand others f u = (u.0, Contains-append_right (demand ∷ []) others u.0 u.1, u.2, u.3)

  found_either : (demand : Demand) (others : List Demand) (f : Fault) → (Contains (of_all others) f → IsUnmet names others f) → Contains (of_one demand) f ⊎ Contains (of_all others) f → IsUnmet names (demand ∷ others) f
  found_either demand others f more (inl here) = found_first demand others f (one_unmet demand f (is_met names demand) here)
  found_either demand others f more (inr there) = found_later demand others f (more there)

  unmet_found : (demands : List Demand) (f : Fault) → Contains (of_all demands) f → IsUnmet names demands f
  unmet_found [] f h = absurd (omega (arith, h.1))
  unmet_found (demand ∷ others) f h = found_either demand others f (unmet_found others f) (Contains-append_cases (of_one demand) (of_all others) f h)

  only_one : (demand x : Demand) → Contains (demand ∷ []) x → demand ≡ x
  only_one demand x h = by (Contains-push_cases [] demand x h)
    where
      by : Contains [] x ⊎ (demand ≡ x) → demand ≡ x
      by (inl none) = absurd (omega (arith, none.1))
      by (inr same) = same

  there_either : (demand : Demand) (others : List Demand) (f : Fault) (u : IsUnmet names (demand ∷ others) f) → (IsUnmet names others f → Contains (of_all others) f) → Contains (demand ∷ []) u.0 ⊎ Contains others u.0 → Contains (of_one demand ++ of_all others) f
  there_either demand others f u more (inl here) =
      let same : demand ≡ u.0 = only_one demand u.0 here in
      Contains-append_left (of_one demand) (of_all others) f (one_there demand f (is_met names demand) (ap (is_met names) same ∙ u.2) (u.3 ∙ ap fault_of (sym same)))
  there_either demand others f u more (inr there) = Contains-append_right (of_one demand) (of_all others) f (more (u.0, there, u.2, u.3))

  unmet_there : (demands : List Demand) (f : Fault) → IsUnmet names demands f → Contains (of_all demands) f
  unmet_there [] f u = absurd (omega (arith, u.1.1))
  unmet_there (demand ∷ others) f u = there_either demand others f u (unmet_there others f) (Contains-append_cases (demand ∷ []) others u.0 u.1)

pub faults_unmet : FaultsAreUnmet
faults_unmet sources unit d is f =
    let names = names_of_type sources unit d in
    let same = ap (faults_in_unit sources unit) is ∙ in_chart names d.chart in
    (λ h. unmet_found names (chart_demands names d.chart) f (subst (λ (l : List Fault). Contains l f) same h), λ u. subst (λ (l : List Fault). Contains l f) (sym same) (unmet_there names (chart_demands names d.chart) f u))
