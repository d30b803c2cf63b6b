-- What the guards and the algorithms of a block type demand, and the faults of what is not met.
use Rattle.fb_laws.proofs.Common.{arith, ◌≡◌, ℕ, false, List, [], ◌∷◌, ◌++◌, Option, Some, None, refl, sym, ap, ◌∙◌, subst, append-nil, append_assoc, option_map_or, Contains, All-contains, All-from_recursion, All-weaker, Contains-append_left, Contains-append_right, NameUse, Span, ReferenceTree, Expression, literal_expression, reference_expression, unary_expression, row_expression, parentheses, Expressions, no_expressions, expression_then, Operands, no_operands, operand_then, Statement, assignment, choice, selection, count, while_loop, repeat_loop, Statements, no_statements, statement_then, Arms, no_arms, arm_then, statements_of, ConditionTree, guarded, guard, DeclTree, TypeTree, block_type, BinaryUse, UnaryUse, Member, Sources, tree_at, Class as ValueClass, Fault, contains_flat_map, contains_nothing, origin_in_flat_map, expr_faults_of, faults_in_unit, pair_class, Demand, names_variable, names_field, suits_operand, suits_operands, suits_place, assigns, is_met, field_demands, demands_in, row_demands, subscript_demands, demands_at, range_demands, statement_demands, statements_demands, arms_demands, alone_tree, guard_demands, transition_demands, algorithm_demands, chart_demands, class_in, Names, names_of_type, HasClass, IsPairIn, first_pair, later_pair, ClassPlace, Condition, Count, Counter, Selector, IsOneOf, first_one, later_one, IsOperandOf, first_operand, later_operand, OccursIn, in_subscript, behind_operator, in_first, in_operand, IsArmOf, first_arm, later_arm, Asks, selector, while_condition, until_condition, HasExpression, value, this, in_arm, behind_else, in_case, behind_cases, in_for, in_while, in_repeat, IsAmong, in_first_statement, in_later_statement, IsNamedIn, in_reference, behind_for, IsGuardOf, with_event, IsRunIn, IsTestedIn, IsWrittenIn, in_guard, in_statement, All-contains_itself, recursion_from_All}
use Rattle.fb_laws.proofs.{ClassLemmas.{class_of, told_class}, Lists.{of_either}, RuleLemmas.{results, told_results}, Sound.{Each, each_append, each_prefix, each_rest}}
use Rattle.fb_expr.specs.Demands.{fault_of}
use Rattle.fb_expr.proofs.DemandLemmas.{faults_unmet}
use Rattle.fb_laws.specs.Occurrences.{IsWithin, alone, arm, destination, in_parentheses, itself}

-- what a block type demands
pub data DemandOf (sources : Sources) (d : TypeTree) : Demand → Type 0 where
  named : (r : ReferenceTree) → IsNamedIn d r → DemandOf sources d (names_variable r)
  field : (r : ReferenceTree) (subscripts : Expressions) (before : List Member) (m : Member) (others : List Member) → IsWrittenIn d (reference_expression r subscripts) → r.members ≡ before ++ m ∷ others → DemandOf sources d (names_field r before m)
  operator : (used : UnaryUse) (x : Expression) → IsWrittenIn d (unary_expression used x) → DemandOf sources d (suits_operand used x)
  pair : (first : Expression) (row : Operands) (start : ValueClass) (used : BinaryUse) (before : ValueClass) (x : Expression) → IsWrittenIn d (row_expression first row) → HasClass sources d first start → IsPairIn sources d used before x start row → DemandOf sources d (suits_operands used before x)
  subscript : (r : ReferenceTree) (subscripts : Expressions) (x : Expression) → IsWrittenIn d (reference_expression r subscripts) → IsOneOf x subscripts → DemandOf sources d (suits_place Count x)
  test : (x : Expression) → IsTestedIn d x → DemandOf sources d (suits_place Condition x)
  in_place : (s : Statement) (place : ClassPlace) (x : Expression) → IsRunIn d s → Asks s place x → DemandOf sources d (suits_place place x)
  of_counter : (name : NameUse) (a b : Expression) (step : Option Expression) (body : Statements) → IsRunIn d (count name a b step body) → DemandOf sources d (suits_place Counter (reference_expression (alone_tree name) no_expressions))
  of_assignment : (r : ReferenceTree) (subscripts : Expressions) (place : Span) (e : Expression) → IsRunIn d (assignment r subscripts place e) → DemandOf sources d (assigns (reference_expression r subscripts) place e)

module _ (sources : Sources) (unit : List ℕ) (d : TypeTree) (declared : tree_at sources unit ≡ Some (block_type d)) where
  abbrev names : Names
  names = names_of_type sources unit d

  -- What the lists of demands have, the type demands

  abbrev AreDue : List Demand → Type 0
  AreDue demands = Each (DemandOf sources d) demands

  joined : (a b : List Demand) → AreDue a → AreDue b → AreDue (a ++ b)
  joined = each_append (DemandOf sources d)

  fields_due : (r : ReferenceTree) (before ms : List Member) → ((done : List Member) (m : Member) (others : List Member) → before ++ ms ≡ done ++ m ∷ others → DemandOf sources d (names_field r done m)) → AreDue (field_demands r before ms)
  fields_due r before [] due = tt
  fields_due r before (m ∷ ms) due =
      (due before m ms refl, fields_due r (before ++ m ∷ []) ms (λ done n others parted. due done n others (sym (append_assoc before (m ∷ []) ms) ∙ parted)))

  mutual
    expression_due : (e : Expression) → ((x : Expression) → OccursIn x e → IsWrittenIn d x) → AreDue (demands_in names e)
    expression_due (literal_expression l) lift = tt
    expression_due (reference_expression r subscripts) lift =
        let w = lift (reference_expression r subscripts) itself in
        let fields = fields_due r [] r.members (λ before m others parted. field r subscripts before m others w parted) in
        (named r (in_reference r subscripts w), joined _ _ fields (subscripts_due subscripts (λ x one y o. lift y (in_subscript x one o)) (λ x one. subscript r subscripts x w one)))
    expression_due (unary_expression used x) lift = joined _ _ (expression_due x (λ y o. lift y (behind_operator o))) (operator used x (lift (unary_expression used x) itself), tt)
    expression_due (row_expression first row) lift =
        let w = lift (row_expression first row) itself in
        let begins = class_of sources unit d declared first in
        joined _ _ (expression_due first (λ y o. lift y (in_first o)))
        (operands_due _ row (λ x one y o. lift y (in_operand x one o)) (λ used before x is. pair first row (class_in names first) used before x w begins is))
    expression_due (parentheses x span) lift = expression_due x (λ y o. lift y (in_parentheses o))

    subscripts_due : (subscripts : Expressions) → ((x : Expression) → IsOneOf x subscripts → (y : Expression) → OccursIn y x → IsWrittenIn d y) → ((x : Expression) → IsOneOf x subscripts → DemandOf sources d (suits_place Count x)) → AreDue (subscript_demands names subscripts)
    subscripts_due no_expressions lift due = tt
    subscripts_due (expression_then x others) lift due =
        joined _ _ (expression_due x (lift x first_one)) (due x first_one, subscripts_due others (λ y one. lift y (later_one one)) (λ y one. due y (later_one one)))

    operands_due : (left : ValueClass) (row : Operands) → ((x : Expression) → IsOperandOf x row → (y : Expression) → OccursIn y x → IsWrittenIn d y) → ((used : BinaryUse) (before : ValueClass) (x : Expression) → IsPairIn sources d used before x left row → DemandOf sources d (suits_operands used before x)) → AreDue (row_demands names left row)
    operands_due left no_operands lift due = tt
    operands_due left (operand_then used x others) lift due =
        let has = class_of sources unit d declared x in
        let gives = results used.operator left (class_in names x) in
        joined _ _ (expression_due x (lift x first_operand))
        (due used left x first_pair, operands_due _ others (λ y one. lift y (later_operand one)) (λ again before y is. due again before y (later_pair _ _ has gives is)))

  inside_due : {s : Statement} {x : Expression} → IsRunIn d s → HasExpression s x → AreDue (demands_in names x)
  inside_due {s = s} {x = x} runs has = expression_due x (λ y o. in_statement s x runs has o)

  asks_due : {s : Statement} {place : ClassPlace} {x : Expression} → IsRunIn d s → Asks s place x → AreDue (demands_at place names x)
  asks_due {s = s} {place = place} {x = x} runs asks = joined _ _ (inside_due runs (HasExpression.in_place place asks)) (in_place s place x runs asks, tt)

  step_due : {name : NameUse} {a b : Expression} (step : Option Expression) {body : Statements} → IsRunIn d (count name a b step body) → AreDue (option_map_or (demands_at Count names) step [])
  step_due None runs = tt
  step_due (Some e) runs = asks_due runs Asks.by

  mutual
    statement_due : (s : Statement) → ((t : Statement) → IsWithin t s → IsRunIn d t) → AreDue (statement_demands names s)
    statement_due (assignment r subscripts place e) lift =
        let runs = lift (assignment r subscripts place e) this in
        let variable = reference_expression r subscripts in
        joined (demands_in names variable ++ demands_in names e) (assigns variable place e ∷ [])
        (joined (demands_in names variable) _ (inside_due {x = variable} runs destination) (inside_due runs value)) (of_assignment r subscripts place e runs, tt)
    statement_due (choice arms otherwise) lift =
        let runs = lift (choice arms otherwise) this in
        joined _ _ (arms_due arms (λ condition body is. asks_due runs (arm is)) (λ condition body is t among. lift t (in_arm condition body is among)))
        (statements_due otherwise (λ t among. lift t (behind_else among)))
    statement_due (selection e cases otherwise) lift =
        let runs = lift (selection e cases otherwise) this in
        joined _ _ (joined _ _ (asks_due runs selector) (statements_due cases (λ t among. lift t (in_case among)))) (statements_due otherwise (λ t among. lift t (behind_cases among)))
    statement_due (count name a b step body) lift =
        let runs = lift (count name a b step body) this in
        let range : AreDue (range_demands names a b step) = joined _ _ (joined _ _ (asks_due runs Asks.from) (asks_due runs Asks.to)) (step_due step runs) in
        (named (alone_tree name) (behind_for name a b step body runs), (of_counter name a b step body runs, joined _ _ range (statements_due body (λ t among. lift t (in_for among)))))
    statement_due (while_loop condition body) lift =
        joined _ _ (asks_due (lift (while_loop condition body) this) while_condition) (statements_due body (λ t among. lift t (in_while among)))
    statement_due (repeat_loop body condition) lift =
        joined _ _ (statements_due body (λ t among. lift t (in_repeat among))) (asks_due (lift (repeat_loop body condition) this) until_condition)
    statement_due s lift = tt

    statements_due : (ss : Statements) → ((t : Statement) → IsAmong t ss → IsRunIn d t) → AreDue (statements_demands names ss)
    statements_due no_statements lift = tt
    statements_due (statement_then s others) lift =
        joined _ _ (statement_due s (λ t w. lift t (in_first_statement w))) (statements_due others (λ t among. lift t (in_later_statement among)))

    arms_due : (arms : Arms) → ((condition : Expression) (body : Statements) → IsArmOf condition body arms → AreDue (demands_at Condition names condition)) → ((condition : Expression) (body : Statements) → IsArmOf condition body arms → (t : Statement) → IsAmong t body → IsRunIn d t) → AreDue (arms_demands names arms)
    arms_due no_arms due lift = tt
    arms_due (arm_then condition body others) due lift =
        joined _ _ (joined _ _ (due condition body first_arm) (statements_due body (lift condition body first_arm)))
        (arms_due others (λ x ss is. due x ss (later_arm is)) (λ x ss is. lift x ss (later_arm is)))

  guard_due : (condition : ConditionTree) → ((x : Expression) → IsGuardOf x condition → IsTestedIn d x) → AreDue (guard_demands names condition)
  guard_due (guarded event x) tested = joined _ _ (expression_due x (λ y o. in_guard x (tested x with_event) o)) (test x (tested x with_event), tt)
  guard_due (guard x) tested = joined _ _ (expression_due x (λ y o. in_guard x (tested x alone) o)) (test x (tested x alone), tt)
  guard_due condition tested = tt

  one_due : (demands : List Demand) (demand : Demand) → AreDue demands → Contains demands demand → DemandOf sources d demand
  one_due demands demand due c = All-contains (DemandOf sources d) demands demand (All-from_recursion (DemandOf sources d) demands due) c

  demand_of : (demand : Demand) → Contains (chart_demands names d.chart) demand → DemandOf sources d demand
  demand_of =
      of_either _ _
      (λ demand c.
      let o = origin_in_flat_map (transition_demands names) d.chart.transitions demand c in
      one_due _ demand (guard_due o.origin.condition (λ x is. record { transition = o.origin; written = o.among; is_guard = is })) o.has)
      (λ demand c.
      let o = origin_in_flat_map (algorithm_demands names) d.chart.algorithms demand c in
      one_due _ demand (statements_due (statements_of o.origin.statements) (λ t among. record { algorithm = o.origin; declared = o.among; among = among })) o.has)

  -- and the other way: what the type demands is among the demands of its chart

  abbrev Listed : Demand → Type 0
  Listed demand = Contains (chart_demands names d.chart) demand

  abbrev AreListed : List Demand → Type 0
  AreListed demands = Each Listed demands

  front : (a b : List Demand) → AreListed (a ++ b) → AreListed a
  front = each_prefix Listed

  back : (a b : List Demand) → AreListed (a ++ b) → AreListed b
  back = each_rest Listed

  field_listed : (r : ReferenceTree) (done before : List Member) (m : Member) (others : List Member) → AreListed (field_demands r done (before ++ m ∷ others)) → Listed (names_field r (done ++ before) m)
  field_listed r done [] m others all = subst (λ (l : List Member). Listed (names_field r l m)) (sym (append-nil done)) all.0
  field_listed r done (b ∷ bs) m others all = subst (λ (l : List Member). Listed (names_field r l m)) (append_assoc done (b ∷ []) bs) (field_listed r (done ++ b ∷ []) bs m others all.1)

  three : (a b c : List Demand) → AreListed ((a ++ b) ++ c) → AreListed a × AreListed b × AreListed c
  three a b c all = (front a b (front (a ++ b) c all), back a b (front (a ++ b) c all), back (a ++ b) c all)

  subscript_listed : {x : Expression} {subscripts : Expressions} → IsOneOf x subscripts → AreListed (subscript_demands names subscripts) → AreListed (demands_in names x) × Listed (suits_place Count x)
  subscript_listed {x = x} first_one all = (front (demands_in names x) _ all, (back (demands_in names x) _ all).0)
  subscript_listed (later_one {x = y} one) all = subscript_listed one (back (demands_in names y) _ all).1

  operand_listed : {x : Expression} {row : Operands} (left : ValueClass) → IsOperandOf x row → AreListed (row_demands names left row) → AreListed (demands_in names x)
  operand_listed {x = x} left first_operand all = front (demands_in names x) _ all
  operand_listed left (later_operand {x = y} one) all = operand_listed _ one (back (demands_in names y) _ all).1

  pair_listed : {used : BinaryUse} {before : ValueClass} {x : Expression} {left : ValueClass} {row : Operands} → IsPairIn sources d used before x left row → AreListed (row_demands names left row) → Listed (suits_operands used before x)
  pair_listed {x = x} first_pair all = (back (demands_in names x) _ all).0
  pair_listed (later_pair {first = first} {left = left} {y = y} {others = others} c g has gives is) all =
      let same = ap (pair_class first.operator left) (told_class sources unit d declared y c has) ∙ told_results first.operator left c g gives in
      pair_listed is (subst (λ k. AreListed (row_demands names k others)) same (back (demands_in names y) _ all).1)

  occurring_listed : {x e : Expression} → OccursIn x e → AreListed (demands_in names e) → AreListed (demands_in names x)
  occurring_listed itself all = all
  occurring_listed (in_subscript {r = r} y one o) all = occurring_listed o (subscript_listed one (back (field_demands r [] r.members) _ all.1)).0
  occurring_listed (behind_operator {x = y} o) all = occurring_listed o (front (demands_in names y) _ all)
  occurring_listed (in_first {x = y} o) all = occurring_listed o (front (demands_in names y) _ all)
  occurring_listed (in_operand {first = first} y one o) all = occurring_listed o (operand_listed _ one (back (demands_in names first) _ all))
  occurring_listed (in_parentheses o) all = occurring_listed o all

  arm_listed : {condition : Expression} {body : Statements} {arms : Arms} → IsArmOf condition body arms → AreListed (arms_demands names arms) → AreListed (demands_at Condition names condition) × AreListed (statements_demands names body)
  arm_listed {condition = condition} {body = body} first_arm all = let own = three (demands_at Condition names condition) (statements_demands names body) _ all in (own.0, own.1)
  arm_listed (later_arm {x = x} {ss = ss} is) all = arm_listed is (back (demands_at Condition names x ++ statements_demands names ss) _ all)

  asked_listed : {s : Statement} {place : ClassPlace} {x : Expression} → Asks s place x → AreListed (statement_demands names s) → AreListed (demands_at place names x)
  asked_listed {s} {place} {x} asks all = grind (arith, arm_listed, front, back)

  inside_listed : {s : Statement} {x : Expression} → HasExpression s x → AreListed (statement_demands names s) → AreListed (demands_in names x)
  inside_listed {s} {x} has all = grind (arith, front, asked_listed, three)

  mutual
    within_listed : {t s : Statement} → IsWithin t s → AreListed (statement_demands names s) → AreListed (statement_demands names t)
    within_listed this all = all
    within_listed (in_arm {arms = arms} condition body is among) all = among_listed among (arm_listed is (front (arms_demands names arms) _ all)).1
    within_listed (behind_else {arms = arms} among) all = among_listed among (back (arms_demands names arms) _ all)
    within_listed (in_case {e = e} {cases = cases} among) all = among_listed among (three (demands_at Selector names e) (statements_demands names cases) _ all).1
    within_listed (behind_cases {e = e} {cases = cases} among) all = among_listed among (three (demands_at Selector names e) (statements_demands names cases) _ all).2
    within_listed (in_for {a = a} {b = b} {step = step} among) all = among_listed among (back (range_demands names a b step) _ all.1.1)
    within_listed (in_while {condition = condition} among) all = among_listed among (back (demands_at Condition names condition) _ all)
    within_listed (in_repeat {body = body} among) all = among_listed among (front (statements_demands names body) _ all)

    among_listed : {t : Statement} {ss : Statements} → IsAmong t ss → AreListed (statements_demands names ss) → AreListed (statement_demands names t)
    among_listed (in_first_statement {x = x} w) all = within_listed w (front (statement_demands names x) _ all)
    among_listed (in_later_statement {x = x} among) all = among_listed among (back (statement_demands names x) _ all)

  listed : (demands : List Demand) → ((demand : Demand) → Contains demands demand → Listed demand) → AreListed demands
  listed demands each = recursion_from_All Listed demands (All-weaker (Contains demands) Listed each demands (All-contains_itself demands))

  run_listed : {s : Statement} → IsRunIn d s → AreListed (statement_demands names s)
  run_listed runs = among_listed runs.among (listed (algorithm_demands names runs.algorithm) (λ demand c. let there = runs.declared in search (Contains-append_right, contains_flat_map)))

  guard_listed : {x : Expression} {condition : ConditionTree} → IsGuardOf x condition → AreListed (guard_demands names condition) → AreListed (demands_at Condition names x)
  guard_listed {x} {condition} is all = grind arith

  tested_listed : {x : Expression} → IsTestedIn d x → AreListed (demands_at Condition names x)
  tested_listed t = guard_listed t.is_guard (listed (transition_demands names t.transition) (λ demand c. let there = t.written in search (Contains-append_left, contains_flat_map)))

  written_listed : {x : Expression} → IsWrittenIn d x → AreListed (demands_in names x)
  written_listed (in_guard y tested o) = occurring_listed o (front (demands_in names y) _ (tested_listed tested))
  written_listed (in_statement s y runs has o) = occurring_listed o (inside_listed has (run_listed runs))

  demanded : {demand : Demand} → DemandOf sources d demand → Listed demand
  demanded (named r (in_reference q subscripts w)) = (written_listed w).0
  demanded (named r (behind_for name a b step body runs)) = (run_listed runs).0
  demanded (field r subscripts before m others w parted) =
      field_listed r [] before m others (subst (λ (l : List Member). AreListed (field_demands r [] l)) parted (front (field_demands r [] r.members) _ (written_listed w).1))
  demanded (operator used x w) = (back (demands_in names x) _ (written_listed w)).0
  demanded (pair first row start used before x w begins is) =
      pair_listed is (subst (λ k. AreListed (row_demands names k row)) (told_class sources unit d declared first start begins) (back (demands_in names first) _ (written_listed w)))
  demanded (subscript r subscripts x w one) = (subscript_listed one (back (field_demands r [] r.members) _ (written_listed w).1)).1
  demanded (test x tested) = (back (demands_in names x) _ (tested_listed tested)).0
  demanded (in_place s place x runs asks) = (back (demands_in names x) _ (asked_listed asks (run_listed runs))).0
  demanded (of_counter name a b step body runs) = (run_listed runs).1.0
  demanded (of_assignment r subscripts place e runs) = (three (field_demands r [] r.members ++ subscript_demands names subscripts) (demands_in names e) _ (run_listed runs).1).2.0

-- a fault of a unit, and the demand of a block type that it comes from
pub record Unmet (sources : Sources) (unit : List ℕ) (f : Fault) : Type 0 where
  pub block : TypeTree
  pub declared : tree_at sources unit ≡ Some (block_type block)
  pub demand : Demand
  pub of_block : DemandOf sources block demand
  pub fails : is_met (names_of_type sources unit block) demand ≡ false
  pub is : f ≡ fault_of demand

pub unmet : (sources : Sources) (unit : List ℕ) (f : Fault) → Contains (expr_faults_of sources unit) f → Unmet sources unit f
unmet sources unit f c = by_tree (tree_at sources unit) refl c
  where
    by_tree : (o : Option DeclTree) → tree_at sources unit ≡ o → Contains (faults_in_unit sources unit o) f → Unmet sources unit f
    by_tree (Some (block_type d)) e h =
        let u = (faults_unmet sources unit d e f).0 c in
        record { block = d; declared = e; demand = u.0; of_block = demand_of sources unit d e u.0 u.1; fails = u.2; is = u.3 }
    by_tree o e h = absurd (contains_nothing f h)

pub reported : (sources : Sources) (unit : List ℕ) (f : Fault) → Unmet sources unit f → Contains (expr_faults_of sources unit) f
reported sources unit f u = (faults_unmet sources unit u.block u.declared f).1 (u.demand, demanded sources unit u.block u.declared u.of_block, u.fails, u.is)
