-- Rules of classes that are broken, by what the list of faults has.
use Rattle.fb_laws.proofs.Common.{arith, ◌≡◌, ℕ, Bool, true, false, List, [], ◌∷◌, Option, Some, refl, sym, ap, ◌∙◌, subst, true≢false, is_some, Contains, NameUse, Span, Expression, reference_expression, no_expressions, Statements, count, TypeTree, block_type, TypeUse, Sources, tree_at, class_of_type, stands_for, meanings_in_type, Class as ValueClass, Fault, DeclaredVariable, expr_faults_of, change, combined, join, Demand, suits_place, code_of_demand, is_met, alone_tree, class_in, Names, names_of_type, allows, ClassPlace, Condition, Count, Counter, Fits, HasClass, of_variable, of_element, of_no_array, of_no_variable, IsRunIn, StandsAt, BreaksRule, at_operator, between_operands, at_subscript, at_guard, at_counter, at_assignment, ClassesAreRight, ExpressionsHaveOneClass, HasBrokenRule, own, at_end, NamesType}
use Rattle.fb_laws.proofs.{ClassLemmas.{class_of, told_class}, ExpressionPlaces.{stands, told_stands}}
use Rattle.fb_laws.proofs.RuleLemmas.{changes, combines, joins, misfits, missing, none_of, told_change, told_combined, told_join}
use Rattle.fb_laws.proofs.UnitDemands.{DemandOf, operator, pair, subscript, test, in_place, of_counter, of_assignment, Unmet, reported, unmet}
use Rattle.fb_laws.specs.{Expressions.{in_statement}, Variables.{of_adapter}}
use Rattle.fb_placing.proofs.TableLemmas.{nothing_there}
use Rattle.fb_deploy.specs.Iface.declared.code.Code.TheVariants.{Class}
use Rattle.fb_expr.specs.Demands.{fault_of, place_of}

-- a name alone has the type of the variable

typed_alone : (sources : Sources) (d : TypeTree) (name : NameUse) (used : TypeUse) (subscripted : Bool) → NamesType sources d (alone_tree name) used subscripted → (v : DeclaredVariable) × (stands_for (meanings_in_type d).variables name.name ≡ Some v) × (v.type_use ≡ used) × (subscripted ≡ false)
typed_alone sources d name used subscripted n = grind (arith, of_adapter)

alone_typed : (sources : Sources) (d : TypeTree) (name : NameUse) (v : DeclaredVariable) → stands_for (meanings_in_type d).variables name.name ≡ Some v → NamesType sources d (alone_tree name) v.type_use false
alone_typed sources d name v stands = record { first = v.type_use; at_first = false; behind = []; begins = own v stands (λ i m behind at. let both : [] ≡ m ∷ behind = at.second in cc both); leads = at_end }

module _ (sources : Sources) (unit : List ℕ) (d : TypeTree) (declared : tree_at sources unit ≡ Some (block_type d)) where
  abbrev names : Names
  names = names_of_type sources unit d

  classed : (x : Expression) → HasClass sources d x (class_in names x)
  classed = class_of sources unit d declared

  -- the variable of a FOR, by the class of the name alone
  counted : (name : NameUse) (a b : Expression) (step : Option Expression) (body : Statements) (c : ValueClass) → IsRunIn d (count name a b step body) → HasClass sources d (reference_expression (alone_tree name) no_expressions) c → allows Counter c ≡ false → BreaksRule sources d name.span
  counted name a b step body c runs (of_variable used n) fails =
      let v = typed_alone sources d name used false n in
      at_counter name a b step body v.0 runs v.1 (subst (λ (u : TypeUse). ¬ Fits Counter (class_of_type u)) (sym v.2) ((misfits Counter c).0 fails))
  counted name a b step body c runs (of_element used n array) fails = absurd (true≢false (typed_alone sources d name used true n).3)
  counted name a b step body c runs (of_no_array used n other) fails = absurd (true≢false (typed_alone sources d name used true n).3)
  counted name a b step body c runs (of_no_variable none) fails = absurd (true≢false fails)

  -- a demand on classes that is not met
  broken : {demand : Demand} → DemandOf sources d demand → code_of_demand demand ≡ Class → is_met names demand ≡ false → BreaksRule sources d (place_of demand)
  broken (operator used x w) class fails = at_operator used x _ w (classed x) (none_of (told_change used.operator _) (nothing_there _ fails))
  broken (pair first row start used before x w begins is) class fails =
      between_operands first row start used before x _ w begins is (classed x) (none_of (told_combined used.operator before _) (nothing_there _ fails))
  broken (subscript r subscripts x w one) class fails = at_subscript r subscripts x _ w one (classed x) ((misfits Count _).0 fails) (stands x)
  broken (test x tested) class fails = at_guard x _ tested (classed x) ((misfits Condition _).0 fails) (stands x)
  broken (in_place s place x runs asks) class fails = in_statement s place x _ runs asks (classed x) ((misfits place _).0 fails) (stands x)
  broken (of_counter name a b step body runs) class fails = counted name a b step body _ runs (classed (reference_expression (alone_tree name) no_expressions)) fails
  broken (of_assignment r subscripts place e runs) class fails =
      at_assignment r subscripts place e _ _ runs (classed (reference_expression r subscripts)) (classed e) (none_of (told_join _ _) (nothing_there _ fails))
  broken o class fails = cc

  -- the demand that a broken rule leaves unmet

  abbrev of_class : Span → Fault
  of_class span = record { code = Class; span = span }

  left_unmet : {demand : Demand} (span : Span) → DemandOf sources d demand → is_met names demand ≡ false → of_class span ≡ fault_of demand → Unmet sources unit (of_class span)
  left_unmet {demand = demand} span of_type fails is = record { block = d; declared = declared; demand = demand; of_block = of_type; fails = fails; is = is }

  told : (x : Expression) (c : ValueClass) → HasClass sources d x c → class_in names x ≡ c
  told = told_class sources unit d declared

  at_place : (place : ClassPlace) (x : Expression) (c : ValueClass) (span : Span) → DemandOf sources d (suits_place place x) → HasClass sources d x c → ¬ Fits place c → StandsAt x span → Unmet sources unit (of_class span)
  at_place place x c span demanded has misfit there = left_unmet span demanded (ap (allows place) (told x c has) ∙ (misfits place c).1 misfit) (ap of_class (sym (told_stands there)))

  unmet_by : (span : Span) → BreaksRule sources d span → Unmet sources unit (of_class span)
  unmet_by span (at_operator used x c w has none) = left_unmet _ (operator used x w) (ap (λ k. is_some (change used.operator k)) (told x c has) ∙ ap is_some (missing (changes used.operator c) none)) refl
  unmet_by span (between_operands first row start used before x c w begins is has none) =
      left_unmet _ (pair first row start used before x w begins is) (ap (λ k. is_some (combined used.operator before k)) (told x c has) ∙ ap is_some (missing (combines used.operator before c) none)) refl
  unmet_by span (at_subscript r subscripts x c w one has misfit there) = at_place Count x c span (subscript r subscripts x w one) has misfit there
  unmet_by span (at_guard x c tested has misfit there) = at_place Condition x c span (test x tested) has misfit there
  unmet_by span (in_statement s place x c runs asks has misfit there) = at_place place x c span (in_place s place x runs asks) has misfit there
  unmet_by span (at_counter name a b step body v runs stands_there misfit) =
      left_unmet _ (of_counter name a b step body runs)
      (ap (allows Counter) (told (reference_expression (alone_tree name) no_expressions) _ (of_variable v.type_use (alone_typed sources d name v stands_there))) ∙ (misfits Counter _).1 misfit) refl
  unmet_by span (at_assignment r subscripts place e a b runs left right none) =
      left_unmet _ (of_assignment r subscripts place e runs)
      ((λ i. is_some (join (told (reference_expression r subscripts) a left i) (told e b right i))) ∙ ap is_some (missing (joins a b) none)) refl

pub right : ClassesAreRight
right sources unit span = (to, λ h. reported sources unit _ (unmet_by sources unit h.block h.declared span h.breaks))
  where
    to : Contains (expr_faults_of sources unit) (record { code = Class; span = span }) → HasBrokenRule sources unit span
    to c =
        let u = unmet sources unit (record { code = Class; span = span }) c in
        let breaks = broken sources unit u.block u.declared u.of_block (sym (ap (λ (f : Fault). f.code) u.is)) u.fails in
        record { block = u.block; declared = u.declared; breaks = subst (BreaksRule sources u.block) (sym (ap (λ (f : Fault). f.span) u.is)) breaks }

pub one_class : ExpressionsHaveOneClass
one_class sources unit d declared e = (class_in (names_of_type sources unit d) e, class_of sources unit d declared e, λ other has. sym (told_class sources unit d declared e other has))
