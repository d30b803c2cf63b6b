-- The parts of statements, at each level.
use Rattle.fb_laws.proofs.Common.{ℕ, ◌≤◌, arith, zero, suc, List, [], ◌∷◌, ◌++◌, flat_map, Form, many, cons, name, Kind, Assign, Expression, reference_expression, Statement, statements_of, arms_of, levels, expression, reference, statement, simple_statement, assignment_statement, enclosed, announced, otherwise, arm, arms, if_statement, case, cases, case_statement, for_statement, while_statement, repeat_statement, nested_statement, Part, mark_part, name_parts, option_parts, expression_parts, statement_parts, statements_parts, arms_parts, refl, subst, flat_map-append}
use Rattle.fb_laws.proofs.Sound.{Each, Sound, sound_both, sound_as, sound_either, sound_option, sound_many, sound_behind, sound_before, sound_optional_list, sound_section, sound_mark, sound_name, sound_same}
use Rattle.fb_laws.proofs.ExpressionSpans.{flat_parts, sound_expression, sound_reference}

-- Lists

abbrev pub block_parts : List Statement → List Part
block_parts ss = statements_parts (statements_of ss)

abbrev arm_parts : Expression × List Statement → List Part
arm_parts a = expression_parts a.0 ++ block_parts a.1

-- statements one after the other, kept as a block
sound_block : (x : Form (List Statement)) → Sound x (flat_map statement_parts) → Sound x block_parts
sound_block x h = sound_same x (flat_map statement_parts) block_parts (λ P v e. subst (Each P) (flat_parts statement_parts block_parts refl (λ s ss. refl) v) e) h

-- Statements that contain no others

sound_assignment : (n : ℕ) → n ≤ levels → Sound (assignment_statement n) statement_parts
unfolding assignment_statement
sound_assignment n within =
    sound_as _ _ statement_parts
    (sound_both (reference n) _ (λ r. expression_parts (reference_expression r.0 r.1)) (λ v. mark_part Assign v.0.span ∷ expression_parts v.1) (sound_reference n within)
    (sound_both _ _ (λ l. mark_part Assign l.span ∷ []) expression_parts (sound_mark Assign) (sound_before (expression n) _ expression_parts (sound_expression n within))))

sound_simple_statement : (n : ℕ) → n ≤ levels → Sound (simple_statement n) statement_parts
unfolding simple_statement
sound_simple_statement n within = grind (arith, sound_either, sound_assignment)

-- Statements that contain others

module _ (e : Form Expression) (inner : Form Statement) (sound_e : Sound e expression_parts) (sound_inner : Sound inner statement_parts) where
  sound_enclosed : (word end : Kind) → Sound (enclosed word inner end) block_parts
  unfolding enclosed
  sound_enclosed word end = sound_block _ (sound_section word inner end statement_parts sound_inner)

  sound_announced : (word : Kind) → Sound (announced word e) expression_parts
  unfolding announced
  sound_announced word = sound_behind _ e expression_parts sound_e

  sound_otherwise : Sound (otherwise inner) block_parts
  unfolding otherwise
  sound_otherwise = sound_block _ (sound_optional_list _ statement_parts (sound_behind _ (many inner) (flat_map statement_parts) (sound_many inner statement_parts sound_inner)))

  sound_arm : (word : Kind) → Sound (arm word e inner) arm_parts
  unfolding arm
  sound_arm word = sound_both _ _ expression_parts block_parts (sound_announced word) (sound_behind _ (many inner) block_parts (sound_block (many inner) (sound_many inner statement_parts sound_inner)))

  sound_if : Sound (if_statement e inner) statement_parts
  unfolding if_statement arms
  sound_if =
      sound_as _ _ statement_parts
      (sound_both _ _ (λ v. arms_parts (arms_of v)) block_parts (sound_same _ (flat_map arm_parts) _ (λ P v e. subst (Each P) (flat_parts arm_parts (λ all. arms_parts (arms_of all)) refl (λ a all. refl) v) e)
      (sound_as cons _ (flat_map arm_parts) (sound_both _ _ arm_parts (flat_map arm_parts) (sound_arm _) (sound_many _ arm_parts (sound_arm _)))))
      (sound_before (otherwise inner) _ block_parts sound_otherwise))

  sound_case_part : Sound (case inner) (flat_map statement_parts)
  unfolding case
  sound_case_part = sound_behind _ _ (flat_map statement_parts) (sound_behind _ (many inner) (flat_map statement_parts) (sound_many inner statement_parts sound_inner))

  sound_cases : Sound (cases inner) block_parts
  unfolding cases
  sound_cases =
      let joined = flat_parts (flat_map statement_parts) (λ all. flat_map statement_parts (flat_map (λ ss. ss) all)) refl (λ ss all. flat_map-append statement_parts ss (flat_map (λ s. s) all)) in
      sound_block _
      (sound_as _ _ (flat_map statement_parts)
      (sound_same _ (λ v. flat_map (flat_map statement_parts) (cons v)) _ (λ P v h. subst (Each P) (joined (cons v)) h)
      (sound_both (case inner) _ (flat_map statement_parts) (flat_map (flat_map statement_parts)) sound_case_part (sound_many (case inner) (flat_map statement_parts) sound_case_part))))

  sound_case : Sound (case_statement e inner) statement_parts
  unfolding case_statement
  sound_case =
      sound_as _ _ statement_parts
      (sound_both _ _ expression_parts (λ v. block_parts v.0 ++ block_parts v.1) (sound_announced _)
      (sound_behind _ _ _ (sound_both (cases inner) _ block_parts block_parts sound_cases (sound_before (otherwise inner) _ block_parts sound_otherwise))))

  sound_for : Sound (for_statement e inner) statement_parts
  unfolding for_statement
  sound_for =
      sound_as _ _ statement_parts
      (sound_both _ _ name_parts (λ v. expression_parts v.0 ++ (expression_parts v.1.0 ++ (option_parts expression_parts v.1.1.0 ++ block_parts v.1.1.1)))
      (sound_behind _ name name_parts sound_name)
      (sound_both _ _ expression_parts (λ v. expression_parts v.0 ++ (option_parts expression_parts v.1.0 ++ block_parts v.1.1)) (sound_announced _)
      (sound_both _ _ expression_parts (λ v. option_parts expression_parts v.0 ++ block_parts v.1) (sound_announced _)
      (sound_both _ _ (option_parts expression_parts) block_parts (sound_option _ expression_parts (sound_announced _)) (sound_enclosed _ _)))))

  sound_nested : Sound (nested_statement e inner) statement_parts
  unfolding nested_statement while_statement repeat_statement
  sound_nested =
      sound_either _ _ statement_parts sound_if
      (sound_either _ _ statement_parts sound_case
      (sound_either _ _ statement_parts sound_for
      (sound_either _ _ statement_parts
      (sound_as _ _ statement_parts (sound_both _ _ expression_parts block_parts (sound_announced _) (sound_enclosed _ _)))
      (sound_as _ _ statement_parts (sound_both _ _ block_parts expression_parts (sound_enclosed _ _) (sound_before e _ expression_parts sound_e))))))

-- Levels

pub sound_statement : (n : ℕ) → n ≤ levels → Sound (statement n) statement_parts
unfolding statement
sound_statement zero within = sound_simple_statement zero within
sound_statement (suc n) within =
    sound_either (simple_statement (suc n)) _ statement_parts (sound_simple_statement (suc n) within)
    (sound_nested (expression (suc n)) (statement n) (sound_expression (suc n) within) (sound_statement n (omega (arith, within))))
