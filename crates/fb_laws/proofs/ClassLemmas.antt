-- The class of each expression, by the function of the check.
use Rattle.fb_laws.proofs.Common.{arith, ◌≡◌, ◌≢◌, ℕ, Bool, true, false, List, Option, Some, unwrap_or, refl, sym, ap, ◌∙◌, ReferenceTree, Expression, literal_expression, reference_expression, unary_expression, row_expression, parentheses, Expressions, Operands, no_operands, operand_then, TypeTree, block_type, UnaryUse, TypeForm, TypeUse, Sources, tree_at, Class, O, Free, change, pair_class, unary_class, class_in, row_class, Names, names_of_type, class_of_element, class_of_referent, class_with, referent_of, Referent, Variable, Changes, HasClass, of_literal, of_variable, of_element, of_no_array, of_no_variable, of_operator, of_broken, of_row, of_parentheses, RowHasClass, NamesType}
use Rattle.fb_laws.proofs.{ReferentLemmas.{names_type, told_type_of}, RuleLemmas.{Known, gives, fails, changes, missing, none_of, results, told_change, told_results}}
use Rattle.fb_tree.specs.declared.interface.TypeForm.TheVariants.{Plain, Sized, Array}
use Rattle.fb_laws.specs.Classes.{at_end, behind}

no_array : (used : TypeUse) (form : TypeForm) → form ≢ Array → class_of_element form used.name.name ≡ O
no_array used form other = grind arith

module _ (sources : Sources) (unit : List ℕ) (d : TypeTree) (declared : tree_at sources unit ≡ Some (block_type d)) where
  abbrev names : Names
  names = names_of_type sources unit d

  of_type : (r : ReferenceTree) (subscripts : Expressions) (used : TypeUse) (subscripted : Bool) → NamesType sources d r used subscripted → HasClass sources d (reference_expression r subscripts) (class_with used subscripted)
  of_type r subscripts used false n = of_variable used n
  of_type r subscripts used true n =
      (elim used.form as (λ form. used.form ≡ form → HasClass sources d (reference_expression r subscripts) (class_of_element form used.name.name)) [ Plain ↦ λ is. of_no_array used n (λ array. let both : Plain ≡ Array = sym is ∙ array in cc both) | Sized ↦ λ is. of_no_array used n (λ array. let both : Sized ≡ Array = sym is ∙ array in cc both) | Array ↦ λ is. of_element used n is ]) refl

  of_reference : (r : ReferenceTree) (subscripts : Expressions) → HasClass sources d (reference_expression r subscripts) (class_of_referent (referent_of names r))
  of_reference r subscripts = by_referent (referent_of names r) refl
    where
      by_referent : (t : Referent) → referent_of names r ≡ t → HasClass sources d (reference_expression r subscripts) (class_of_referent t)
      by_referent (Variable used subscripted) is = of_type r subscripts used subscripted (names_type sources unit d declared r used subscripted is)
      by_referent t is = of_no_variable (λ used subscripted n. cc (told_type_of sources unit d declared r used subscripted n))

  of_unary : (used : UnaryUse) (x : Expression) (c : Class) → HasClass sources d x c → HasClass sources d (unary_expression used x) (unary_class used.operator c)
  of_unary used x c has = by_case refl (changes used.operator c)
    where
      by_case : {o : Option Class} → change used.operator c ≡ o → Known (Changes used.operator c) o → HasClass sources d (unary_expression used x) (unwrap_or o Free)
      by_case is (gives k) = of_operator c has k
      by_case is fails = of_broken c has (none_of (told_change used.operator c) is)

  mutual
    pub class_of : (e : Expression) → HasClass sources d e (class_in names e)
    class_of (literal_expression l) = of_literal
    class_of (reference_expression r subscripts) = of_reference r subscripts
    class_of (unary_expression used x) = of_unary used x (class_in names x) (class_of x)
    class_of (row_expression x operands) = of_row (class_in names x) (class_of x) (row_of (class_in names x) operands)
    class_of (parentheses x span) = of_parentheses (class_of x)

    row_of : (left : Class) (operands : Operands) → RowHasClass sources d left operands (row_class names left operands)
    row_of left no_operands = at_end
    row_of left (operand_then used x others) = behind _ _ (class_of x) (results used.operator left (class_in names x)) (row_of _ others)

  -- and no other

  free_of : (r : ReferenceTree) → ((used : TypeUse) (subscripted : Bool) → ¬ NamesType sources d r used subscripted) → class_of_referent (referent_of names r) ≡ Free
  free_of r none =
      (elim (referent_of names r) as (λ t. referent_of names r ≡ t → class_of_referent t ≡ Free) [ Variable used subscripted ↦ λ is. absurd (none used subscripted (names_type sources unit d declared r used subscripted is)) | o ↦ λ is. refl ]) refl

  named_class : (r : ReferenceTree) (used : TypeUse) (subscripted : Bool) → NamesType sources d r used subscripted → class_of_referent (referent_of names r) ≡ class_with used subscripted
  named_class r used subscripted n = ap class_of_referent (told_type_of sources unit d declared r used subscripted n)

  mutual
    pub told_class : (e : Expression) (c : Class) → HasClass sources d e c → class_in names e ≡ c
    told_class (literal_expression l) c of_literal = refl
    told_class (reference_expression r subscripts) c (of_variable used n) = named_class r used false n
    told_class (reference_expression r subscripts) c (of_element used n array) = named_class r used true n ∙ ap (λ (form : TypeForm). class_of_element form used.name.name) array
    told_class (reference_expression r subscripts) c (of_no_array used n other) = named_class r used true n ∙ no_array used used.form other
    told_class (reference_expression r subscripts) c (of_no_variable none) = free_of r none
    told_class (unary_expression used x) g (of_operator c has k) = ap (unary_class used.operator) (told_class x c has) ∙ ap (λ (o : Option Class). unwrap_or o Free) (told_change used.operator c g k)
    told_class (unary_expression used x) g (of_broken c has none) = ap (unary_class used.operator) (told_class x c has) ∙ ap (λ (o : Option Class). unwrap_or o Free) (missing (changes used.operator c) none)
    told_class (row_expression x operands) g (of_row c has row) = ap (λ k. row_class names k operands) (told_class x c has) ∙ told_row c operands g row
    told_class (parentheses x span) c (of_parentheses has) = told_class x c has

    told_row : (left : Class) (operands : Operands) (h : Class) → RowHasClass sources d left operands h → row_class names left operands ≡ h
    told_row left no_operands h at_end = refl
    told_row left (operand_then used x others) h (behind c g has gives_class row) =
        ap (λ k. row_class names (pair_class used.operator left k) others) (told_class x c has)
        ∙ ap (λ k. row_class names k others) (told_results used.operator left c g gives_class)
        ∙ told_row g others h row
