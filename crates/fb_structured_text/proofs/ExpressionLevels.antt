-- One token tells how to go on in an expression, at each level.
use Rattle.std.proofs.Common.{◌≡◌, ℕ, zero, suc, true, inl, inr, List, [], ◌∷◌, ◌++◌, refl}
use Rattle.fb_grammar.specs.declared.kind.Kind.{Kind}
use Rattle.fb_grammar.specs.{declared.kind.Kind.TheVariants.{Comma, Point, OpenBracket, CloseBracket, OpenParenthesis, CloseParenthesis}, Kind.{name_kinds}}
use Rattle.fb_grammar.specs.{Form.{Form}, Reading.{after, are_apart}, Words.{name}, Literals.{literal_kinds}}
use Rattle.fb_grammar.proofs.{Forms.{among_left, among_right}, Shapes.{Shape, IsWithin, among_append, apart_within}}
use Rattle.fb_tree.specs.Expression.{Expression}
use Rattle.fb_structured_text.specs.Operators.{signs, strengths}
use Rattle.fb_structured_text.specs.Expression.{expression, rows, unary, flat_primary, deep_primary, literal, PartTree, flat_part, deep_part, parts, flat_reference, deep_reference, reference, parenthesized, expressions, subscripts, row, operand}

within_row : (kinds afters found : List Kind) → IsWithin found afters → IsWithin (found ++ (kinds ++ found)) (kinds ++ afters)
within_row kinds afters found h k m = elim (among_append found (kinds ++ found) k m) [
  | inl p ↦ among_right kinds afters k (h k p)
  | inr p ↦ elim (among_append kinds found k p) [ inl q ↦ among_left kinds afters k q | inr q ↦ among_right kinds afters k (h k q) ]
]

shape-row : (kinds : List Kind) (x : Form Expression) (firsts afters : List Kind) → Shape x firsts afters → are_apart afters kinds ≡ true → Shape (row kinds x) firsts (kinds ++ afters)
unfolding row operand
shape-row kinds x firsts afters s apart =
    let free = apart_within (after x) afters kinds s.after apart in
    record {
      predictive = rw (s.predictive, s.filled, free) refl;
      filled = rw s.filled refl;
      first = rw s.filled s.first;
      after = rw s.filled (within_row kinds afters (after x) s.after);
    }

-- what goes on behind rows of these strengths at most
abbrev pub afters_of : List (List Kind) → List Kind → List Kind
afters_of [] afters = afters
afters_of (kinds ∷ stronger) afters = kinds ++ afters_of stronger afters

-- the operators of each strength are apart from those of the stronger ones, and from what goes on behind an operand
abbrev pub AreApart : List (List Kind) → List Kind → Type 0
AreApart [] afters = Unit {0}
AreApart (kinds ∷ stronger) afters = (are_apart (afters_of stronger afters) kinds ≡ true) × AreApart stronger afters

shape-rows : (all : List (List Kind)) (x : Form Expression) (firsts afters : List Kind) → AreApart all afters → Shape x firsts afters → Shape (rows all x) firsts (afters_of all afters)
unfolding rows
shape-rows [] x firsts afters apart s = s
shape-rows (kinds ∷ stronger) x firsts afters apart s = shape-row kinds (rows stronger x) firsts (afters_of stronger afters) (shape-rows stronger x firsts afters apart.1 s) apart.0

abbrev pub base_afters : List Kind
base_afters = Point ∷ OpenBracket ∷ []

-- what goes on behind an expression at most
abbrev pub expression_afters : List Kind
expression_afters = afters_of strengths base_afters

strengths-apart : AreApart strengths base_afters
strengths-apart = (refl, (refl, (refl, (refl, (refl, (refl, (refl, (refl, tt))))))))

abbrev pub flat_firsts : List Kind
flat_firsts = literal_kinds ++ name_kinds

abbrev pub deep_firsts : List Kind
deep_firsts = literal_kinds ++ (name_kinds ++ OpenParenthesis ∷ [])

shape-flat_primary : Shape flat_primary flat_firsts base_afters
unfolding flat_primary literal flat_reference flat_part name
shape-flat_primary = record { predictive = refl; filled = refl; first = refl; after = λ k h. among_left (Point ∷ []) (OpenBracket ∷ []) k h }

shape-expressions : (x : Form Expression) (firsts afters : List Kind) → Shape x firsts afters → are_apart afters (Comma ∷ []) ≡ true → Shape (expressions x) firsts (Comma ∷ afters)
unfolding expressions
shape-expressions x firsts afters s apart =
    let free = apart_within (after x) afters (Comma ∷ []) s.after apart in
    record {
      predictive = rw (s.predictive, s.filled, free) refl;
      filled = rw s.filled refl;
      first = rw s.filled s.first;
      after = rw s.filled (within_row (Comma ∷ []) afters (after x) s.after);
    }

shape-deep_part : (inner : Form Expression) (firsts afters : List Kind) → Shape inner firsts afters
    → are_apart afters (CloseBracket ∷ []) ≡ true → are_apart afters (Comma ∷ []) ≡ true
    → Shape (deep_part inner) name_kinds (OpenBracket ∷ [])
unfolding deep_part subscripts name
shape-deep_part inner firsts afters s b c =
    let several = shape-expressions inner firsts afters s c in
    let no_bracket = apart_within (after (expressions inner)) (Comma ∷ afters) (CloseBracket ∷ []) several.after b in
    record {
      predictive = rw (several.predictive, no_bracket) refl;
      filled = refl;
      first = refl;
      after = rw several.filled (λ k h. h);
    }

-- behind a part comes a bracket at most, and a point begins the next one
shape-parts : (part : Form PartTree) (firsts : List Kind) → Shape part firsts (OpenBracket ∷ []) → Shape (parts part) firsts base_afters
shape-parts part firsts s =
    let free = apart_within (after part) (OpenBracket ∷ []) (Point ∷ []) s.after refl in
    record {
      predictive = rw (s.predictive, s.filled, free) refl;
      filled = rw s.filled refl;
      first = rw s.filled s.first;
      after = rw s.filled (within_row (Point ∷ []) (OpenBracket ∷ []) (after part) s.after);
    }

shape-deep_reference : (inner : Form Expression) (firsts afters : List Kind) → Shape inner firsts afters
    → are_apart afters (CloseBracket ∷ []) ≡ true → are_apart afters (Comma ∷ []) ≡ true
    → Shape (deep_reference inner) name_kinds base_afters
unfolding deep_reference
shape-deep_reference inner firsts afters s b c =
    let p = shape-parts (deep_part inner) name_kinds (shape-deep_part inner firsts afters s b c) in
    record { predictive = p.predictive; filled = p.filled; first = p.first; after = p.after }

within_nothing : (kinds afters : List Kind) → IsWithin kinds afters → IsWithin (kinds ++ []) afters
within_nothing kinds afters h k m = elim (among_append kinds [] k m) [ inl p ↦ h k p | inr p ↦ cc p ]

shape-deep_primary : (inner : Form Expression) (firsts afters : List Kind) → Shape inner firsts afters
    → are_apart afters (CloseParenthesis ∷ []) ≡ true → are_apart afters (CloseBracket ∷ []) ≡ true → are_apart afters (Comma ∷ []) ≡ true
    → Shape (deep_primary inner) deep_firsts base_afters
unfolding deep_primary literal parenthesized
shape-deep_primary inner firsts afters s p b c =
    let no_parenthesis = apart_within (after inner) afters (CloseParenthesis ∷ []) s.after p in
    let r = shape-deep_reference inner firsts afters s b c in
    record {
      predictive = rw (s.predictive, no_parenthesis, r.predictive, r.filled, r.first) refl;
      filled = rw r.filled refl;
      first = rw r.first refl;
      after = rw s.filled (within_nothing (after (deep_reference inner)) base_afters r.after);
    }

shape-unary : (x : Form Expression) (firsts afters : List Kind) → Shape x firsts afters → are_apart signs firsts ≡ true → Shape (unary x) (signs ++ firsts) afters
unfolding unary
shape-unary x firsts afters s apart =
    record {
      predictive = rw (s.predictive, s.first) apart;
      filled = rw s.filled refl;
      first = rw s.first refl;
      after = rw s.filled s.after;
    }

-- what begins an expression with so many levels below its own
abbrev pub expression_firsts : ℕ → List Kind
expression_firsts zero = signs ++ flat_firsts
expression_firsts (suc n) = signs ++ deep_firsts

-- at each level an expression is told by its first token, and goes on behind it at most by an operator, a point or a bracket
pub shape-expression : (n : ℕ) → Shape (expression n) (expression_firsts n) expression_afters
unfolding expression
shape-expression zero = shape-rows strengths (unary flat_primary) (signs ++ flat_firsts) base_afters strengths-apart (shape-unary flat_primary flat_firsts base_afters shape-flat_primary refl)
shape-expression (suc n) = shape-rows strengths (unary (deep_primary (expression n))) (signs ++ deep_firsts) base_afters strengths-apart
    (shape-unary (deep_primary (expression n)) deep_firsts base_afters (shape-deep_primary (expression n) (expression_firsts n) expression_afters (shape-expression n) refl refl refl) refl)

pub shape-reference : (n : ℕ) → Shape (reference n) name_kinds base_afters
unfolding reference flat_reference flat_part name
shape-reference zero = record { predictive = refl; filled = refl; first = refl; after = λ k h. among_left (Point ∷ []) (OpenBracket ∷ []) k h }
shape-reference (suc n) = shape-deep_reference (expression n) (expression_firsts n) expression_afters (shape-expression n) refl refl
