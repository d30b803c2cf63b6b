-- One token tells how to go on in a statement, at each level.
use Rattle.std.proofs.Common.{◌≡◌, ℕ, zero, suc, true, List, [], ◌∷◌, ◌++◌, refl}
use Rattle.fb_grammar.specs.declared.kind.Kind.{Kind}
use Rattle.fb_grammar.specs.declared.kind.Kind.TheVariants.{Assign, Semicolon, Then, Of, To, By, Do, EndRepeat, If, Case, For, While, Repeat}
use Rattle.fb_grammar.specs.{Kind.{name_kinds}, Form.{Form, many}, Reading.{is_predictive, after}, Words.{name}}
use Rattle.fb_grammar.proofs.Shapes.{Shape, Closed, apart_within, closed_either}
use Rattle.fb_tree.specs.{Expression.{Expression}, Statement.{Statement}}
use Rattle.fb_structured_text.specs.Expression.{expression, reference}
use Rattle.fb_structured_text.specs.Statement.{statement, simple_firsts, simple_statement, assignment_statement, ended, nested_statement, if_statement, arms, arm, announced, enclosed, case_statement, cases, case, for_statement, while_statement, repeat_statement, otherwise, labels, label, int}
use Rattle.fb_structured_text.proofs.ExpressionLevels.{base_afters, expression_afters, expression_firsts, shape-expression, shape-reference}

closed-assignment : (n : ℕ) → Closed (assignment_statement n) name_kinds
unfolding assignment_statement
closed-assignment n =
    let r = shape-reference n in
    let e = shape-expression n in
    let no_assign = apart_within (after (reference n)) base_afters (Assign ∷ []) r.after refl in
    let no_semicolon = apart_within (after (expression n)) expression_afters (Semicolon ∷ []) e.after refl in
    record {
      predictive = rw (r.predictive, e.predictive, no_assign, no_semicolon) refl;
      filled = rw r.filled refl;
      first = rw (r.filled, r.first) refl;
      after = rw e.filled refl;
    }

pub closed-simple : (n : ℕ) → Closed (simple_statement n) simple_firsts
unfolding simple_statement ended
closed-simple n =
    let a = closed-assignment n in
    record {
      predictive = rw (a.predictive, a.filled, a.first) refl;
      filled = rw a.filled refl;
      first = rw a.first refl;
      after = rw a.after refl;
    }

abbrev pub nested_firsts : List Kind
nested_firsts = If ∷ Case ∷ For ∷ While ∷ Repeat ∷ []

abbrev pub statement_firsts : ℕ → List Kind
statement_firsts zero = simple_firsts
statement_firsts (suc n) = simple_firsts ++ nested_firsts

predictive-if : (e : Form Expression) (inner : Form Statement) (firsts : List Kind) (n : ℕ) → Shape e firsts expression_afters → Closed inner (statement_firsts n) → is_predictive (if_statement e inner) ≡ true
unfolding if_statement arms arm announced otherwise
predictive-if e inner firsts zero s i =
    let no_then = apart_within (after e) expression_afters (Then ∷ []) s.after refl in
    rw (s.predictive, s.filled, i.predictive, i.filled, i.first, i.after, no_then) refl
predictive-if e inner firsts (suc n) s i =
    let no_then = apart_within (after e) expression_afters (Then ∷ []) s.after refl in
    rw (s.predictive, s.filled, i.predictive, i.filled, i.first, i.after, no_then) refl

predictive-case : (e : Form Expression) (inner : Form Statement) (firsts : List Kind) (n : ℕ) → Shape e firsts expression_afters → Closed inner (statement_firsts n) → is_predictive (case_statement e inner) ≡ true
unfolding case_statement cases case labels label int announced otherwise
predictive-case e inner firsts zero s i =
    let no_of = apart_within (after e) expression_afters (Of ∷ []) s.after refl in
    rw (s.predictive, s.filled, i.predictive, i.filled, i.first, i.after, no_of) refl
predictive-case e inner firsts (suc n) s i =
    let no_of = apart_within (after e) expression_afters (Of ∷ []) s.after refl in
    rw (s.predictive, s.filled, i.predictive, i.filled, i.first, i.after, no_of) refl

predictive-while : (e : Form Expression) (inner : Form Statement) (firsts : List Kind) (n : ℕ) → Shape e firsts expression_afters → Closed inner (statement_firsts n) → is_predictive (while_statement e inner) ≡ true
unfolding while_statement announced enclosed
predictive-while e inner firsts zero s i =
    let no_do = apart_within (after e) expression_afters (Do ∷ []) s.after refl in
    rw (s.predictive, s.filled, i.predictive, i.filled, i.first, i.after, no_do) refl
predictive-while e inner firsts (suc n) s i =
    let no_do = apart_within (after e) expression_afters (Do ∷ []) s.after refl in
    rw (s.predictive, s.filled, i.predictive, i.filled, i.first, i.after, no_do) refl

predictive-repeat : (e : Form Expression) (inner : Form Statement) (firsts : List Kind) (n : ℕ) → Shape e firsts expression_afters → Closed inner (statement_firsts n) → is_predictive (repeat_statement e inner) ≡ true
unfolding repeat_statement enclosed
predictive-repeat e inner firsts zero s i =
    let no_end = apart_within (after e) expression_afters (EndRepeat ∷ []) s.after refl in
    rw (s.predictive, i.predictive, i.filled, i.first, i.after, no_end) refl
predictive-repeat e inner firsts (suc n) s i =
    let no_end = apart_within (after e) expression_afters (EndRepeat ∷ []) s.after refl in
    rw (s.predictive, i.predictive, i.filled, i.first, i.after, no_end) refl

predictive-for : (e : Form Expression) (inner : Form Statement) (firsts : List Kind) (n : ℕ) → Shape e firsts expression_afters → Closed inner (statement_firsts n) → is_predictive (for_statement e inner) ≡ true
unfolding for_statement announced enclosed name
predictive-for e inner firsts zero s i =
    let no_to = apart_within (after e) expression_afters (To ∷ []) s.after refl in
    let no_by = apart_within (after e) expression_afters (By ∷ Do ∷ []) s.after refl in
    let no_do = apart_within (after e) expression_afters (Do ∷ []) s.after refl in
    rw (s.predictive, s.filled, i.predictive, i.filled, i.first, i.after, no_to, no_by, no_do) refl
predictive-for e inner firsts (suc n) s i =
    let no_to = apart_within (after e) expression_afters (To ∷ []) s.after refl in
    let no_by = apart_within (after e) expression_afters (By ∷ Do ∷ []) s.after refl in
    let no_do = apart_within (after e) expression_afters (Do ∷ []) s.after refl in
    rw (s.predictive, s.filled, i.predictive, i.filled, i.first, i.after, no_to, no_by, no_do) refl

closed-if : (e : Form Expression) (inner : Form Statement) (firsts : List Kind) (n : ℕ) → Shape e firsts expression_afters → Closed inner (statement_firsts n) → Closed (if_statement e inner) (If ∷ [])
unfolding if_statement arms arm announced otherwise
closed-if e inner firsts n s i = record { predictive = predictive-if e inner firsts n s i; filled = refl; first = refl; after = refl }

closed-case : (e : Form Expression) (inner : Form Statement) (firsts : List Kind) (n : ℕ) → Shape e firsts expression_afters → Closed inner (statement_firsts n) → Closed (case_statement e inner) (Case ∷ [])
unfolding case_statement cases case labels label int announced otherwise
closed-case e inner firsts n s i = record { predictive = predictive-case e inner firsts n s i; filled = refl; first = refl; after = refl }

closed-for : (e : Form Expression) (inner : Form Statement) (firsts : List Kind) (n : ℕ) → Shape e firsts expression_afters → Closed inner (statement_firsts n) → Closed (for_statement e inner) (For ∷ [])
unfolding for_statement announced enclosed name
closed-for e inner firsts n s i = record { predictive = predictive-for e inner firsts n s i; filled = refl; first = refl; after = refl }

closed-while : (e : Form Expression) (inner : Form Statement) (firsts : List Kind) (n : ℕ) → Shape e firsts expression_afters → Closed inner (statement_firsts n) → Closed (while_statement e inner) (While ∷ [])
unfolding while_statement announced enclosed
closed-while e inner firsts n s i = record { predictive = predictive-while e inner firsts n s i; filled = refl; first = refl; after = refl }

closed-repeat : (e : Form Expression) (inner : Form Statement) (firsts : List Kind) (n : ℕ) → Shape e firsts expression_afters → Closed inner (statement_firsts n) → Closed (repeat_statement e inner) (Repeat ∷ [])
unfolding repeat_statement enclosed
closed-repeat e inner firsts n s i = record { predictive = predictive-repeat e inner firsts n s i; filled = refl; first = refl; after = rw s.filled refl }

closed-nested : (e : Form Expression) (inner : Form Statement) (firsts : List Kind) (n : ℕ) → Shape e firsts expression_afters → Closed inner (statement_firsts n) → Closed (nested_statement e inner) nested_firsts
unfolding nested_statement
closed-nested e inner firsts n s i =
    closed_either _ _ (If ∷ []) (Case ∷ For ∷ While ∷ Repeat ∷ []) (closed-if e inner firsts n s i)
    (closed_either _ _ (Case ∷ []) (For ∷ While ∷ Repeat ∷ []) (closed-case e inner firsts n s i)
    (closed_either _ _ (For ∷ []) (While ∷ Repeat ∷ []) (closed-for e inner firsts n s i)
    (closed_either _ _ (While ∷ []) (Repeat ∷ []) (closed-while e inner firsts n s i) (closed-repeat e inner firsts n s i) refl) refl) refl) refl

-- at each level a statement is told by its first token, and closed by its last
pub closed-statement : (n : ℕ) → Closed (statement n) (statement_firsts n)
unfolding statement
closed-statement zero = closed-simple zero
closed-statement (suc n) =
    closed_either (simple_statement (suc n)) (nested_statement (expression (suc n)) (statement n)) simple_firsts nested_firsts (closed-simple (suc n))
    (closed-nested (expression (suc n)) (statement n) (expression_firsts (suc n)) n (shape-expression (suc n)) (closed-statement n)) refl

-- the same of statements one behind the other
pub predictive-statements : (n : ℕ) → is_predictive (many (statement n)) ≡ true
predictive-statements zero = let s = closed-statement zero in rw (s.predictive, s.filled, s.after) refl
predictive-statements (suc n) = let s = closed-statement (suc n) in rw (s.predictive, s.filled, s.after) refl
