-- The forms of statements at each level.
use Rattle.std.specs.{Prelude.{ℕ, zero, suc, ◌-◌, List, [], ◌∷◌}, List.{flat_map}}
use Rattle.fb_grammar.specs.declared.kind.Kind.{Kind}
use Rattle.fb_grammar.specs.declared.kind.Kind.TheVariants.{Assign, Semicolon, Colon, Range, Plus, Minus, Exit, Return, If, Then, Elsif, Else, EndIf, Case, Of, EndCase, For, To, By, Do, EndFor, While, EndWhile, Repeat, Until, EndRepeat}
use Rattle.fb_grammar.specs.{declared.lexeme.Lexeme.{Lexeme}, Kind.{name_kinds}, Form.{Form, one, both, either, option, many, as_value}}
use Rattle.fb_grammar.specs.{Literals.{number_kinds, typed_kinds}, Words.{key, before, behind, passed, optional_list, list, cons, name}}
use Rattle.fb_tree.specs.Expression.{Expression}
use Rattle.fb_tree.specs.Statement.{Statement, empty, assignment, exit, return, choice, selection, count, while_loop, repeat_loop, statements_of, arms_of}
use Rattle.fb_structured_text.specs.Expression.{expression, reference}

-- TYPED | ['+' | '-'] NUMBER
unfoldable pub int : Form (Unit {0})
int = either (passed (one typed_kinds)) (passed (both (option (one (Plus ∷ Minus ∷ []))) (one number_kinds)))

-- int ['..' int]
unfoldable pub label : Form (Unit {0})
label = passed (both int (option (behind (key Range) int)))

-- label {',' label}
unfoldable pub labels : Form (Unit {0})
labels = passed (list label)

-- a word and ';'
unfoldable pub ended : Kind → Form Lexeme
ended word = before (key word) (key Semicolon)

-- ref ':=' expr ';'
unfoldable pub assignment_statement : ℕ → Form Statement
assignment_statement n =
    as_value (λ v. assignment v.0.0 v.0.1 v.1.0.span v.1.1) (both (reference n) (both (key Assign) (before (expression n) (key Semicolon))))

-- ';' | 'EXIT' ';' | 'RETURN' ';' | ref ':=' expr ';'
unfoldable pub simple_statement : ℕ → Form Statement
simple_statement n =
    either (as_value (λ _. empty) (key Semicolon))
    (either (as_value (λ _. exit) (ended Exit))
    (either (as_value (λ _. return) (ended Return)) (assignment_statement n)))

-- what begins a statement that contains no others
abbrev pub simple_firsts : List Kind
simple_firsts = Semicolon ∷ Exit ∷ Return ∷ name_kinds

-- a word, S and another word
unfoldable pub enclosed : Kind → Form Statement → Kind → Form (List Statement)
enclosed word inner end = behind (key word) (before (many inner) (key end))

-- a word and expr
unfoldable pub announced : Kind → Form Expression → Form Expression
announced word e = behind (key word) e

-- ['ELSE' S]
unfoldable pub otherwise : Form Statement → Form (List Statement)
otherwise inner = optional_list (behind (key Else) (many inner))

-- 'IF' expr 'THEN' S, or the same with 'ELSIF'
unfoldable pub arm : Kind → Form Expression → Form Statement → Form (Expression × List Statement)
arm word e inner = both (announced word e) (behind (key Then) (many inner))

-- 'IF' expr 'THEN' S {'ELSIF' expr 'THEN' S}
unfoldable pub arms : Form Expression → Form Statement → Form (List (Expression × List Statement))
arms e inner = as_value cons (both (arm If e inner) (many (arm Elsif e inner)))

-- 'IF' expr 'THEN' S {'ELSIF' expr 'THEN' S} ['ELSE' S] 'END_IF'
unfoldable pub if_statement : Form Expression → Form Statement → Form Statement
if_statement e inner = as_value (λ v. choice (arms_of v.0) (statements_of v.1)) (both (arms e inner) (before (otherwise inner) (key EndIf)))

-- label {',' label} ':' S
unfoldable pub case : Form Statement → Form (List Statement)
case inner = behind labels (behind (key Colon) (many inner))

-- case {case}, whose statements are kept in one list
unfoldable pub cases : Form Statement → Form (List Statement)
cases inner = as_value (λ v. flat_map (λ ss. ss) (cons v)) (both (case inner) (many (case inner)))

-- 'CASE' expr 'OF' case {case} ['ELSE' S] 'END_CASE'
unfoldable pub case_statement : Form Expression → Form Statement → Form Statement
case_statement e inner =
    as_value (λ v. selection v.0 (statements_of v.1.0) (statements_of v.1.1))
    (both (announced Case e) (behind (key Of) (both (cases inner) (before (otherwise inner) (key EndCase)))))

-- 'FOR' name ':=' expr 'TO' expr ['BY' expr] 'DO' S 'END_FOR'
unfoldable pub for_statement : Form Expression → Form Statement → Form Statement
for_statement e inner =
    as_value (λ v. count v.0 v.1.0 v.1.1.0 v.1.1.1.0 (statements_of v.1.1.1.1))
    (both (behind (key For) name) (both (announced Assign e) (both (announced To e) (both (option (announced By e)) (enclosed Do inner EndFor)))))

-- 'WHILE' expr 'DO' S 'END_WHILE'
unfoldable pub while_statement : Form Expression → Form Statement → Form Statement
while_statement e inner = as_value (λ v. while_loop v.0 (statements_of v.1)) (both (announced While e) (enclosed Do inner EndWhile))

-- 'REPEAT' S 'UNTIL' expr 'END_REPEAT'
unfoldable pub repeat_statement : Form Expression → Form Statement → Form Statement
repeat_statement e inner = as_value (λ v. repeat_loop (statements_of v.0) v.1) (both (enclosed Repeat inner Until) (before e (key EndRepeat)))

-- a statement that contains others
unfoldable pub nested_statement : Form Expression → Form Statement → Form Statement
nested_statement e inner =
    either (if_statement e inner)
    (either (case_statement e inner)
    (either (for_statement e inner)
    (either (while_statement e inner) (repeat_statement e inner))))

-- a statement with this number of levels below its own
unfoldable pub statement : ℕ → Form Statement
statement zero = simple_statement zero
statement (suc n) = either (simple_statement (suc n)) (nested_statement (expression (suc n)) (statement n))

-- a form with expressions and statements in it, of a statement with this number of levels below its own
abbrev pub at_level : {A : Type 0} → (Form Expression → Form Statement → Form A) → ℕ → Form A
at_level form n = form (expression n) (statement (n - 1))
