-- Reading statements, as loops do.
use Rattle.std.proofs.Common.{◌≡◌, ℕ, zero, suc, ◌-◌, ◌<◌, Bool, true, false, ◌||◌, List, [], ◌∷◌, ◌++◌, Ok, Err, refl, sym, ap, ◌∙◌, append_assoc, arith}
use Rattle.std.proofs.lemmas.List.{append-nil}
use Rattle.std.specs.List.{flat_map}
use Rattle.fb_tree.proofs.Text.Tests.{or_assoc}
use Rattle.fb_grammar.specs.{declared.kind.Kind.{Kind}, declared.kind.Kind.TheVariants.{If, Case, For, While}, declared.lexeme.Lexeme.{Lexeme}}
use Rattle.fb_grammar.specs.{Kind.{is_among, same_kind}, declared.stop.Stop.{Stop}, declared.stop.Stop.TheVariants.{Memory, Broken}}
use Rattle.fb_grammar.specs.{Form.{Form, either, many}, Gives.{Fails}, Words.{further}, Reading.{Outcome, ◌>>=◌, is_next, first, read}}
use Rattle.fb_grammar.specs.Repetition.{with_prefix}
use Rattle.fb_grammar.proofs.Loops.{many_more, many_fails, many_none, Begins}
use Rattle.fb_tree.specs.{Expression.{Expression}, Statement.{Statement}}
use Rattle.fb_structured_text.specs.Expression.{expression}
use Rattle.fb_structured_text.specs.Statement.{statement, simple_firsts, simple_statement, nested_statement, if_statement, arms, arm, announced, case_statement, case, for_statement, while_statement, repeat_statement, labels, label, int}
use Rattle.fb_structured_text.proofs.StatementLevels.{closed-simple, closed-statement, nested_firsts, statement_firsts}

-- what begins a statement

among-both : (a b : List Kind) (k : Kind) → is_among (a ++ b) k ≡ (is_among a k || is_among b k)
among-both [] b k = refl
among-both (x ∷ a) b k = ap (λ (z : Bool). same_kind x k || z) (among-both a b k) ∙ or_assoc (same_kind x k) (is_among a k) (is_among b k)

pub next_both : (a b : List Kind) (ts : List Lexeme) → is_next (a ++ b) ts ≡ (is_next a ts || is_next b ts)
next_both a b [] = refl
next_both a b (t ∷ ts) = among-both a b t.kind

next-statement : (n : ℕ) (ts : List Lexeme) → is_next (first (statement n)) ts ≡ is_next (statement_firsts n) ts
next-statement n ts = ap (λ (k : List Kind). is_next k ts) (closed-statement n).first

pub begins_simple : (n : ℕ) (ts : List Lexeme) → is_next simple_firsts ts ≡ true → is_next (first (statement n)) ts ≡ true
begins_simple zero ts h = next-statement zero ts ∙ h
begins_simple (suc n) ts h = next-statement (suc n) ts ∙ next_both simple_firsts nested_firsts ts ∙ ap (λ (z : Bool). z || is_next nested_firsts ts) h

pub begins_nested : (n : ℕ) (ts : List Lexeme) → 0 < n → is_next simple_firsts ts ≡ false → is_next (first (statement n)) ts ≡ is_next nested_firsts ts
begins_nested zero ts above h = absurd (omega arith)
begins_nested (suc n) ts above h = next-statement (suc n) ts ∙ next_both simple_firsts nested_firsts ts ∙ ap (λ (z : Bool). z || is_next nested_firsts ts) h

pub begins_none : (n : ℕ) (ts : List Lexeme) → n ≡ 0 → is_next simple_firsts ts ≡ false → is_next (first (statement n)) ts ≡ false
begins_none zero ts none h = next-statement zero ts ∙ h
begins_none (suc n) ts none h = absurd (omega arith)

pub begins-statement : (n : ℕ) → Begins (statement n) (first (statement n))
begins-statement n = record { filled = (closed-statement n).filled; first = refl }

pub statement_zero : (n : ℕ) (ts : List Lexeme) → n ≡ 0 → read (statement n) ts ≡ read (simple_statement n) ts
unfolding statement
statement_zero zero ts h = refl
statement_zero (suc n) ts h = absurd (omega arith)

next-simple : (n : ℕ) (ts : List Lexeme) (t : Bool) → is_next simple_firsts ts ≡ t → is_next (first (simple_statement n)) ts ≡ t
next-simple n ts t h = ap (λ (k : List Kind). is_next k ts) (closed-simple n).first ∙ h

pub statement_simple : (n : ℕ) (ts : List Lexeme) → is_next simple_firsts ts ≡ true → read (statement n) ts ≡ read (simple_statement n) ts
unfolding statement
statement_simple zero ts h = refl
statement_simple (suc n) ts h = rw (next-simple (suc n) ts true h) refl

pub statement_nested : (n : ℕ) (ts : List Lexeme) → 0 < n → is_next simple_firsts ts ≡ false → read (statement n) ts ≡ read (nested_statement (expression n) (statement (n - 1))) ts
unfolding statement
statement_nested zero ts above h = absurd (omega arith)
statement_nested (suc n) ts above h =
    let less : n ≡ suc n - 1 = omega arith in
    rw (next-simple (suc n) ts false h) (ap (λ (m : ℕ). read (nested_statement (expression (suc n)) (statement m)) ts) less)

-- which statement it is

read-either : {A : Type 0} (x y : Form A) (kinds : List Kind) (ts : List Lexeme) → first x ≡ kinds → is_next kinds ts ≡ true → read (either x y) ts ≡ read x ts
read-either x y kinds ts e h = let next : is_next (first x) ts ≡ true = ap (λ (k : List Kind). is_next k ts) e ∙ h in rw next refl

read-other : {A : Type 0} (x y : Form A) (kinds : List Kind) (ts : List Lexeme) → first x ≡ kinds → is_next kinds ts ≡ false → read (either x y) ts ≡ read y ts
read-other x y kinds ts e h = let next : is_next (first x) ts ≡ false = ap (λ (k : List Kind). is_next k ts) e ∙ h in rw next refl

first-if : (e : Form Expression) (inner : Form Statement) → first (if_statement e inner) ≡ If ∷ []
unfolding if_statement arms arm announced
first-if e inner = refl

first-case : (e : Form Expression) (inner : Form Statement) → first (case_statement e inner) ≡ Case ∷ []
unfolding case_statement announced
first-case e inner = refl

first-for : (e : Form Expression) (inner : Form Statement) → first (for_statement e inner) ≡ For ∷ []
unfolding for_statement
first-for e inner = refl

first-while : (e : Form Expression) (inner : Form Statement) → first (while_statement e inner) ≡ While ∷ []
unfolding while_statement announced
first-while e inner = refl

abbrev from-while : Form Expression → Form Statement → Form Statement
from-while e inner = either (while_statement e inner) (repeat_statement e inner)

abbrev from-for : Form Expression → Form Statement → Form Statement
from-for e inner = either (for_statement e inner) (from-while e inner)

abbrev from-case : Form Expression → Form Statement → Form Statement
from-case e inner = either (case_statement e inner) (from-for e inner)

pub nested_if : (e : Form Expression) (inner : Form Statement) (ts : List Lexeme) → is_next (If ∷ []) ts ≡ true → read (nested_statement e inner) ts ≡ read (if_statement e inner) ts
unfolding nested_statement
nested_if e inner ts h = read-either (if_statement e inner) (from-case e inner) (If ∷ []) ts (first-if e inner) h

not_if : (e : Form Expression) (inner : Form Statement) (ts : List Lexeme) → is_next (If ∷ []) ts ≡ false → read (nested_statement e inner) ts ≡ read (from-case e inner) ts
unfolding nested_statement
not_if e inner ts h = read-other (if_statement e inner) (from-case e inner) (If ∷ []) ts (first-if e inner) h

pub nested_case : (e : Form Expression) (inner : Form Statement) (ts : List Lexeme) → is_next (If ∷ []) ts ≡ false → is_next (Case ∷ []) ts ≡ true → read (nested_statement e inner) ts ≡ read (case_statement e inner) ts
nested_case e inner ts h g = not_if e inner ts h ∙ read-either (case_statement e inner) (from-for e inner) (Case ∷ []) ts (first-case e inner) g

not_case : (e : Form Expression) (inner : Form Statement) (ts : List Lexeme) → is_next (If ∷ []) ts ≡ false → is_next (Case ∷ []) ts ≡ false → read (nested_statement e inner) ts ≡ read (from-for e inner) ts
not_case e inner ts h g = not_if e inner ts h ∙ read-other (case_statement e inner) (from-for e inner) (Case ∷ []) ts (first-case e inner) g

pub nested_for : (e : Form Expression) (inner : Form Statement) (ts : List Lexeme) → is_next (If ∷ []) ts ≡ false → is_next (Case ∷ []) ts ≡ false → is_next (For ∷ []) ts ≡ true → read (nested_statement e inner) ts ≡ read (for_statement e inner) ts
nested_for e inner ts h g f = not_case e inner ts h g ∙ read-either (for_statement e inner) (from-while e inner) (For ∷ []) ts (first-for e inner) f

not_for : (e : Form Expression) (inner : Form Statement) (ts : List Lexeme) → is_next (If ∷ []) ts ≡ false → is_next (Case ∷ []) ts ≡ false → is_next (For ∷ []) ts ≡ false → read (nested_statement e inner) ts ≡ read (from-while e inner) ts
not_for e inner ts h g f = not_case e inner ts h g ∙ read-other (for_statement e inner) (from-while e inner) (For ∷ []) ts (first-for e inner) f

pub nested_while : (e : Form Expression) (inner : Form Statement) (ts : List Lexeme) → is_next (If ∷ []) ts ≡ false → is_next (Case ∷ []) ts ≡ false → is_next (For ∷ []) ts ≡ false → is_next (While ∷ []) ts ≡ true → read (nested_statement e inner) ts ≡ read (while_statement e inner) ts
nested_while e inner ts h g f w = not_for e inner ts h g f ∙ read-either (while_statement e inner) (repeat_statement e inner) (While ∷ []) ts (first-while e inner) w

pub nested_repeat : (e : Form Expression) (inner : Form Statement) (ts : List Lexeme) → is_next (If ∷ []) ts ≡ false → is_next (Case ∷ []) ts ≡ false → is_next (For ∷ []) ts ≡ false → is_next (While ∷ []) ts ≡ false → read (nested_statement e inner) ts ≡ read (repeat_statement e inner) ts
nested_repeat e inner ts h g f w = not_for e inner ts h g f ∙ read-other (while_statement e inner) (repeat_statement e inner) (While ∷ []) ts (first-while e inner) w

-- one value, and then others

pub begins-arm : (word : Kind) (e : Form Expression) (inner : Form Statement) → Begins (arm word e inner) (word ∷ [])
unfolding arm announced
begins-arm word e inner = record { filled = refl; first = refl }

-- the statements of all cases

pub begins-case : (inner : Form Statement) → Begins (case inner) (first labels)
unfolding case labels label int
begins-case inner = record { filled = refl; first = refl }

abbrev pub flat : Outcome (List (List Statement)) → Outcome (List Statement)
flat r = r >>= λ b. Ok (flat_map (λ (z : List Statement). z) b.0, b.1)

flat_again : (prefix v : List Statement) (r : Outcome (List (List Statement))) → with_prefix prefix (flat (r >>= λ b. Ok (v ∷ b.0, b.1))) ≡ with_prefix (prefix ++ v) (flat r)
flat_again prefix v (Ok b) = ap (λ (z : List Statement). Ok (z, b.1)) (sym (append_assoc prefix v (flat_map (λ (z : List Statement). z) b.0)))
flat_again prefix v (Err rest) = refl

next-case : (inner : Form Statement) (ts : List Lexeme) (t : Bool) → is_next (first labels) ts ≡ t → is_next (first (case inner)) ts ≡ t
next-case inner ts t h = ap (λ (k : List Kind). is_next k ts) (begins-case inner).first ∙ h

pub cases_more : (inner : Form Statement) (prefix new : List Statement) (ts : List Lexeme) (v : List Statement) (mid : List Lexeme) (total : Outcome (List Statement)) → is_next (first labels) ts ≡ true → read (case inner) ts ≡ Ok (v, mid)
    → new ≡ prefix ++ v → with_prefix prefix (flat (read (many (case inner)) ts)) ≡ total → with_prefix new (flat (read (many (case inner)) mid)) ≡ total
cases_more inner prefix new ts v mid total next e pushed so_far =
    ap (λ (z : List Statement). with_prefix z (flat (read (many (case inner)) mid))) pushed
    ∙ sym (flat_again prefix v (read (many (case inner)) mid))
    ∙ ap (λ (r : Outcome (List (List Statement))). with_prefix prefix (flat r)) (sym (many_more (case inner) ts v mid (begins-case inner).filled (next-case inner ts true next) e))
    ∙ so_far

pub cases_fails : (inner : Form Statement) (prefix : List Statement) (ts : List Lexeme) (stop : Stop) (rest : List Lexeme) (total : Outcome (List Statement)) → is_next (first labels) ts ≡ true → Fails stop rest (read (case inner) ts)
    → with_prefix prefix (flat (read (many (case inner)) ts)) ≡ total → Fails stop rest total
cases_fails inner prefix ts Memory rest total next e so_far = tt
cases_fails inner prefix ts Broken rest total next e so_far =
    sym so_far ∙ ap (λ (r : Outcome (List (List Statement))). with_prefix prefix (flat r)) (many_fails (case inner) ts rest (next-case inner ts true next) e)

pub cases_done : (inner : Form Statement) (prefix : List Statement) (ts : List Lexeme) (total : Outcome (List Statement)) → is_next (first labels) ts ≡ false
    → with_prefix prefix (flat (read (many (case inner)) ts)) ≡ total → total ≡ Ok (prefix, ts)
cases_done inner prefix ts total next so_far =
    sym so_far ∙ ap (λ (r : Outcome (List (List Statement))). with_prefix prefix (flat r)) (many_none (case inner) ts (next-case inner ts false next))
    ∙ ap (λ (z : List Statement). Ok (z, ts)) (append-nil prefix)

-- labels, which are passed over

abbrev pub gone : Outcome (List (Unit {0})) → Outcome (Unit {0})
gone r = r >>= λ b. Ok (tt, b.1)

gone_again : (v : Unit {0}) (r : Outcome (List (Unit {0}))) → gone (r >>= λ b. Ok (v ∷ b.0, b.1)) ≡ gone r
gone_again v (Ok b) = refl
gone_again v (Err rest) = refl

pub labels_more : (ts mid : List Lexeme) (total : Outcome (Unit {0})) → is_next (first (further label)) ts ≡ true → read (further label) ts ≡ Ok (tt, mid)
    → gone (read (many (further label)) ts) ≡ total → gone (read (many (further label)) mid) ≡ total
labels_more ts mid total next e so_far =
    sym (gone_again tt (read (many (further label)) mid)) ∙ ap gone (sym (many_more (further label) ts tt mid refl next e)) ∙ so_far
