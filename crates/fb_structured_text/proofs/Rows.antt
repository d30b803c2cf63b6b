-- Reading rows of operands.
use Rattle.std.proofs.Common.{◌≡◌, ℕ, zero, suc, ◌+◌, ◌-◌, ◌<◌, ◌≤◌, Bool, true, false, true≢false, cond, nat_eq, List, [], ◌∷◌, length, drop, length-append, Ok, Err, refl, sym, ap, subst, ◌∙◌, add-one, arith, eq-eqb}
use Rattle.std.proofs.{Math.Seq.{drop-cons}, lemmas.Bool.Decides.{nat_tests}}
use borrow.Author.Tests.{eqb-true}
use Rattle.fb_grammar.specs.{declared.kind.Kind.{Kind}, declared.kind.Kind.TheVariants.{Or, Point, End, NeverClosed}, declared.lexeme.Lexeme.{Lexeme}}
use Rattle.fb_grammar.specs.{declared.stop.Stop.{Stop}, declared.stop.Stop.TheVariants.{Memory, Broken}, Form.{Form, one, both, many, as_value, Spells, Prefix}}
use Rattle.fb_grammar.specs.{Gives.{Fails}, Kind.{is_among, name_kinds}, Words.{name}, Reading.{Outcome, ◌>>=◌, is_nullable, is_next, first, read_each, read}}
use Rattle.fb_grammar.specs.{Repetition.{with_prefix}, Upcoming.{are_tokens}}
use Rattle.fb_grammar.proofs.{Forms.{Right, ok_one, right_read}, Loops.{many_more, many_fails, many_none, shorter, Begins}}
use Rattle.fb_tree.specs.{declared.expression.BinaryUse.{BinaryUse}, Expression.{Expression, row_expression, operands_of}}
use Rattle.fb_structured_text.specs.Operators.{binary_use, next_strength, operators, strength_of, strengths}
use Rattle.fb_structured_text.specs.Expression.{PartTree, expression, rows, unary, primary, row, operand, row_of, further_part, literal, reference_value, deep_reference, deep_primary, deep_part, parenthesized}

pub begins-operand : (kinds : List Kind) (x : Form Expression) → Begins (operand kinds x) kinds
unfolding operand
begins-operand kinds x = record { filled = refl; first = refl }

-- what a row stands for
abbrev finish : Expression → Outcome (List (BinaryUse × Expression)) → Outcome Expression
finish e r = r >>= λ b. Ok (row_of e b.0, b.1)

abbrev paired : Expression → Outcome (List (BinaryUse × Expression)) → Outcome (Expression × List (BinaryUse × Expression))
paired e r = r >>= λ b. Ok ((e, b.0), b.1)

finish-paired : (e : Expression) (r : Outcome (List (BinaryUse × Expression))) → (paired e r >>= λ p. Ok (row_of p.0.0 p.0.1, p.1)) ≡ finish e r
finish-paired e (Ok b) = refl
finish-paired e (Err rest) = refl

read-row : (kinds : List Kind) (x : Form Expression) (ts : List Lexeme) (e : Expression) (mid : List Lexeme) → read x ts ≡ Ok (e, mid) → read (row kinds x) ts ≡ finish e (read (many (operand kinds x)) mid)
unfolding row
read-row kinds x ts e mid h = rw h (finish-paired e (read (many (operand kinds x)) mid))

next-operand : (kinds : List Kind) (x : Form Expression) (ts : List Lexeme) (t : Bool) → is_next kinds ts ≡ t → is_next (first (operand kinds x)) ts ≡ t
next-operand kinds x ts t h = ap (λ (k : List Kind). is_next k ts) (begins-operand kinds x).first ∙ h

-- no operator comes
row_one : (kinds : List Kind) (x : Form Expression) (ts : List Lexeme) (e : Expression) (mid : List Lexeme) → read x ts ≡ Ok (e, mid) → is_next kinds mid ≡ false → read (row kinds x) ts ≡ Ok (e, mid)
row_one kinds x ts e mid h next = read-row kinds x ts e mid h ∙ ap (finish e) (many_none (operand kinds x) mid (next-operand kinds x mid false next))

nil_cons : {A : Type 0} (v : A) (vs : List A) → [] ≡ v ∷ vs → ⊥
nil_cons v vs h = cc

list_part : {A : Type 0} (r : Outcome (List A)) (a b : List A × List Lexeme) → r ≡ Ok a → r ≡ Ok b → a.0 ≡ b.0
list_part {A} r a b e f = ap (λ (z : List A × List Lexeme). z.0) (ok_one r a b e f)

not_none_here : {A : Type 0} (v : A) (r : Outcome (List A)) (rest : List Lexeme) → (r >>= λ vs. Ok (v ∷ vs.0, vs.1)) ≡ Ok ([], rest) → ⊥
not_none_here {A} v (Ok vs) rest h =
    let whole : Outcome (List A) = Ok (v ∷ vs.0, vs.1) in
    nil_cons v vs.0 (list_part whole ([], rest) (v ∷ vs.0, vs.1) h refl)
not_none_here v (Err d) rest h = cc h

not_none : {A : Type 0} (r : Outcome A) (f : A × List Lexeme → Outcome (List A)) (rest : List Lexeme) → (r >>= λ v. f v >>= λ vs. Ok (v.0 ∷ vs.0, vs.1)) ≡ Ok ([], rest) → ⊥
not_none (Ok v) f rest h = not_none_here v.0 (f v) rest h
not_none (Err d) f rest h = cc h

several_read : {A : Type 0} (x : Form A) (ts rest : List Lexeme) → is_next (first x) ts ≡ true → read (many x) ts ≡ Ok ([], rest) → ⊥
several_read x [] rest next h = cc next
several_read x (t ∷ ts) rest next h = not_none (read x (t ∷ ts)) (λ v. read_each (read x) (first x) (length ts) v.1) rest (rw next at h)

row-of-some : (e : Expression) (os : List (BinaryUse × Expression)) → (os ≡ [] → ⊥) → row_of e os ≡ row_expression e (operands_of os)
row-of-some e [] some = absurd (some refl)
row-of-some e (o ∷ os) some = refl

-- operators and operands come
row_done : (kinds : List Kind) (x : Form Expression) (ts : List Lexeme) (e : Expression) (mid : List Lexeme) (os : List (BinaryUse × Expression)) (rest : List Lexeme)
    → read x ts ≡ Ok (e, mid) → is_next kinds mid ≡ true → read (many (operand kinds x)) mid ≡ Ok (os, rest)
    → read (row kinds x) ts ≡ Ok (row_expression e (operands_of os), rest)
row_done kinds x ts e mid os rest h next more =
    let some : os ≡ [] → ⊥ = λ none. several_read (operand kinds x) mid rest (next-operand kinds x mid true next) (more ∙ ap (λ (z : List (BinaryUse × Expression)). Ok (z, rest)) none) in
    read-row kinds x ts e mid h ∙ ap (finish e) more ∙ ap (λ (z : Expression). Ok (z, rest)) (row-of-some e os some)

row_fails : (kinds : List Kind) (x : Form Expression) (ts : List Lexeme) (e : Expression) (mid : List Lexeme) (stop : Stop) (rest : List Lexeme)
    → read x ts ≡ Ok (e, mid) → Fails stop rest (read (many (operand kinds x)) mid) → Fails stop rest (read (row kinds x) ts)
row_fails kinds x ts e mid Memory rest h fails = tt
row_fails kinds x ts e mid Broken rest h fails = read-row kinds x ts e mid h ∙ ap (finish e) fails

-- a row fails where its first operand does
row_first_fails : (kinds : List Kind) (x : Form Expression) (ts : List Lexeme) (stop : Stop) (rest : List Lexeme) → Fails stop rest (read x ts) → Fails stop rest (read (row kinds x) ts)
unfolding row
row_first_fails kinds x ts Memory rest h = tt
row_first_fails kinds x ts Broken rest h = rw h refl

rows_cons : (kinds : List Kind) (stronger : List (List Kind)) (x : Form Expression) → rows (kinds ∷ stronger) x ≡ row kinds (rows stronger x)
unfolding rows
rows_cons kinds stronger x = refl

-- the operators of a strength stand between rows of the stronger ones
rows_step : (s : ℕ) (x : Form Expression) → s < 8 → rows (drop s strengths) x ≡ row (operators s) (rows (drop (s + 1) strengths) x)
rows_step s x h =
    let parts : drop s strengths ≡ operators s ∷ drop (s + 1) strengths = rw add-one (drop-cons strengths s [] h) in
    ap (λ (k : List (List Kind)). rows k x) parts ∙ rows_cons (operators s) (drop (s + 1) strengths) x

pub rows_none : (x : Form Expression) → rows [] x ≡ x
unfolding rows
rows_none x = refl

pub expression_is : (n : ℕ) → expression n ≡ rows strengths (unary (primary n))
unfolding expression
expression_is zero = refl
expression_is (suc n) = refl

-- what comes behind a further name begins with its point
pub begins-further_part : (part : Form PartTree) → Begins (further_part part) (Point ∷ [])
begins-further_part part = record { filled = refl; first = refl }

first-reference : (inner : Form Expression) → first (as_value reference_value (deep_reference inner)) ≡ name_kinds
unfolding deep_reference deep_part name
first-reference inner = refl

pub primary_reference : (inner : Form Expression) (ts : List Lexeme) → is_next (first literal) ts ≡ false → is_next name_kinds ts ≡ true → read (deep_primary inner) ts ≡ read (as_value reference_value (deep_reference inner)) ts
unfolding deep_primary
primary_reference inner ts h g =
    let next : is_next (first (as_value reference_value (deep_reference inner))) ts ≡ true = ap (λ (k : List Kind). is_next k ts) (first-reference inner) ∙ g in
    rw (h, next) refl

pub primary_parentheses : (inner : Form Expression) (ts : List Lexeme) → is_next (first literal) ts ≡ false → is_next name_kinds ts ≡ false → read (deep_primary inner) ts ≡ read (parenthesized inner) ts
unfolding deep_primary
primary_parentheses inner ts h g =
    let next : is_next (first (as_value reference_value (deep_reference inner))) ts ≡ false = ap (λ (k : List Kind). is_next k ts) (first-reference inner) ∙ g in
    rw (h, next) refl

-- the operators of a strength are those that have it
kinds_told : (kind : Kind) →
    (is_among (operators 0) kind ≡ nat_eq (strength_of kind) 0) × (is_among (operators 1) kind ≡ nat_eq (strength_of kind) 1)
    × (is_among (operators 2) kind ≡ nat_eq (strength_of kind) 2) × (is_among (operators 3) kind ≡ nat_eq (strength_of kind) 3)
    × (is_among (operators 4) kind ≡ nat_eq (strength_of kind) 4) × (is_among (operators 5) kind ≡ nat_eq (strength_of kind) 5)
    × (is_among (operators 6) kind ≡ nat_eq (strength_of kind) 6) × (is_among (operators 7) kind ≡ nat_eq (strength_of kind) 7)
kinds_told Or = (refl, refl, refl, refl, refl, refl, refl, refl)
kinds_told _ = (refl, refl, refl, refl, refl, refl, refl, refl)

kind_told : (s : ℕ) (kind : Kind) → s < 8 → is_among (operators s) kind ≡ nat_eq (strength_of kind) s
kind_told zero kind h = (kinds_told kind).0
kind_told (suc zero) kind h = (kinds_told kind).1
kind_told (suc (suc zero)) kind h = (kinds_told kind).2
kind_told (suc (suc (suc zero))) kind h = (kinds_told kind).3
kind_told (suc (suc (suc (suc zero)))) kind h = (kinds_told kind).4
kind_told (suc (suc (suc (suc (suc zero))))) kind h = (kinds_told kind).5
kind_told (suc (suc (suc (suc (suc (suc zero)))))) kind h = (kinds_told kind).6
kind_told (suc (suc (suc (suc (suc (suc (suc zero))))))) kind h = (kinds_told kind).7
kind_told (suc (suc (suc (suc (suc (suc (suc (suc s)))))))) kind h = absurd (omega arith)

-- operators are tokens
pub operators_are_tokens : (s : ℕ) → s < 8 → are_tokens (operators s)
operators_are_tokens s h =
    let none : nat_eq 8 s ≡ false = grind (arith, nat_tests) in
    (kind_told s End h ∙ none, kind_told s NeverClosed h ∙ none)

-- an operator of a strength has it
pub strength_told : (s : ℕ) (kind : Kind) → s < 8 → is_among (operators s) kind ≡ true → strength_of kind ≡ s
strength_told s kind h among = eqb-true (strength_of kind) s (sym (kind_told s kind h) ∙ among)

next_told : (s : ℕ) (ts : List Lexeme) → s < 8 → is_next (operators s) ts ≡ nat_eq (next_strength ts) s
next_told s [] h = let none : nat_eq 8 s ≡ false = grind (arith, nat_tests) in sym none
next_told s (t ∷ ts) h = kind_told s t.kind h

-- a weaker row fails where a stronger one does
rows_fail : (k s n : ℕ) (x : Form Expression) (ts : List Lexeme) (stop : Stop) (rest : List Lexeme) → n ≡ s + k → n ≤ 8 → Fails stop rest (read (rows (drop n strengths) x) ts) → Fails stop rest (read (rows (drop s strengths) x) ts)
rows_fail zero s n x ts stop rest e h fails =
    let same : n ≡ s = omega arith in
    subst (λ (m : ℕ). Fails stop rest (read (rows (drop m strengths) x) ts)) same fails
rows_fail (suc k) s n x ts stop rest e h fails =
    let within : s < 8 = omega arith in
    rw (rows_step s x within) (row_first_fails (operators s) (rows (drop (s + 1) strengths) x) ts stop rest (rows_fail k (s + 1) n x ts stop rest (omega arith) h fails))

-- a row fails where its first operand does
pub rows_first_fails : (s : ℕ) (x : Form Expression) (ts : List Lexeme) (stop : Stop) (rest : List Lexeme) → s ≤ 8 → Fails stop rest (read x ts) → Fails stop rest (read (rows (drop s strengths) x) ts)
rows_first_fails s x ts stop rest h fails =
    let all : Fails stop rest (read (rows (drop 8 strengths) x) ts) = rw (rows_none x) fails in
    rows_fail (8 - s) s 8 x ts stop rest (omega arith) (omega arith) all

-- the operators of a level and of the stronger ones were read
abbrev IsReadFrom : ℕ → Form Expression → List Lexeme → Expression → List Lexeme → Type 0
IsReadFrom l x ts e mid = read (rows (drop l strengths) x) ts ≡ Ok (e, mid)

-- no operator of a level comes
level_passed : (l : ℕ) (x : Form Expression) (ts : List Lexeme) (e : Expression) (mid : List Lexeme) → l < 8 → IsReadFrom (l + 1) x ts e mid → (next_strength mid ≡ l → ⊥) → IsReadFrom l x ts e mid
level_passed l x ts e mid within h other =
    let over : is_next (operators l) mid ≡ false = next_told l mid within ∙ grind (arith, nat_tests, other) in
    rw (rows_step l x within) (row_one (operators l) (rows (drop (l + 1) strengths) x) ts e mid h over)

-- no operator of these levels comes
levels_passed : (k s n : ℕ) (x : Form Expression) (ts : List Lexeme) (e : Expression) (mid : List Lexeme) → n ≡ s + k → n ≤ 8 → IsReadFrom n x ts e mid → (next_strength mid < n → next_strength mid < s) → IsReadFrom s x ts e mid
levels_passed zero s n x ts e mid is high h none =
    let same : n ≡ s = omega arith in
    subst (λ (m : ℕ). IsReadFrom m x ts e mid) same h
levels_passed (suc k) s n x ts e mid is high h none =
    let within : s < 8 = omega arith in
    let other : next_strength mid ≡ s → ⊥ = λ same. omega (arith, none (omega arith)) in
    level_passed s x ts e mid within (levels_passed k (s + 1) n x ts e mid (omega arith) high h (λ less. omega (arith, none less))) other

-- operators of a level and their operands come
level_read : (l : ℕ) (x : Form Expression) (ts : List Lexeme) (e : Expression) (mid : List Lexeme) (os : List (BinaryUse × Expression)) (rest : List Lexeme) → l < 8 → IsReadFrom (l + 1) x ts e mid → next_strength mid ≡ l
    → read (many (operand (operators l) (rows (drop (l + 1) strengths) x))) mid ≡ Ok (os, rest) → IsReadFrom l x ts (row_expression e (operands_of os)) rest
level_read l x ts e mid os rest within h same more =
    let next : is_next (operators l) mid ≡ true = next_told l mid within ∙ eq-eqb (next_strength mid) l same in
    rw (rows_step l x within) (row_done (operators l) (rows (drop (l + 1) strengths) x) ts e mid os rest h next more)

level_fails : (s l : ℕ) (x : Form Expression) (ts : List Lexeme) (e : Expression) (mid : List Lexeme) (stop : Stop) (rest : List Lexeme) → s ≤ l → l < 8 → IsReadFrom (l + 1) x ts e mid
    → Fails stop rest (read (many (operand (operators l) (rows (drop (l + 1) strengths) x))) mid) → Fails stop rest (read (rows (drop s strengths) x) ts)
level_fails s l x ts e mid stop rest low within h fails =
    let here : Fails stop rest (read (rows (drop l strengths) x) ts) =
    rw (rows_step l x within) (row_fails (operators l) (rows (drop (l + 1) strengths) x) ts e mid stop rest h fails) in
    rows_fail (l - s) s l x ts stop rest (omega arith) (omega arith) here

-- An operator of a level comes with its operand.
operand_first : (l : ℕ) (x : Form Expression) (mid : List Lexeme) (o : BinaryUse × Expression) (behind : List Lexeme) → l < 8 → next_strength mid ≡ l → read (operand (operators l) x) mid ≡ Ok (o, behind)
    → read (many (operand (operators l) x)) mid ≡ with_prefix (o ∷ []) (read (many (operand (operators l) x)) behind)
operand_first l x mid o behind within same h =
    let next : is_next (operators l) mid ≡ true = next_told l mid within ∙ eq-eqb (next_strength mid) l same in
    many_more (operand (operators l) x) mid o behind (begins-operand (operators l) x).filled (next-operand (operators l) x mid true next) h

operand_fails : (l : ℕ) (x : Form Expression) (mid : List Lexeme) (stop : Stop) (rest : List Lexeme) → l < 8 → next_strength mid ≡ l → Fails stop rest (read (operand (operators l) x) mid)
    → Fails stop rest (read (many (operand (operators l) x)) mid)
operand_fails l x mid Memory rest within same h = tt
operand_fails l x mid Broken rest within same h =
    let next : is_next (operators l) mid ≡ true = next_told l mid within ∙ eq-eqb (next_strength mid) l same in
    many_fails (operand (operators l) x) mid rest (next-operand (operators l) x mid true next) h

-- It is the only one.
operand_alone : (l : ℕ) (x : Form Expression) (mid : List Lexeme) (o : BinaryUse × Expression) (behind : List Lexeme) → l < 8 → next_strength mid ≡ l → read (operand (operators l) x) mid ≡ Ok (o, behind) → (next_strength behind ≡ l → ⊥)
    → read (many (operand (operators l) x)) mid ≡ Ok (o ∷ [], behind)
operand_alone l x mid o behind within same h other =
    let over : is_next (operators l) behind ≡ false = next_told l behind within ∙ grind (arith, nat_tests, other) in
    operand_first l x mid o behind within same h
    ∙ ap (with_prefix (o ∷ [])) (many_none (operand (operators l) x) behind (next-operand (operators l) x behind false over))

-- Behind a reading no operator comes that would go on with it.

-- the value and the tokens behind it that a part gives
record Gave {A B : Type 0} (r : Outcome A) (f : A × List Lexeme → Outcome B) (b : B) (rest : List Lexeme) : Type 0 where
  value : A
  mid : List Lexeme
  read : r ≡ Ok (value, mid)
  then : f (value, mid) ≡ Ok (b, rest)

ok_bind : {A B : Type 0} (r : Outcome A) (f : A × List Lexeme → Outcome B) (b : B) (rest : List Lexeme) → (r >>= f) ≡ Ok (b, rest) → Gave r f b rest
ok_bind (Ok a) f b rest h = record { value = a.0; mid = a.1; read = refl; then = h }
ok_bind (Err d) f b rest h = cc h

ok_rest : {A : Type 0} (v w : A) (ts rest : List Lexeme) (r : Outcome A) → r ≡ Ok (v, ts) → r ≡ Ok (w, rest) → ts ≡ rest
ok_rest {A} v w ts rest r e f = ap (λ (z : A × List Lexeme). z.1) (ok_one r (v, ts) (w, rest) e f)

-- what holds behind several values, and none comes any more
record Left {A : Type 0} (P : List Lexeme → Type 0) (x : Form A) (rest : List Lexeme) : Type 0 where
  keeps : P rest
  over : is_next (first x) rest ≡ false

left_turn : {A : Type 0} (P : List Lexeme → Type 0) (x : Form A) → is_nullable x ≡ false → ((ts : List Lexeme) (v : A) (rest : List Lexeme) → read x ts ≡ Ok (v, rest) → P rest)
    → (n : ℕ) (ts : List Lexeme) (vs : List A) (rest : List Lexeme) → length ts ≤ suc n
    → ((mid : List Lexeme) (more : List A) → length mid ≤ n → P mid → read_each (read x) (first x) n mid ≡ Ok (more, rest) → Left P x rest)
    → P ts → (next : Bool) → is_next (first x) ts ≡ next
    → cond next (read x ts >>= λ v. read_each (read x) (first x) n v.1 >>= λ more. Ok (v.0 ∷ more.0, more.1)) (Ok ([], ts)) ≡ Ok (vs, rest) → Left P x rest
left_turn {A} P x filled reads n ts vs rest within again p true next e =
    let one = ok_bind (read x ts) (λ (v : A × List Lexeme). read_each (read x) (first x) n v.1 >>= λ more. Ok (v.0 ∷ more.0, more.1)) vs rest e in
    let others = ok_bind (read_each (read x) (first x) n one.mid) (λ (more : List A × List Lexeme). Ok (one.value ∷ more.0, more.1)) vs rest one.then in
    let same : others.mid ≡ rest = ok_rest (one.value ∷ others.value) vs others.mid rest _ refl others.then in
    let less = shorter x ts one.value one.mid filled one.read in
    again one.mid others.value (omega arith) (reads ts one.value one.mid one.read) (subst (λ (z : List Lexeme). read_each (read x) (first x) n one.mid ≡ Ok (others.value, z)) same others.read)
left_turn P x filled reads n ts vs rest within again p false next e =
    subst (Left P x) (ok_rest [] vs ts rest _ refl e) (record { keeps = p; over = next })

each_leaves : {A : Type 0} (P : List Lexeme → Type 0) (x : Form A) → is_nullable x ≡ false → ((ts : List Lexeme) (v : A) (rest : List Lexeme) → read x ts ≡ Ok (v, rest) → P rest)
    → (n : ℕ) (ts : List Lexeme) (vs : List A) (rest : List Lexeme) → length ts ≤ n → P ts → read_each (read x) (first x) n ts ≡ Ok (vs, rest) → Left P x rest
each_leaves P x filled reads zero [] vs rest within p e = subst (Left P x) (ok_rest [] vs [] rest _ refl e) (record { keeps = p; over = refl })
each_leaves P x filled reads zero (t ∷ ts) vs rest within p e = absurd (omega arith)
each_leaves P x filled reads (suc n) ts vs rest within p e =
    left_turn P x filled reads n ts vs rest within (λ mid more less q f. each_leaves P x filled reads n mid more rest less q f) p (is_next (first x) ts) refl e

operand_leaves : (P : List Lexeme → Type 0) (kinds : List Kind) (x : Form Expression) → ((ts : List Lexeme) (e : Expression) (rest : List Lexeme) → read x ts ≡ Ok (e, rest) → P rest)
    → (ts : List Lexeme) (o : BinaryUse × Expression) (rest : List Lexeme) → read (operand kinds x) ts ≡ Ok (o, rest) → P rest
unfolding operand
operand_leaves P kinds x reads ts o rest h =
    let sign = ok_bind (read (as_value binary_use (one kinds)) ts) (λ (a : BinaryUse × List Lexeme). read x a.1 >>= λ b. Ok ((a.0, b.0), b.1)) o rest h in
    let value = ok_bind (read x sign.mid) (λ (b : Expression × List Lexeme). Ok ((sign.value, b.0), b.1)) o rest sign.then in
    subst P (ok_rest (sign.value, value.value) o value.mid rest _ refl value.then) (reads sign.mid value.value value.mid value.read)

row_leaves : (P : List Lexeme → Type 0) (kinds : List Kind) (x : Form Expression) → ((ts : List Lexeme) (e : Expression) (rest : List Lexeme) → read x ts ≡ Ok (e, rest) → P rest)
    → (ts : List Lexeme) (e : Expression) (rest : List Lexeme) → read (row kinds x) ts ≡ Ok (e, rest) → Left P (operand kinds x) rest
unfolding row
row_leaves P kinds x reads ts e rest h =
    let whole = ok_bind (read (both x (many (operand kinds x))) ts) (λ (p : (Expression × List (BinaryUse × Expression)) × List Lexeme). Ok (row_of p.0.0 p.0.1, p.1)) e rest h in
    let value = ok_bind (read x ts) (λ (a : Expression × List Lexeme). read (many (operand kinds x)) a.1 >>= λ b. Ok ((a.0, b.0), b.1)) whole.value whole.mid whole.read in
    let others = ok_bind (read (many (operand kinds x)) value.mid) (λ (b : List (BinaryUse × Expression) × List Lexeme). Ok ((value.value, b.0), b.1)) whole.value whole.mid value.then in
    let here : others.mid ≡ rest = ok_rest (value.value, others.value) whole.value others.mid whole.mid _ refl others.then ∙ ok_rest (row_of whole.value.0 whole.value.1) e whole.mid rest _ refl whole.then in
    subst (Left P (operand kinds x)) here
    (each_leaves P (operand kinds x) (begins-operand kinds x).filled (operand_leaves P kinds x reads) (length value.mid) value.mid others.value others.mid (omega arith) (reads ts value.value value.mid value.read) others.read)

-- no operator of this strength or a stronger one comes
abbrev pub IsBelow : ℕ → List Lexeme → Type 0
IsBelow s rest = next_strength rest < 8 → next_strength rest < s

rows_leave : (k s : ℕ) (x : Form Expression) (ts : List Lexeme) (e : Expression) (rest : List Lexeme) → s + k ≡ 8 → read (rows (drop s strengths) x) ts ≡ Ok (e, rest) → IsBelow s rest
rows_leave zero s x ts e rest is h = λ within. omega (arith, within)
rows_leave (suc k) s x ts e rest is h =
    let within : s < 8 = omega arith in
    let as_row : read (row (operators s) (rows (drop (s + 1) strengths) x)) ts ≡ Ok (e, rest) = ap (λ (f : Form Expression). read f ts) (sym (rows_step s x within)) ∙ h in
    let left = row_leaves (IsBelow (s + 1)) (operators s) (rows (drop (s + 1) strengths) x) (λ us v end g. rows_leave k (s + 1) x us v end (omega arith) g) ts e rest as_row in
    let here : is_next (operators s) rest ≡ false = ap (λ (kinds : List Kind). is_next kinds rest) (sym (begins-operand (operators s) (rows (drop (s + 1) strengths) x)).first) ∙ left.over in
    let other : next_strength rest ≡ s → ⊥ = λ same. true≢false (sym (eq-eqb (next_strength rest) s same) ∙ sym (next_told s rest within) ∙ here) in
    λ within. omega (arith, left.keeps within)

-- The rows of a loop from the strongest operators to the weakest: those of the operators that are stronger than the next one, or all.
pub record IsBuilt (s level : ℕ) (x : Form Expression) (ts : List Lexeme) (e : Expression) (mid : List Lexeme) : Type 0 where
  pub next : next_strength mid ≡ level
  pub going : s ≤ level → level < 8 → IsReadFrom (level + 1) x ts e mid
  pub ended : (level < 8 → level < s) → IsReadFrom s x ts e mid

built : (s k : ℕ) (x : Form Expression) (ts : List Lexeme) (e : Expression) (mid : List Lexeme) → s ≤ k → k ≤ 8 → IsReadFrom k x ts e mid → IsBuilt s (next_strength mid) x ts e mid
built s k x ts e mid low high h =
    let below : IsBelow k mid = rows_leave (8 - k) k x ts e mid (omega arith) h in
    record {
      next = refl;
      going = λ from within. levels_passed (k - (next_strength mid + 1)) (next_strength mid + 1) k x ts e mid (omega (arith, below within)) high h (λ less. omega arith);
      ended = λ over. levels_passed (k - s) s k x ts e mid (omega arith) high h (λ less. over (omega arith));
    }

-- the operand at the head
pub built_first : (s : ℕ) (x : Form Expression) (ts : List Lexeme) (e : Expression) (mid : List Lexeme) → s ≤ 8 → read x ts ≡ Ok (e, mid) → IsBuilt s (next_strength mid) x ts e mid
built_first s x ts e mid low h =
    let all : IsReadFrom 8 x ts e mid = rw (rows_none x) h in
    built s 8 x ts e mid low (omega arith) all

-- an operator with its operand
pub built_pair : (s level : ℕ) (x : Form Expression) (ts : List Lexeme) (e : Expression) (mid : List Lexeme) (o : BinaryUse × Expression) (behind : List Lexeme) → s ≤ level → level < 8 → IsBuilt s level x ts e mid
    → read (operand (operators level) (rows (drop (level + 1) strengths) x)) mid ≡ Ok (o, behind) → (next_strength behind ≡ level → ⊥) → IsBuilt s (next_strength behind) x ts (row_expression e (operands_of (o ∷ []))) behind
built_pair s level x ts e mid o behind low within b h other =
    let alone = operand_alone level (rows (drop (level + 1) strengths) x) mid o behind within b.next h other in
    built s level x ts (row_expression e (operands_of (o ∷ []))) behind low (omega arith) (level_read level x ts e mid (o ∷ []) behind within (b.going low within) b.next alone)

-- operators with their operands
pub built_row : (s level : ℕ) (x : Form Expression) (ts : List Lexeme) (e : Expression) (mid : List Lexeme) (o : BinaryUse × Expression) (behind : List Lexeme) (os : List (BinaryUse × Expression)) (rest : List Lexeme)
    → s ≤ level → level < 8 → IsBuilt s level x ts e mid → read (operand (operators level) (rows (drop (level + 1) strengths) x)) mid ≡ Ok (o, behind)
    → with_prefix (o ∷ []) (read (many (operand (operators level) (rows (drop (level + 1) strengths) x))) behind) ≡ Ok (os, rest) → IsBuilt s (next_strength rest) x ts (row_expression e (operands_of os)) rest
built_row s level x ts e mid o behind os rest low within b h more =
    let several = operand_first level (rows (drop (level + 1) strengths) x) mid o behind within b.next h ∙ more in
    built s level x ts (row_expression e (operands_of os)) rest low (omega arith) (level_read level x ts e mid os rest within (b.going low within) b.next several)

pub built_fails : (s level : ℕ) (x : Form Expression) (ts : List Lexeme) (e : Expression) (mid : List Lexeme) (stop : Stop) (rest : List Lexeme) → s ≤ level → level < 8 → IsBuilt s level x ts e mid
    → Fails stop rest (read (operand (operators level) (rows (drop (level + 1) strengths) x)) mid) → Fails stop rest (read (rows (drop s strengths) x) ts)
built_fails s level x ts e mid stop rest low within b fails =
    level_fails s level x ts e mid stop rest low within (b.going low within) (operand_fails level (rows (drop (level + 1) strengths) x) mid stop rest within b.next fails)

pub built_row_fails : (s level : ℕ) (x : Form Expression) (ts : List Lexeme) (e : Expression) (mid : List Lexeme) (o : BinaryUse × Expression) (behind : List Lexeme) (stop : Stop) (rest : List Lexeme)
    → s ≤ level → level < 8 → IsBuilt s level x ts e mid → read (operand (operators level) (rows (drop (level + 1) strengths) x)) mid ≡ Ok (o, behind)
    → Fails stop rest (with_prefix (o ∷ []) (read (many (operand (operators level) (rows (drop (level + 1) strengths) x))) behind)) → Fails stop rest (read (rows (drop s strengths) x) ts)
built_row_fails s level x ts e mid o behind stop rest low within b h fails =
    let first : Fails stop rest (read (many (operand (operators level) (rows (drop (level + 1) strengths) x))) mid) =
    rw (operand_first level (rows (drop (level + 1) strengths) x) mid o behind within b.next h) fails in
    level_fails s level x ts e mid stop rest low within (b.going low within) first

-- operators with their operands take tokens
pub operands_shorter : (kinds : List Kind) (x : Form Expression) (mid : List Lexeme) (o : BinaryUse × Expression) (behind : List Lexeme) (os : List (BinaryUse × Expression)) (rest : List Lexeme)
    → read (operand kinds x) mid ≡ Ok (o, behind) → with_prefix (o ∷ []) (read (many (operand kinds x)) behind) ≡ Ok (os, rest) → length rest < length mid
operands_shorter kinds x mid o behind os rest h more =
    let first = shorter (operand kinds x) mid o behind (begins-operand kinds x).filled h in
    let others = ok_bind (read (many (operand kinds x)) behind) (λ (b : List (BinaryUse × Expression) × List Lexeme). Ok (o ∷ b.0, b.1)) os rest more in
    let right : Right (Spells (many (operand kinds x))) (Prefix (many (operand kinds x))) behind (Ok (others.value, others.mid)) =
    subst (Right (Spells (many (operand kinds x))) (Prefix (many (operand kinds x))) behind) others.read (right_read (many (operand kinds x)) behind) in
    let same : others.mid ≡ rest = ok_rest (o ∷ others.value) os others.mid rest _ refl others.then in
    omega (arith, ap length right.1, length-append right.0 others.mid, ap length same)
