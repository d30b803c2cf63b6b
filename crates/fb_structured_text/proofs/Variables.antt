-- Variables: names alone, and references.
use Rattle.std.proofs.Common.{◌≡◌, ℕ, Bool, true, false, ◌||◌, List, [], ◌∷◌, Ok, Err, Option, Some, None, refl, sym, ap, ◌∙◌}
use Rattle.fb_tree.specs.{Text.declared.name.NameUse.{NameUse}, Text.declared.token.Span.{Span}}
use Rattle.fb_tree.specs.Expression.{Expression, Expressions, ReferenceTree, alone_tree, no_expressions}
use Rattle.fb_grammar.specs.{declared.kind.Kind.{Kind}, declared.kind.Kind.TheVariants.{Point, OpenBracket}, declared.lexeme.Lexeme.{Lexeme}}
use Rattle.fb_grammar.specs.{declared.stop.Stop.{Stop}, declared.stop.Stop.TheVariants.{Memory, Broken}, Form.{Form, many, option, as_value}, Gives.{Fails}}
use Rattle.fb_grammar.specs.{Reading.{Outcome, ◌>>=◌, is_next, first, read}, Words.{name}}
use Rattle.fb_grammar.proofs.{Forms.{ok_one}, Loops.{many_none}}
use Rattle.fb_structured_text.specs.Expression.{PartTree, deep_part, deep_reference, flat_part, flat_reference, further_part, part_of, reference_in, subscripts}
use Rattle.fb_structured_text.specs.Part.{closed_at}
use Rattle.fb_structured_text.proofs.Bodies.{next_both}

neither : (a b : Bool) → (a || b) ≡ false → (a ≡ false) × (b ≡ false)
neither false b h = (refl, h)
neither true b h = cc h

-- the names behind the first part
abbrev paired : PartTree → Outcome (List PartTree) → Outcome (PartTree × List PartTree)
paired p r = r >>= λ b. Ok ((p, b.0), b.1)

abbrev pub behind_first : PartTree → Outcome (List PartTree) → Outcome (ReferenceTree × Expressions)
behind_first p r = r >>= λ b. Ok (reference_in (p, b.0), b.1)

paired_first : (p : PartTree) (r : Outcome (List PartTree)) → (paired p r >>= λ v. Ok (reference_in v.0, v.1)) ≡ behind_first p r
paired_first p (Ok b) = refl
paired_first p (Err rest) = refl

pub read_flat : (ts : List Lexeme) (n : NameUse) (mid : List Lexeme) → read name ts ≡ Ok (n, mid) → read flat_reference ts ≡ behind_first (part_of n None) (read (many (further_part flat_part)) mid)
unfolding flat_reference flat_part
read_flat ts n mid e = rw e (paired_first (part_of n None) (read (many (further_part flat_part)) mid))

pub read_deep : (inner : Form Expression) (ts : List Lexeme) (p : PartTree) (mid : List Lexeme) → read (deep_part inner) ts ≡ Ok (p, mid) → read (deep_reference inner) ts ≡ behind_first p (read (many (further_part (deep_part inner))) mid)
unfolding deep_reference
read_deep inner ts p mid e = rw e (paired_first p (read (many (further_part (deep_part inner))) mid))

-- the subscripts behind a name that was read
abbrev Brackets : Type 0
Brackets = Option (List Expression × Lexeme)

abbrev named : NameUse → Outcome Brackets → Outcome (NameUse × Brackets)
named n r = r >>= λ b. Ok ((n, b.0), b.1)

abbrev as_part : NameUse → Outcome Brackets → Outcome PartTree
as_part n r = r >>= λ b. Ok (part_of n b.0, b.1)

part_behind : (n : NameUse) (r : Outcome Brackets) → (named n r >>= λ v. Ok (part_of v.0.0 v.0.1, v.1)) ≡ as_part n r
part_behind n (Ok b) = refl
part_behind n (Err rest) = refl

pub read_part : (inner : Form Expression) (ts : List Lexeme) (n : NameUse) (mid : List Lexeme) → read name ts ≡ Ok (n, mid) → read (deep_part inner) ts ≡ read (as_value (part_of n) (option (subscripts inner))) mid
unfolding deep_part
read_part inner ts n mid e = rw e (part_behind n (read (option (subscripts inner)) mid))

-- a name alone
pub flat_alone : (ts : List Lexeme) (n : NameUse) (mid : List Lexeme) → read name ts ≡ Ok (n, mid) → is_next (Point ∷ []) mid ≡ false → read flat_reference ts ≡ Ok ((alone_tree n, no_expressions), mid)
flat_alone ts n mid e none = read_flat ts n mid e ∙ ap (behind_first (part_of n None)) (many_none (further_part flat_part) mid none)

pub no_subscripts : (inner : Form Expression) (n : NameUse) (mid : List Lexeme) → is_next (OpenBracket ∷ []) mid ≡ false → read (as_value (part_of n) (option (subscripts inner))) mid ≡ Ok (part_of n None, mid)
unfolding subscripts
no_subscripts inner n mid none = rw none refl

pub deep_alone : (inner : Form Expression) (ts : List Lexeme) (n : NameUse) (mid : List Lexeme) → read name ts ≡ Ok (n, mid) → is_next (OpenBracket ∷ Point ∷ []) mid ≡ false → read (deep_reference inner) ts ≡ Ok ((alone_tree n, no_expressions), mid)
deep_alone inner ts n mid e none =
    let both = neither (is_next (OpenBracket ∷ []) mid) (is_next (Point ∷ []) mid) (sym (next_both (OpenBracket ∷ []) (Point ∷ []) mid) ∙ none) in
    read_deep inner ts (part_of n None) mid (read_part inner ts n mid e ∙ no_subscripts inner n mid both.0)
    ∙ ap (behind_first (part_of n None)) (many_none (further_part (deep_part inner)) mid both.1)

-- where reading a variable fails
pub flat_name_fails : (ts : List Lexeme) (stop : Stop) (rest : List Lexeme) → Fails stop rest (read name ts) → Fails stop rest (read flat_reference ts)
unfolding flat_reference flat_part
flat_name_fails ts Memory rest fails = tt
flat_name_fails ts Broken rest fails = rw fails refl

pub flat_parts_fail : (ts : List Lexeme) (n : NameUse) (mid : List Lexeme) (stop : Stop) (rest : List Lexeme) → read name ts ≡ Ok (n, mid) → Fails stop rest (read (many (further_part flat_part)) mid) → Fails stop rest (read flat_reference ts)
flat_parts_fail ts n mid Memory rest e fails = tt
flat_parts_fail ts n mid Broken rest e fails = read_flat ts n mid e ∙ ap (behind_first (part_of n None)) fails

pub deep_name_fails : (inner : Form Expression) (ts : List Lexeme) (stop : Stop) (rest : List Lexeme) → Fails stop rest (read name ts) → Fails stop rest (read (deep_reference inner) ts)
unfolding deep_reference deep_part
deep_name_fails inner ts Memory rest fails = tt
deep_name_fails inner ts Broken rest fails = rw fails refl

pub part_fails : (inner : Form Expression) (ts : List Lexeme) (n : NameUse) (mid : List Lexeme) (stop : Stop) (rest : List Lexeme) → read name ts ≡ Ok (n, mid)
    → Fails stop rest (read (as_value (part_of n) (option (subscripts inner))) mid) → Fails stop rest (read (deep_reference inner) ts)
unfolding deep_reference
part_fails inner ts n mid Memory rest e fails = tt
part_fails inner ts n mid Broken rest e fails =
    let failed : read (deep_part inner) ts ≡ Err rest = read_part inner ts n mid e ∙ fails in
    rw failed refl

pub parts_fail : (inner : Form Expression) (ts : List Lexeme) (p : PartTree) (mid : List Lexeme) (stop : Stop) (rest : List Lexeme) → read (deep_part inner) ts ≡ Ok (p, mid)
    → Fails stop rest (read (many (further_part (deep_part inner))) mid) → Fails stop rest (read (deep_reference inner) ts)
parts_fail inner ts p mid Memory rest e fails = tt
parts_fail inner ts p mid Broken rest e fails = read_deep inner ts p mid e ∙ ap (behind_first p) fails

-- Subscripts behind a name that was read: of the bracket that closes them its place is kept.

abbrev spanned : Outcome (List Expression × Lexeme) → Outcome (List Expression × Span)
spanned r = r >>= λ s. Ok (closed_at s.0, s.1)

abbrev in_brackets : Outcome (List Expression × Lexeme) → Outcome Brackets
in_brackets r = r >>= λ s. Ok (Some s.0, s.1)

abbrev pub ended_at : NameUse → List Expression → ℕ → PartTree
ended_at n subscripts end = record { name = n; subscripts = subscripts; end = end }

abbrev ended_part : NameUse → List Expression × Span → PartTree
ended_part n s = ended_at n s.0 s.1.end

brackets_read : (n : NameUse) (r : Outcome (List Expression × Lexeme)) (s : List Expression × Span) (rest : List Lexeme) → spanned r ≡ Ok (s, rest) → as_part n (in_brackets r) ≡ Ok (ended_part n s, rest)
brackets_read n (Ok b) s rest h =
    let same : (closed_at b.0, b.1) ≡ (s, rest) = ok_one (spanned (Ok b)) (closed_at b.0, b.1) (s, rest) refl h in
    ap (λ (z : (List Expression × Span) × List Lexeme). Ok (ended_part n z.0, z.1)) same
brackets_read n (Err d) s rest h = cc h

brackets_fail : (n : NameUse) (r : Outcome (List Expression × Lexeme)) (rest : List Lexeme) → spanned r ≡ Err rest → as_part n (in_brackets r) ≡ Err rest
brackets_fail n (Ok b) rest h = cc h
brackets_fail n (Err d) rest h = let same : d ≡ rest = cc in ap (λ (z : List Lexeme). Err z) same

next_bracket : (inner : Form Expression) → first (subscripts inner) ≡ OpenBracket ∷ []
unfolding subscripts
next_bracket inner = refl

read_brackets : (inner : Form Expression) (n : NameUse) (ts : List Lexeme) → is_next (OpenBracket ∷ []) ts ≡ true → read (as_value (part_of n) (option (subscripts inner))) ts ≡ as_part n (in_brackets (read (subscripts inner) ts))
read_brackets inner n ts next =
    let here : is_next (first (subscripts inner)) ts ≡ true = ap (λ (k : List Kind). is_next k ts) (next_bracket inner) ∙ next in
    rw here refl

pub subscripts_read : (inner : Form Expression) (n : NameUse) (ts : List Lexeme) (s : List Expression × Span) (rest : List Lexeme) → is_next (OpenBracket ∷ []) ts ≡ true
    → read (as_value closed_at (subscripts inner)) ts ≡ Ok (s, rest) → read (as_value (part_of n) (option (subscripts inner))) ts ≡ Ok (ended_part n s, rest)
subscripts_read inner n ts s rest next h = read_brackets inner n ts next ∙ brackets_read n (read (subscripts inner) ts) s rest h

pub subscripts_fail : (inner : Form Expression) (n : NameUse) (ts : List Lexeme) (stop : Stop) (rest : List Lexeme) → is_next (OpenBracket ∷ []) ts ≡ true
    → Fails stop rest (read (as_value closed_at (subscripts inner)) ts) → Fails stop rest (read (as_value (part_of n) (option (subscripts inner))) ts)
subscripts_fail inner n ts Memory rest next h = tt
subscripts_fail inner n ts Broken rest next h = read_brackets inner n ts next ∙ brackets_fail n (read (subscripts inner) ts) rest h
