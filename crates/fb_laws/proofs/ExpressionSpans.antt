-- The parts of expressions, at each level.
use Rattle.fb_laws.proofs.Common.{◌≡◌, ℕ, ◌≤◌, arith, zero, suc, true, inl, inr, List, [], ◌∷◌, ◌++◌, map, None, refl, sym, ap, ◌∙◌, subst, append_assoc, flat_map, Span, Form, both, either, many, as_value, Spells, SpellsEach, across, literal_kinds, key, name, is_among, Kind, Point, Lexeme, ReferenceTree, Expression, Expressions, expressions_of, operands_of, BinaryUse, signs, strengths, unary_use, binary_use, levels, expression, expressions, subscripts, PartTree, part_of, flat_part, deep_part, further_part, parts, member_in, last_end, subscripts_in, reference_in, flat_reference, deep_reference, reference_value, literal, in_parentheses, parenthesized, flat_primary, deep_primary, with_sign, unary, row_of, operand, row, rows, reference, Part, name_part, expression_part, sign_part, operator_part, name_parts, option_parts, reference_parts, expression_parts, expressions_parts, operands_parts, expression_span, span_through, SpellsPart, IsWritten, sign, operator, append-nil, among_left, among_right, one}
use Rattle.fb_laws.proofs.Sound.{Fills, begins_more, ends_more, written_whole, Each, each_append, each_prefix, each_rest, Filled, filled_as, filled_either, filled_token, filled_name, Ends, ends_filled, ends_second, ends_behind, filled_across, filled_more, filled_from, Sound, sound_nothing, sound_both, sound_first, sound_second, sound_as, sound_option, sound_many, sound_behind, sound_separated, sound_own, sound_same, sound_name, each_items}

-- Lists

-- the parts of the items of a list, if those of the whole are stated otherwise
pub flat_parts : {A : Type 0} (f : A → List Part) (whole : List A → List Part) → whole [] ≡ [] → ((x : A) (xs : List A) → whole (x ∷ xs) ≡ f x ++ whole xs) → (xs : List A) → flat_map f xs ≡ whole xs
flat_parts f whole none more [] = sym none
flat_parts f whole none more (x ∷ xs) = ap (λ (l : List Part). f x ++ l) (flat_parts f whole none more xs) ∙ sym (more x xs)

abbrev operand_parts : BinaryUse × Expression → List Part
operand_parts o = operator_part o.0 ∷ expression_parts o.1

-- x {y}, from where x begins through the last y
module _ {A : Type 0} (x : Form A) (span : A → Span) (ends : Ends x span) (through : Span → List A → Span) (alone : (s : Span) → through s [] ≡ s) (more : (s : Span) (v : A) (vs : List A) → through s (v ∷ vs) ≡ through (across s (span v)) vs) where
  fills_through : (prefix rest : List Lexeme) (s : Span) (vs : List A) → Fills prefix s → SpellsEach (Spells x) rest vs → Fills (prefix ++ rest) (through s vs)
  fills_through prefix rest s [] h none = subst (λ (z : List Lexeme). Fills z (through s [])) (sym (ap (λ z. prefix ++ z) none ∙ append-nil prefix)) (subst (Fills prefix) (sym (alone s)) h)
  fills_through prefix rest s (v ∷ vs) h each =
      let to_here = prefix ++ each.0 in
      let wider : Fills to_here (across s (span v)) = record { begins = begins_more prefix each.0 s.start h.begins; ends = ends_more prefix each.0 (span v).end (ends.ends each.0 v each.3) } in
      subst (λ (z : List Lexeme). Fills z (through s (v ∷ vs))) (append_assoc prefix each.0 each.1 ∙ ap (λ z. prefix ++ z) (sym each.2))
      (subst (Fills (to_here ++ each.1)) (sym (more s v vs)) (fills_through to_here each.1 (across s (span v)) vs wider each.4))

  filled_through : {B : Type 0} (y : Form B) (first : B → Span) → Filled y first → Filled (both y (many x)) (λ v. through (first v.0) v.1)
  filled_through y first h = record {
    fills = λ us v s. subst (λ (z : List Lexeme). Fills z (through (first v.0) v.1)) (sym s.2) (fills_through s.0 s.1 (first v.0) v.1 (h.fills s.0 v.0 s.3) s.4);
  }

-- Forms whose spellings are expressions

pub record IsExpression (x : Form Expression) : Type 0 where
  pub spells : (us : List Lexeme) (e : Expression) → Spells x us e → SpellsPart us (expression_part e)

-- what is so of a form of expressions, where its spellings are expressions
pub record Suits (x : Form Expression) : Type 0 where
  pub filled : Filled x expression_span
  pub sound : IsExpression x → Sound x expression_parts

suits_either : (x y : Form Expression) → Suits x → Suits y → Suits (either x y)
suits_either x y h k = grind (arith, filled_either)

-- values that are read as expressions, by the parts in them
suits_as : {A : Type 0} (x : Form A) (f : A → Expression) (inner : A → List Part) → Filled x (λ v. expression_span (f v)) → (IsExpression (as_value f x) → Sound x inner)
    → ((P : Part → Type 0) (v : A) → P (expression_part (f v)) → Each P (inner v) → Each P (expression_parts (f v))) → Suits (as_value f x)
suits_as x f inner filled sound joined = record {
  filled = filled_as f x expression_span filled;
  sound = λ is.
      sound_as f x expression_parts
      (record { stands = λ us v s. joined (IsWritten us) v (written_whole us (expression_part (f v)) (filled.fills us v s) (is.spells us (f v) (v, s, refl))) ((sound is).stands us v s) });
}

-- References

-- from where its name begins to where its bracket or its name ends
abbrev place_of : PartTree → Span
place_of p = record { start = p.name.span.start; end = p.end }

filled_deep_part : (inner : Form Expression) → Filled (deep_part inner) place_of
unfolding deep_part subscripts
filled_deep_part inner =
    filled_as _ _ place_of
    (filled_more name (subscripts inner) (λ n. n.span) (λ s. s.1.span) _ (λ n. refl) (λ n s. refl) filled_name
    (ends_behind _ _ (λ s. s.1.span) (ends_second _ _ (λ l. l.span) (ends_filled _ (λ l. l.span) (filled_token _)))))

-- a name and its subscripts
abbrev named_parts : PartTree → List Part
named_parts p = name_part p.name ∷ flat_map expression_parts p.subscripts

abbrev subscripts_parts : List Expression × Lexeme → List Part
subscripts_parts s = flat_map expression_parts s.0

sound_deep_part : (inner : Form Expression) → Sound inner expression_parts → Sound (deep_part inner) named_parts
unfolding deep_part subscripts expressions
sound_deep_part inner h =
    sound_as _ _ named_parts
    (sound_same _ (λ v. name_parts v.0 ++ option_parts subscripts_parts v.1) _ (λ P v e. grind arith)
    (sound_both name _ name_parts (option_parts subscripts_parts) sound_name
    (sound_option _ subscripts_parts (sound_behind _ _ subscripts_parts (sound_first _ _ (flat_map expression_parts) (sound_separated _ inner expression_parts h))))))

-- all names, and all subscripts
abbrev subscripted_parts : ReferenceTree × Expressions → List Part
subscripted_parts r = reference_parts r.0 ++ expressions_parts r.1

abbrev names_among : List PartTree → List Part
names_among ps = map (λ m. name_part m.name) (map member_in ps)

each_part : (P : Part → Type 0) (ps : List PartTree) → Each P (flat_map named_parts ps) → Each P (names_among ps) × Each P (flat_map expression_parts (subscripts_in ps))
each_part P [] h = (tt, tt)
each_part P (p ∷ ps) h =
    let own = each_prefix P (named_parts p) (flat_map named_parts ps) h in
    let others = each_part P ps (each_rest P (named_parts p) (flat_map named_parts ps) h) in
    ((own.0, others.0), each_items P expression_parts p.subscripts (subscripts_in ps) own.1 others.1)

each_reference : (P : Part → Type 0) (p : PartTree) (ps : List PartTree) → Each P (flat_map named_parts (p ∷ ps)) → Each P (subscripted_parts (reference_in (p, ps)))
each_reference P p ps h =
    let each = each_part P (p ∷ ps) h in
    let subscripts = flat_parts expression_parts (λ es. expressions_parts (expressions_of es)) refl (λ e es. refl) (subscripts_in (p ∷ ps)) in
    each_append P (names_among (p ∷ ps)) (expressions_parts (expressions_of (subscripts_in (p ∷ ps)))) each.0 (subst (Each P) subscripts each.1)

-- a reference with its subscripts
suits_parts : (part : Form PartTree) → Filled part place_of → Sound part named_parts → Suits (as_value reference_value (as_value reference_in (parts part)))
suits_parts part filled sound =
    suits_as (as_value reference_in (parts part)) reference_value subscripted_parts
    (filled_as reference_in (parts part) (λ r. r.0.span)
    (filled_through (further_part part) place_of (ends_behind (key Point) part place_of (ends_filled part place_of filled)) (λ s ps. record { start = s.start; end = last_end s.end ps }) (λ s. refl) (λ s p ps. refl) part place_of filled))
    (λ is.
    sound_as reference_in (parts part) subscripted_parts
    (sound_same (parts part) (λ v. named_parts v.0 ++ flat_map named_parts v.1) (λ v. subscripted_parts (reference_in v)) (λ P v e. each_reference P v.0 v.1 e)
    (sound_both part _ named_parts (flat_map named_parts) sound (sound_many (further_part part) named_parts (sound_behind (key Point) part named_parts sound)))))
    (λ P r whole h. (whole, h))

suits_flat_reference : Suits (as_value reference_value flat_reference)
unfolding flat_reference flat_part
suits_flat_reference = suits_parts flat_part (filled_as (λ n. part_of n None) name place_of filled_name) (sound_as (λ n. part_of n None) name named_parts sound_name)

suits_deep_reference : (inner : Form Expression) → Sound inner expression_parts → Suits (as_value reference_value (deep_reference inner))
unfolding deep_reference
suits_deep_reference inner h = suits_parts (deep_part inner) (filled_deep_part inner) (sound_deep_part inner h)

-- Operands

suits_literal : Suits literal
unfolding literal
suits_literal = suits_as _ _ (λ _. []) (filled_token literal_kinds) (λ is. sound_nothing _) (λ P l whole h. (whole, h))

suits_parenthesized : (inner : Form Expression) → Sound inner expression_parts → Suits (parenthesized inner)
unfolding parenthesized
suits_parenthesized inner h =
    suits_as _ in_parentheses (λ v. expression_parts v.1.0)
    (filled_across (key _) (both inner (key _)) (λ l. l.span) (λ v. v.1.span) (filled_token _) (ends_second inner (key _) (λ l. l.span) (ends_filled (key _) (λ l. l.span) (filled_token _))))
    (λ is. sound_second _ _ (λ v. expression_parts v.0) (sound_first inner _ expression_parts h)) (λ P v whole h. (whole, h))

-- Signs

-- an operand without a sign
spelled_unary : (primary : Form Expression) (us : List Lexeme) (e : Expression) → Spells primary us e → Spells (unary primary) us e
unfolding unary
spelled_unary primary us e s = ((None, e), ([], us, refl, refl, s), refl)

suits_unary : (primary : Form Expression) → Suits primary → Suits (unary primary)
unfolding unary sign
suits_unary primary h =
    let filled = filled_as unary_use (one signs) (λ operator. operator.span) (filled_token signs) in
    suits_as _ (λ v. with_sign v.0 v.1) (λ v. option_parts (λ operator. sign_part operator ∷ []) v.0 ++ expression_parts v.1)
    (filled_from _ primary (λ operator. operator.span) expression_span _ (λ e. refl) (λ operator e. refl) filled h.filled)
    (λ is.
    sound_both _ primary _ expression_parts (sound_option sign _ (sound_own sign sign_part (λ _. []) (λ us operator s. s) filled (sound_nothing _)))
    (h.sound (record { spells = λ us e s. is.spells us e (spelled_unary primary us e s) })))
    (λ P v whole h. grind arith)

-- Rows

-- one operand
spelled_row : (kinds : List Kind) (x : Form Expression) (us : List Lexeme) (e : Expression) → Spells x us e → Spells (row kinds x) us e
unfolding row
spelled_row kinds x us e s = ((e, []), (us, [], sym (append-nil us), s, refl), refl)

spelled_rows : (all : List (List Kind)) (x : Form Expression) (us : List Lexeme) (e : Expression) → Spells x us e → Spells (rows all x) us e
unfolding rows
spelled_rows [] x us e s = s
spelled_rows (kinds ∷ stronger) x us e s = spelled_row kinds (rows stronger x) us e (spelled_rows stronger x us e s)

-- these are operators
abbrev AreOperators : List Kind → Type 0
AreOperators kinds = (k : Kind) → is_among kinds k ≡ true → is_among (flat_map (λ ks. ks) strengths) k ≡ true

sound_operand : (kinds : List Kind) (x : Form Expression) → AreOperators kinds → Sound x expression_parts → Sound (operand kinds x) operand_parts
unfolding operand operator
sound_operand kinds x are h =
    sound_both _ x (λ o. operator_part o ∷ []) expression_parts
    (sound_own _ operator_part (λ _. []) (λ us o s. (s.0, (s.1.0, are s.0.kind s.1.1), s.2)) (filled_as binary_use _ (λ o. o.span) (filled_token kinds)) (sound_nothing _)) h

each_operand : (P : Part → Type 0) (e : Expression) (os : List (BinaryUse × Expression)) → P (expression_part (row_of e os)) → Each P (expression_parts e ++ flat_map operand_parts os) → Each P (expression_parts (row_of e os))
each_operand P e [] whole h = each_prefix P (expression_parts e) [] h
each_operand P e (o ∷ os) whole h =
    (whole, subst (λ (l : List Part). Each P (expression_parts e ++ l)) (flat_parts operand_parts (λ all. operands_parts (operands_of all)) refl (λ a all. refl) (o ∷ os)) h)

suits_row : (kinds : List Kind) (x : Form Expression) → AreOperators kinds → Suits x → Suits (row kinds x)
unfolding row operand
suits_row kinds x are h =
    let ends = ends_second (as_value binary_use (one kinds)) x expression_span (ends_filled x expression_span h.filled) in
    let filled = filled_through (operand kinds x) (λ o. expression_span o.1) ends (λ s os. span_through s (operands_of os)) (λ s. refl) (λ s o os. refl) x expression_span h.filled in
    suits_as _ (λ v. row_of v.0 v.1) (λ v. expression_parts v.0 ++ flat_map operand_parts v.1) (record { fills = λ us v s. subst (Fills us) (grind arith) (filled.fills us v s) })
    (λ is.
    let inner = h.sound (record { spells = λ us e s. is.spells us e (spelled_row kinds x us e s) }) in
    sound_both x _ expression_parts (flat_map operand_parts) inner (sound_many (operand kinds x) operand_parts (sound_operand kinds x are inner)))
    (λ P v. each_operand P v.0 v.1)

suits_rows : (all : List (List Kind)) (x : Form Expression) → AreOperators (flat_map (λ ks. ks) all) → Suits x → Suits (rows all x)
unfolding rows
suits_rows [] x are h = h
suits_rows (kinds ∷ stronger) x are h =
    suits_row kinds (rows stronger x) (λ k m. are k (among_left kinds (flat_map (λ ks. ks) stronger) k m))
    (suits_rows stronger x (λ k m. are k (among_right kinds (flat_map (λ ks. ks) stronger) k m)) h)

-- Levels

is_expression : (n : ℕ) → n ≤ levels → IsExpression (expression n)
is_expression n within = record { spells = λ us e s. (n, within, s) }

suits_expression : (n : ℕ) → n ≤ levels → Suits (expression n)
unfolding expression flat_primary deep_primary
suits_expression zero within = suits_rows strengths (unary flat_primary) (λ k m. m) (suits_unary flat_primary (suits_either literal _ suits_literal suits_flat_reference))
suits_expression (suc n) within =
    let below : n ≤ levels = omega (arith, within) in
    let inner = (suits_expression n below).sound (is_expression n below) in
    let deeper = suits_either _ (parenthesized (expression n)) (suits_deep_reference (expression n) inner) (suits_parenthesized (expression n) inner) in
    suits_rows strengths (unary (deep_primary (expression n))) (λ k m. m) (suits_unary (deep_primary (expression n)) (suits_either literal _ suits_literal deeper))

pub sound_expression : (n : ℕ) → n ≤ levels → Sound (expression n) expression_parts
sound_expression n within = (suits_expression n within).sound (is_expression n within)

-- The variable of an assignment is an expression, too

spelled_operand : (primary : Form Expression) (us : List Lexeme) (e : Expression) → Spells primary us e → Spells (rows strengths (unary primary)) us e
spelled_operand primary us e s = spelled_rows strengths (unary primary) us e (spelled_unary primary us e s)

sound_value : (x : Form (ReferenceTree × Expressions)) → Sound (as_value reference_value x) expression_parts → Sound x (λ r. expression_parts (reference_value r))
sound_value x h = record { stands = λ us r s. h.stands us (reference_value r) (r, s, refl) }

pub sound_reference : (n : ℕ) → n ≤ levels → Sound (reference n) (λ r. expression_parts (reference_value r))
unfolding reference expression flat_primary deep_primary
sound_reference zero within = sound_value flat_reference (suits_flat_reference.sound (record { spells = λ us e s. (0, omega arith, spelled_operand flat_primary us e (inr s)) }))
sound_reference (suc n) within =
    sound_value (deep_reference (expression n))
    ((suits_deep_reference (expression n) (sound_expression n (omega (arith, within)))).sound
    (record { spells = λ us e s. (suc n, within, spelled_operand (deep_primary (expression n)) us e (inr (inl s))) }))
