-- The names of a reference count its subscripts.
use Rattle.fb_laws.proofs.Common.{arith, ◌≡◌, ℕ, suc, ◌+◌, inl, inr, List, [], ◌∷◌, length, map, refl, sym, ap, ◌∙◌, subst, length-append, sum_by, All-contains, Form, either, as_value, Spells, Kind, Lexeme, Expression, reference_expression, expressions_of, Member, PartTree, expression, parts, flat_part, deep_part, member_in, subscripts_in, reference_in, flat_reference, deep_reference, reference_value, literal, in_parentheses, parenthesized, flat_primary, deep_primary, with_sign, unary, row, rows, expression_part, tree_parts, SubscriptsAreCounted, counted_by, number_of, IsWritten, None, Some}
use Rattle.fb_laws.proofs.Standing.{parts_are_written}
use Rattle.std.proofs.lemmas.List.Sums.{sum_by-cons}

number_is : (es : List Expression) → number_of (expressions_of es) ≡ length es
number_is [] = refl
number_is (e ∷ es) = ap suc (number_is es)

members_count : (ps : List PartTree) → sum_by (λ (m : Member). m.subscripts) (map member_in ps) ≡ length (subscripts_in ps)
members_count [] = refl
members_count (p ∷ ps) =
    sum_by-cons (λ (m : Member). m.subscripts) (member_in p) (map member_in ps)
    ∙ ap (λ n. length p.subscripts + n) (members_count ps)
    ∙ sym (length-append p.subscripts (subscripts_in ps))

-- what is so of an expression that is a reference
abbrev Counts : Expression → Type 0
Counts (reference_expression r subscripts) = counted_by r ≡ number_of subscripts
Counts o = Unit {0}

record Counted (x : Form Expression) : Type 0 where
  counts : (us : List Lexeme) (e : Expression) → Spells x us e → Counts e

counted_either : (x y : Form Expression) → Counted x → Counted y → Counted (either x y)
counted_either x y h k = record { counts = λ us e s. elim s [ inl p ↦ h.counts us e p | inr p ↦ k.counts us e p ] }

-- a form whose values are read as expressions that count
counted_as : {A : Type 0} (f : A → Expression) (x : Form A) → ((us : List Lexeme) (v : A) → Spells x us v → Counts (f v)) → Counted (as_value f x)
counted_as f x h = record { counts = λ us e s. subst Counts (sym s.2) (h us s.0 s.1) }

counted_literal : Counted literal
unfolding literal
counted_literal = counted_as _ _ (λ us v s. tt)

counted_parts : (part : Form PartTree) → Counted (as_value reference_value (as_value reference_in (parts part)))
counted_parts part = grind (arith, counted_as, as_value, members_count, length-append, number_is)

counted_flat_primary : Counted flat_primary
unfolding flat_primary flat_reference
counted_flat_primary = counted_either literal _ counted_literal (counted_parts flat_part)

counted_deep_primary : (inner : Form Expression) → Counted (deep_primary inner)
unfolding deep_primary deep_reference parenthesized
counted_deep_primary inner = counted_either literal _ counted_literal (counted_either _ (parenthesized inner) (counted_parts (deep_part inner)) (counted_as in_parentheses _ (λ us v s. tt)))

counted_unary : (primary : Form Expression) → Counted primary → Counted (unary primary)
unfolding unary
counted_unary primary h = counted_as (λ v. with_sign v.0 v.1) _ (λ us v s. (elim v.0 as (λ o. Counts (with_sign o v.1)) [ None ↦ h.counts s.1 v.1 s.4 | Some operator ↦ tt ]))

counted_rows : (all : List (List Kind)) (x : Form Expression) → Counted x → Counted (rows all x)
unfolding rows row
counted_rows [] x h = h
counted_rows (kinds ∷ stronger) x h = grind (arith, counted_as, counted_rows stronger x h)

counted_expression : (n : ℕ) → Counted (expression n)
unfolding expression
counted_expression n = grind (arith, counted_rows, counted_unary, counted_flat_primary, counted_deep_primary)

pub subscripts_are_counted : SubscriptsAreCounted
subscripts_are_counted text tree whole r subscripts among =
    let written = parts_are_written text tree whole in
    let here = All-contains (IsWritten written.0) (tree_parts tree) (expression_part (reference_expression r subscripts)) written.2 among in
    (counted_expression here.spells.0).counts here.inside (reference_expression r subscripts) here.spells.2
