-- Operators, by the kinds of their tokens.
use Rattle.std.specs.Prelude.{ℕ, List, [], ◌∷◌, slice_index_or}
use Rattle.fb_grammar.specs.declared.kind.Kind.{Kind}
use Rattle.fb_grammar.specs.declared.kind.Kind.TheVariants.{Or, Xor, Ampersand, And, Equal, NotEqual, Less, Greater, LessEqual, GreaterEqual, Plus, Minus, Times, Divide, Mod, Power, Not}
use Rattle.fb_grammar.specs.declared.lexeme.Lexeme.{Lexeme}
use Rattle.fb_tree.specs.{declared.expression.BinaryOperator.{BinaryOperator}, declared.expression.BinaryUse.{BinaryUse}}
use Rattle.fb_tree.specs.{declared.expression.UnaryOperator.{UnaryOperator}, declared.expression.UnaryUse.{UnaryUse}}
use Rattle.fb_tree.specs.declared.expression.BinaryOperator.TheVariants as between
use Rattle.fb_tree.specs.declared.expression.UnaryOperator.TheVariants as before

-- the operators before an operand
abbrev pub signs : List Kind
signs = Plus ∷ Minus ∷ Not ∷ []

-- the operators between operands, the weakest first; those of one strength are in one list
abbrev pub strengths : List (List Kind)
strengths =
    (Or ∷ []) ∷
    (Xor ∷ []) ∷
    (Ampersand ∷ And ∷ []) ∷
    (Equal ∷ NotEqual ∷ []) ∷
    (Less ∷ Greater ∷ LessEqual ∷ GreaterEqual ∷ []) ∷
    (Plus ∷ Minus ∷ []) ∷
    (Times ∷ Divide ∷ Mod ∷ []) ∷
    (Power ∷ []) ∷ []

-- the operators of a strength
abbrev pub operators : ℕ → List Kind
operators strength = slice_index_or strengths strength []

-- the strength of an operator between operands, 8 of any other token
abbrev pub strength_of : Kind → ℕ
strength_of Or = 0
strength_of Xor = 1
strength_of Ampersand = 2
strength_of And = 2
strength_of Equal = 3
strength_of NotEqual = 3
strength_of Less = 4
strength_of Greater = 4
strength_of LessEqual = 4
strength_of GreaterEqual = 4
strength_of Plus = 5
strength_of Minus = 5
strength_of Times = 6
strength_of Divide = 6
strength_of Mod = 6
strength_of Power = 7
strength_of _ = 8

-- that of the operator that comes next, 8 if none comes
abbrev pub next_strength : List Lexeme → ℕ
next_strength [] = 8
next_strength (token ∷ tokens) = strength_of token.kind

-- used for a token that is no operator: their bodies stay closed to proofs, so that nothing is known of them
pub no_sign : UnaryOperator
no_sign = before.Not

pub no_operator : BinaryOperator
no_operator = between.Power

abbrev pub unary_operator : Kind → UnaryOperator
unary_operator Plus = before.Plus
unary_operator Minus = before.Minus
unary_operator Not = before.Not
unary_operator _ = no_sign

abbrev pub binary_operator : Kind → BinaryOperator
binary_operator Or = between.Or
binary_operator Xor = between.Xor
binary_operator Ampersand = between.And
binary_operator And = between.And
binary_operator Equal = between.Equal
binary_operator NotEqual = between.NotEqual
binary_operator Less = between.Less
binary_operator Greater = between.Greater
binary_operator LessEqual = between.LessOrEqual
binary_operator GreaterEqual = between.GreaterOrEqual
binary_operator Plus = between.Add
binary_operator Minus = between.Subtract
binary_operator Times = between.Multiply
binary_operator Divide = between.Divide
binary_operator Mod = between.Modulo
binary_operator Power = between.Power
binary_operator _ = no_operator

abbrev pub unary_use : Lexeme → UnaryUse
unary_use token = record { operator = unary_operator token.kind; span = token.span }

abbrev pub binary_use : Lexeme → BinaryUse
binary_use token = record { operator = binary_operator token.kind; span = token.span }
