-- The kinds of tokens that are read.
use Rattle.std.proofs.Common.{◌≡◌, true, List, [], ◌∷◌, ◌++◌, Ok, subst}
use Rattle.fb_grammar.specs.{declared.kind.Kind.{Kind}, declared.kind.Kind.TheVariants.{Text, True, False}, declared.lexeme.Lexeme.{Lexeme}, Kind.{is_among}}
use Rattle.fb_grammar.specs.{Form.{one, Spells, Prefix}, Literals.{number_kinds, typed_kinds, literal_kinds}, Reading.{read}}
use Rattle.fb_grammar.proofs.Forms.{Right, right_read, among_left}

-- a token is of one of the kinds that are read
pub kind_read : (kinds : List Kind) (ts : List Lexeme) (t : Lexeme) (rest : List Lexeme) → read (one kinds) ts ≡ Ok (t, rest) → is_among kinds t.kind ≡ true
kind_read kinds ts t rest e =
    let right : Right (Spells (one kinds)) (Prefix (one kinds)) ts (Ok (t, rest)) = subst (Right (Spells (one kinds)) (Prefix (one kinds)) ts) e (right_read (one kinds) ts) in
    right.2.1

-- a number that is read is a literal
pub number_read : (ts : List Lexeme) (t : Lexeme) (rest : List Lexeme) → read (one number_kinds) ts ≡ Ok (t, rest) → is_among literal_kinds t.kind ≡ true
number_read ts t rest e = among_left number_kinds (typed_kinds ++ (Text ∷ True ∷ False ∷ [])) t.kind (kind_read number_kinds ts t rest e)
