-- The places of what is pulled of a text.
use Rattle.std.proofs.Common.{◌≡◌, ℕ, zero, suc, ◌+◌, ◌-◌, ◌<◌, ◌≤◌, List, [], ◌∷◌, length, drop, refl, sym, ap, subst, ◌∙◌, arith, add-zero, length-drop, IsUtf8}
use Rattle.std.proofs.lemmas.Str.{IsCharBoundary-end, IsCharBoundary-from_rest, IsCharBoundary-start, IsUtf8-drop}
use Rattle.std.proofs.{lemmas.List.{drop-drop}, lemmas.List.Elements.{All-cons, All-nil}}
use Rattle.std.specs.{Prelude.{All}, Str.{IsCharBoundary}}
use Rattle.fb_tree.specs.{Text.Tokens.{FitsIn, LiesIn, piece_at}, Text.declared.scan.Piece.{Piece}, Text.declared.scan.Piece.TheVariants.{Gap, Unclosed, Found}}
use Rattle.fb_tree.specs.Text.Reads.{token_of}
use Rattle.fb_tree.proofs.Text.Boundaries.{piece-fits}
use Rattle.fb_grammar.specs.{declared.lexeme.Lexeme.{Lexeme}, Lexemes.{lexeme_of}, Upcoming.{pulled_before, pulled_from, tokens_to_end}}

-- the token is a part of the text
abbrev pub Within : List ℕ → Lexeme → Type 0
Within text token = LiesIn text token.span

end-within : (text : List ℕ) → LiesIn text (record { start = length text; end = length text })
end-within text = record { rises = omega arith; starts = IsCharBoundary-end text; ends = IsCharBoundary-end text }

within-before : (text : List ℕ) (place : ℕ) (rest : List ℕ) (piece : Piece) (following : ℕ → List Lexeme) → place ≤ length text → rest ≡ drop place text → IsCharBoundary text place → FitsIn rest piece
    → ((n : ℕ) → 0 < n → IsCharBoundary text (place + n) → All (Within text) (following n)) → All (Within text) (pulled_before text place piece following)
unfolding lexeme_of
within-before text place rest (Gap n) following left e starts prefix h = h n prefix.some (IsCharBoundary-from_rest text place n left (subst (λ bs. IsCharBoundary bs n) e prefix.ends))
within-before text place rest Unclosed following left e starts prefix h =
    All-cons (Within text) _ [] (record { rises = left; starts = starts; ends = IsCharBoundary-end text }) (All-nil (Within text))
within-before text place rest (Found kind n) following left e starts prefix h =
    let ends = IsCharBoundary-from_rest text place n left (subst (λ bs. IsCharBoundary bs n) e prefix.ends) in
    All-cons (Within text) (lexeme_of text (token_of kind place n)) (following n) (record { rises = omega arith; starts = starts; ends = ends }) (h n prefix.some ends)

within-from : (text : List ℕ) → IsUtf8 text → (inside place : ℕ) (rest : List ℕ) → place ≤ length text → rest ≡ drop place text → IsCharBoundary text (place + inside) → All (Within text) (pulled_from text inside place rest)
unfolding pulled_from
within-from text utf8 inside place [] left e boundary = All-cons (Within text) _ [] (end-within text) (All-nil (Within text))
within-from text utf8 (suc inside) place (b ∷ bs) left e boundary =
    within-from text utf8 inside (place + 1) bs (omega (arith, ap length e, length-drop place text)) (ap (drop 1) e ∙ drop-drop 1 place text)
    (subst (IsCharBoundary text) (let same : place + suc inside ≡ place + 1 + inside = omega arith in same) boundary)
within-from text utf8 zero place (b ∷ bs) left e boundary =
    let starts = subst (IsCharBoundary text) (add-zero place) boundary in
    let utf8_rest = subst IsUtf8 (sym e) (IsUtf8-drop text place utf8 starts) in
    within-before text place (b ∷ bs) (piece_at (b ∷ bs)) (λ n. pulled_from text (n - 1) (place + 1) bs) left e starts (piece-fits (b ∷ bs) utf8_rest (omega arith))
    (λ n some ends. within-from text utf8 (n - 1) (place + 1) bs (omega (arith, ap length e, length-drop place text)) (ap (drop 1) e ∙ drop-drop 1 place text)
    (subst (IsCharBoundary text) (let same : place + n ≡ place + 1 + (n - 1) = omega arith in same) ends))

-- each token that is pulled of a text, and what is behind them, is a part of the text
pub pulled-within : (text : List ℕ) → IsUtf8 text → All (Within text) (tokens_to_end text)
unfolding tokens_to_end
pulled-within text utf8 = within-from text utf8 0 0 text (omega arith) refl (IsCharBoundary-start text utf8)
