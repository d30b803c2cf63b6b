-- Each text has one body, that which is computed.
use Rattle.std.proofs.Common.{◌≡◌, ℕ, List, [], ◌∷◌, ◌++◌, length, Some, None, Result, Ok, Err, true, inl, inr, refl, sym, ap, ap₂, ◌∙◌, subst, arith}
use Rattle.fb_tree.specs.{Text.declared.token.Span.{Span}, Tree.{DeclTree}}
use Rattle.fb_structured_text.specs.{Forms.declared.kind.Kind.TheVariants.{End, NeverClosed}, Forms.declared.lexeme.Lexeme.{Lexeme}}
use Rattle.fb_structured_text.specs.{Forms.Fault.{IsStuck, IsFault}, Forms.Form.{Form, Prefix}, Forms.Lexemes.{lexemes_of, place}}
use Rattle.fb_structured_text.specs.{Forms.Reading.{Outcome, read}, Forms.Kind.{is_among}, Forms.Upcoming.{closing, closing_at, front, tokens_to_end, unended}}
use Rattle.fb_parse.specs.Body.{BodyTree, Whole, BrokenAt, IsBodyIn, IsBody, whole_or_broken, body_read, body_in, broken_at, whole_if_over, body_of}
use Rattle.fb_parse.specs.Grammar.{unit}
use Rattle.fb_parse.proofs.{Predictive.{predictive_unit}, Ending.{unit_of_tokens}}
use Rattle.fb_structured_text.proofs.Forms.Ending.{AreTokens, LeavesTokens, Parts, closing_comment, closing_end, closings, ended_pulled, leaves_tokens, no_end, parts_of, read_kept, unended_comment, unended_end, unended_pulled, with_last}
use Rattle.fb_structured_text.proofs.Forms.Forms.{spelled_of_ok, ok_of_spelled, none_spelled_of_rest, none_spelled_of_err, fault_of_rest, fault_of_err}

-- Two faults of the same tokens begin at the same place

abbrev Stops : (List Lexeme → Type 0) → List Lexeme → List Lexeme → Type 0
Stops P prefix [] = Unit {0}
Stops P prefix (l ∷ rest) = P (prefix ++ l ∷ []) → ⊥

abbrev Closed : (List Lexeme → Type 0) → List Lexeme → Type 0
Closed P prefix = (us vs : List Lexeme) → prefix ≡ us ++ vs → P us

behind_first : (P : List Lexeme → Type 0) (l : Lexeme) (prefix rest : List Lexeme) → Stops P (l ∷ prefix) rest → Stops (λ us. P (l ∷ us)) prefix rest
behind_first P l prefix [] s = tt
behind_first P l prefix (r ∷ rest) s = s

same_rest : (P : List Lexeme → Type 0) (f r g s : List Lexeme) → f ++ r ≡ g ++ s → Closed P f → Closed P g → Stops P f r → Stops P g s → r ≡ s
same_rest P [] r [] s e cf cg sf sg = e
same_rest P [] r (b ∷ g) s e cf cg sf sg =
    let stops : Stops P [] (b ∷ g ++ s) = subst (Stops P []) e sf in
    absurd (stops (cg (b ∷ []) g refl))
same_rest P (a ∷ f) r [] s e cf cg sf sg =
    let stops : Stops P [] (a ∷ f ++ r) = subst (Stops P []) (sym e) sg in
    absurd (stops (cf (a ∷ []) f refl))
same_rest P (a ∷ f) r (b ∷ g) s e cf cg sf sg =
    let head : b ≡ a = cc in
    let tail : f ++ r ≡ g ++ s = cc in
    same_rest (λ us. P (a ∷ us)) f r g s tail
    (λ us vs d. cf (a ∷ us) vs (ap (λ z. a ∷ z) d))
    (λ us vs d. cg (a ∷ us) vs (ap₂ (λ (z : Lexeme) (zs : List Lexeme). z ∷ zs) head d))
    (behind_first P a f r sf)
    (behind_first P a g s (subst (λ (z : Lexeme). Stops P (z ∷ g) s) head sg))

stops_of : {A : Type 0} (x : Form A) (prefix rest : List Lexeme) → IsStuck x prefix rest → Stops (Prefix x) prefix rest
stops_of x prefix [] s = tt
stops_of x prefix (l ∷ rest) s = s

pub one_rest : {A : Type 0} (x : Form A) (ls a b : List Lexeme) → IsFault x ls a → IsFault x ls b → a ≡ b
one_rest x ls a b p q =
    same_rest (Prefix x) p.0 a q.0 b (sym p.1 ∙ q.1) p.2 q.2 (stops_of x p.0 a p.3) (stops_of x q.0 b q.3)

-- What is computed is the body

told_ok : (end : ℕ) (ls : List Lexeme) (tree : DeclTree) (rest : List Lexeme) → read unit ls ≡ Ok (tree, rest) → IsBodyIn end (Ok ls) (whole_or_broken end tree rest)
told_ok end ls tree [] e = spelled_of_ok unit ls tree e
told_ok end ls tree (l ∷ rest) e =
    (none_spelled_of_rest unit predictive_unit ls tree (l ∷ rest) e (omega arith), l ∷ rest, fault_of_rest unit predictive_unit ls tree (l ∷ rest) e, refl)

told_outcome : (end : ℕ) (ls : List Lexeme) (outcome : Outcome DeclTree) → read unit ls ≡ outcome → IsBodyIn end (Ok ls) (body_read end outcome)
told_outcome end ls (Ok found) e = told_ok end ls found.0 found.1 e
told_outcome end ls (Err rest) e = (none_spelled_of_err unit predictive_unit ls rest e, rest, fault_of_err unit predictive_unit ls rest e, refl)

told_in : (end : ℕ) (r : Result (List Lexeme) Span) → IsBodyIn end r (body_in end r)
told_in end (Ok ls) = told_outcome end ls (read unit ls) refl
told_in end (Err bad) = refl

pub told : (text : List ℕ) → IsBody text (body_of text)
unfolding body_of
told text = told_in (length text) (lexemes_of text)

-- It is the only one

one_ok : (end : ℕ) (ls : List Lexeme) (span : Span) (tree : DeclTree) (rest : List Lexeme) → IsBodyIn end (Ok ls) (BrokenAt span) → read unit ls ≡ Ok (tree, rest) → BrokenAt span ≡ whole_or_broken end tree rest
one_ok end ls span tree [] h e = absurd (h.0 tree (spelled_of_ok unit ls tree e))
one_ok end ls span tree (l ∷ rest) h e =
    ap BrokenAt (h.3 ∙ ap (place end) (one_rest unit ls h.1 (l ∷ rest) h.2 (fault_of_rest unit predictive_unit ls tree (l ∷ rest) e)))

one_outcome : (end : ℕ) (ls : List Lexeme) (span : Span) (outcome : Outcome DeclTree) → IsBodyIn end (Ok ls) (BrokenAt span) → read unit ls ≡ outcome → BrokenAt span ≡ body_read end outcome
one_outcome end ls span (Ok found) h e = one_ok end ls span found.0 found.1 h e
one_outcome end ls span (Err rest) h e = ap BrokenAt (h.3 ∙ ap (place end) (one_rest unit ls h.1 rest h.2 (fault_of_err unit predictive_unit ls rest e)))

one_in : (end : ℕ) (r : Result (List Lexeme) Span) (body : BodyTree) → IsBodyIn end r body → body ≡ body_in end r
one_in end (Err bad) body h = h
one_in end (Ok ls) (Whole tree) h = sym (ap (body_read end) (ok_of_spelled unit predictive_unit ls tree h))
one_in end (Ok ls) (BrokenAt span) h = one_outcome end ls span (read unit ls) h refl

pub one : (text : List ℕ) (body : BodyTree) → IsBody text body → body ≡ body_of text
unfolding body_of
one text body h = one_in (length text) (lexemes_of text) body h

-- What is pulled of a text has the same body

-- by what reading of all that is pulled gives
abbrev body_pulled : Outcome DeclTree → BodyTree
body_pulled (Ok found) = whole_if_over found.0 found.1
body_pulled (Err rest) = broken_at rest

at_comment : (tokens : List Lexeme) (comment : Span) → closing tokens ≡ Some comment → broken_at tokens ≡ BrokenAt comment
at_comment tokens comment e = rw (e, broken_at) refl

at_front : (tokens : List Lexeme) → closing tokens ≡ None → broken_at tokens ≡ BrokenAt (front tokens).span
at_front tokens e = rw (e, broken_at) refl

front_place : (end : ℕ) (rest : List Lexeme) → (front (rest ++ closing_at End end end ∷ [])).span ≡ place end rest
front_place end [] = refl
front_place end (l ∷ rest) = refl

broken_end : (end : ℕ) (rest : List Lexeme) → AreTokens rest → broken_at (rest ++ closing_at End end end ∷ []) ≡ BrokenAt (place end rest)
broken_end end rest h = at_front (rest ++ closing_at End end end ∷ []) (closing_end rest end h) ∙ ap BrokenAt (front_place end rest)

whole_end : (end : ℕ) (tree : DeclTree) (rest : List Lexeme) → AreTokens rest → whole_if_over tree (rest ++ closing_at End end end ∷ []) ≡ whole_or_broken end tree rest
whole_end end tree [] h = refl
whole_end end tree (l ∷ rest) h = rw (no_end l.kind h.0) (broken_end end (l ∷ rest) h)

pulled_end : (end : ℕ) (r : Outcome DeclTree) → LeavesTokens r → body_pulled (with_last (closing_at End end end) r) ≡ body_read end r
pulled_end end (Ok found) h = whole_end end found.0 found.1 h
pulled_end end (Err rest) h = broken_end end rest h

broken_comment : (last : Lexeme) (rest : List Lexeme) → last.kind ≡ NeverClosed → AreTokens rest → broken_at (rest ++ last ∷ []) ≡ BrokenAt last.span
broken_comment last rest e h = at_comment (rest ++ last ∷ []) last.span (closing_comment rest last h e)

whole_comment : (last : Lexeme) (tree : DeclTree) (rest : List Lexeme) → last.kind ≡ NeverClosed → AreTokens rest → whole_if_over tree (rest ++ last ∷ []) ≡ BrokenAt last.span
whole_comment last tree [] e h = rw e refl
whole_comment last tree (l ∷ rest) e h = rw (no_end l.kind h.0) (broken_comment last (l ∷ rest) e h)

pulled_comment : (last : Lexeme) (r : Outcome DeclTree) → last.kind ≡ NeverClosed → LeavesTokens r → body_pulled (with_last last r) ≡ BrokenAt last.span
pulled_comment last (Ok found) e h = whole_comment last found.0 found.1 e h
pulled_comment last (Err rest) e h = broken_comment last rest e h

-- reading what is pulled is reading the tokens alone
read_pulled : (end : ℕ) (all : List Lexeme) (p : Parts end all) → is_among closings p.last.kind ≡ true → read unit all ≡ with_last p.last (read unit p.tokens)
read_pulled end all p h = ap (read unit) p.whole ∙ read_kept closings p.last h unit predictive_unit unit_of_tokens p.tokens

pulled_in : (end : ℕ) (all : List Lexeme) (p : Parts end all) → body_pulled (read unit all) ≡ body_in end (unended all)
pulled_in end all p = elim p.closes [
  | inl e ↦
      ap body_pulled (read_pulled end all p (ap (λ (l : Lexeme). is_among closings l.kind) e))
      ∙ ap (λ (l : Lexeme). body_pulled (with_last l (read unit p.tokens))) e
      ∙ pulled_end end (read unit p.tokens) (leaves_tokens unit p.tokens p.alone)
      ∙ ap (body_in end) (sym (ap unended (p.whole ∙ ap (λ (l : Lexeme). p.tokens ++ l ∷ []) e) ∙ unended_end p.tokens end p.alone))
  | inr e ↦
      ap body_pulled (read_pulled end all p (ap (is_among closings) e))
      ∙ pulled_comment p.last (read unit p.tokens) e (leaves_tokens unit p.tokens p.alone)
      ∙ ap (body_in end) (sym (ap unended p.whole ∙ unended_comment p.tokens p.last p.alone e))
]

pulled_body : (text : List ℕ) → body_pulled (read unit (tokens_to_end text)) ≡ body_of text
unfolding body_of
pulled_body text =
    pulled_in (length text) (tokens_to_end text) (parts_of (length text) (tokens_to_end text) (ended_pulled text)) ∙ ap (body_in (length text)) (unended_pulled text)

body_given : (text : List ℕ) (tokens : List Lexeme) (outcome : Outcome DeclTree) → tokens ≡ tokens_to_end text → read unit tokens ≡ outcome → body_pulled outcome ≡ body_of text
body_given text tokens outcome all gives = ap body_pulled (sym gives ∙ ap (read unit) all) ∙ pulled_body text

-- where a declaration was read
pub whole_body : (text : List ℕ) (tokens rest : List Lexeme) (tree : DeclTree) → tokens ≡ tokens_to_end text → read unit tokens ≡ Ok (tree, rest) → whole_if_over tree rest ≡ body_of text
whole_body text tokens rest tree all gives = body_given text tokens (Ok (tree, rest)) all gives

-- where none was read
pub broken_body : (text : List ℕ) (tokens rest : List Lexeme) → tokens ≡ tokens_to_end text → read unit tokens ≡ Err rest → broken_at rest ≡ body_of text
broken_body text tokens rest all gives = body_given text tokens (Err rest) all gives
