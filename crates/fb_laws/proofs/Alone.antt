-- Parts that are cut out of their text, and constants that are read there.
use Rattle.fb_laws.proofs.Common.{◌≡◌, ℕ, ◌+◌, ◌-◌, ◌≤◌, List, [], ◌∷◌, ◌++◌, length, take, drop, map, refl, sym, ap, ◌∙◌, arith, Ok, slice_range, drop-drop, drop-take, take-take, take-append-drop, take-append_seam, All-weaker, tokens_of, Token, lexeme_of, lexemes_in, lexemes_of, Lexeme, Part, tree_parts, part_span, BeginsAt, EndsAt, IsWritten, nearer, ReadsAlone, PartsReadAlone, drop-append_seam, drop-map, take-map, inl, inr, option_map, map-append, All-contains, Form, one, both, either, option, many, as_value, Spells, SpellsEach, key, cons, separated, list, name, Kind, number, other_literal_kinds, simple, in_brackets, constant_list, constant, NameUse, constant_part, constant_span, nearer_span, nearer_simple, nearer_constant, ConstantsReadAlone}
use Rattle.fb_laws.proofs.{Cutting.{Rising, LastEnds, last_rises, nearer_token, rising_inside, tokens_alone}, Standing.{tokens_are, covers_lies, part_covers, tree_stands}}
use Rattle.fb_tree.specs.declared.constant.Literal.{Literal}

-- a part of a part of a text
part_of_part : (text : List ℕ) (s e a b : ℕ) → s ≤ a → a ≤ b → b ≤ e → slice_range (slice_range text s e) (a - s) (b - s) ≡ slice_range text a b
part_of_part text s e a b sa ab be =
    let inner : drop (a - s) (take (e - s) (drop s text)) ≡ take (e - a) (drop a text) =
    ap (λ n. drop (a - s) (take n (drop s text))) (let same : e - s ≡ a - s + (e - a) = omega (arith, sa, ab, be) in same)
    ∙ drop-take (a - s) (e - a) (drop s text) ∙ ap (take (e - a)) (drop-drop (a - s) s text ∙ ap (λ n. drop n text) (let same : s + (a - s) ≡ a = omega (arith, sa) in same)) in
    ap (λ xs. take (b - s - (a - s)) xs) inner ∙ ap (λ n. take n (take (e - a) (drop a text))) (let same : b - s - (a - s) ≡ b - a = omega (arith, sa, ab) in same)
    ∙ take-take (b - a) (e - a) (drop a text) (omega (arith, be))

lexeme_alone : (text : List ℕ) (s e : ℕ) (t : Token) → s ≤ t.span.start → t.span.start ≤ t.span.end → t.span.end ≤ e → lexeme_of (slice_range text s e) (nearer_token s t) ≡ nearer s (lexeme_of text t)
unfolding lexeme_of
lexeme_alone text s e t sa ab be = grind (arith, part_of_part)

lexemes_alone : (text : List ℕ) (s e from : ℕ) (ts : List Token) → s ≤ from → Rising from ts → LastEnds from ts e → map (lexeme_of (slice_range text s e)) (map (nearer_token s) ts) ≡ map (nearer s) (map (lexeme_of text) ts)
lexemes_alone text s e from [] sa rise last = refl
lexemes_alone text s e from (t ∷ ts) sa rise last = grind (arith, last_rises, lexeme_alone, lexemes_alone text s e t.span.end ts)

last_ends : (text : List ℕ) (from : ℕ) (t : Token) (ts : List Token) (end : ℕ) → EndsAt (map (lexeme_of text) (t ∷ ts)) end → LastEnds from (t ∷ ts) end
unfolding lexeme_of
last_ends text from t [] end h = h
last_ends text from t (u ∷ ts) end h = last_ends text from u ts end h

module _ (text : List ℕ) (tokens : List Token) (are : tokens_of text ≡ Ok tokens) (p : Part) where
  from_token : (before inside behind : List Token) (t : Token) (ls : List Lexeme) (end : ℕ) → tokens_of text ≡ Ok (before ++ ((t ∷ inside) ++ behind)) → map (lexeme_of text) (t ∷ inside) ≡ ls → LastEnds t.span.start (t ∷ inside) end
      → end ≤ length text → lexemes_of (slice_range text t.span.start end) ≡ Ok (map (nearer t.span.start) ls)
  unfolding lexemes_of
  from_token before inside behind t ls end e is last within =
      let s = t.span.start in
      let xs = slice_range text s end in
      let rise = rising_inside text before inside behind t e in
      ap (lexemes_in xs) (tokens_alone text before inside behind t end e last within)
      ∙ ap Ok (lexemes_alone text s end s (t ∷ inside) (omega arith) rise last ∙ ap (map (nearer s)) is)

  -- by the tokens inside
  alone_by : (before inside behind : List Token) (ls : List Lexeme) → tokens ≡ before ++ (inside ++ behind) → map (lexeme_of text) inside ≡ ls → BeginsAt (map (lexeme_of text) inside) (part_span p).start → EndsAt (map (lexeme_of text) inside) (part_span p).end
      → (part_span p).end ≤ length text → lexemes_of (slice_range text (part_span p).start (part_span p).end) ≡ Ok (map (nearer (part_span p).start) ls)
  unfolding lexeme_of
  alone_by before [] behind ls e is begins ends within = absurd begins
  alone_by before (t ∷ inside) behind ls e is begins ends within =
      let end = (part_span p).end in
      let last = last_ends text t.span.start t inside end ends in
      grind (arith, from_token)

  part_alone : IsWritten (map (lexeme_of text) tokens) p → (part_span p).end ≤ length text → ReadsAlone text p
  part_alone h within =
      let before = take (length h.before) tokens in
      let rest = drop (length h.before) tokens in
      let inside = take (length h.inside) rest in
      let whole = sym (ap (λ (z : List Token). before ++ z) (take-append-drop (length h.inside) rest) ∙ take-append-drop (length h.before) tokens) in
      let rest_is = sym (drop-map (lexeme_of text) (length h.before) tokens) ∙ ap (drop (length h.before)) h.parts ∙ drop-append_seam h.before (h.inside ++ h.behind) in
      let inside_is = sym (take-map (lexeme_of text) (length h.inside) rest) ∙ ap (take (length h.inside)) rest_is ∙ take-append_seam h.inside h.behind in
      grind (arith, alone_by)

pub parts_read_alone : PartsReadAlone
parts_read_alone text tree utf8 e =
    let h = tree_stands text tree e in
    All-weaker (IsWritten (map (lexeme_of text) h.tokens)) (ReadsAlone text)
    (λ p written.
    let lies = covers_lies text h.tokens (tokens_are text utf8 h.tokens h.are) (part_span p) (part_covers text h.tokens p written) in
    part_alone text h.tokens h.are p written lies.0.ends.0)
    (tree_parts tree) h.written

module _ (bytes : ℕ) where
  -- tokens that are nearer to the begin spell the value that is
  record Moves {A : Type 0} (x : Form A) (f : A → A) : Type 0 where
    pub moves : (us : List Lexeme) (v : A) → Spells x us v → Spells x (map (nearer bytes) us) (f v)

  moves_one : (kinds : List Kind) → Moves (one kinds) (nearer bytes)
  moves_one kinds = record { moves = λ us v s. (ap (map (nearer bytes)) s.0, s.1) }

  moves_both : {A B : Type 0} (x : Form A) (y : Form B) (f : A → A) (g : B → B) → Moves x f → Moves y g → Moves (both x y) (λ v. (f v.0, g v.1))
  moves_both x y f g h k = grind (arith, map-append)

  moves_either : {A : Type 0} (x y : Form A) (f : A → A) → Moves x f → Moves y f → Moves (either x y) f
  moves_either x y f h k = record { moves = λ us v s. elim s [ inl p ↦ inl (h.moves us v p) | inr p ↦ inr (k.moves us v p) ] }

  moves_option : {A : Type 0} (x : Form A) (f : A → A) → Moves x f → Moves (option x) (option_map f)
  moves_option x f h = record { moves = λ us v s. grind arith }

  moves_each : {A : Type 0} (x : Form A) (f : A → A) → Moves x f → (us : List Lexeme) (vs : List A) → SpellsEach (Spells x) us vs → SpellsEach (Spells x) (map (nearer bytes) us) (map f vs)
  moves_each x f h us [] s = ap (map (nearer bytes)) s
  moves_each x f h us (v ∷ vs) s = (map (nearer bytes) s.0, map (nearer bytes) s.1, ap (map (nearer bytes)) s.2 ∙ map-append (nearer bytes) s.0 s.1, h.moves s.0 v s.3, moves_each x f h s.1 vs s.4)

  moves_many : {A : Type 0} (x : Form A) (f : A → A) → Moves x f → Moves (many x) (map f)
  moves_many x f h = record { moves = moves_each x f h }

  moves_as : {A B : Type 0} (value : A → B) (x : Form A) (f : A → A) (g : B → B) → ((a : A) → g (value a) ≡ value (f a)) → Moves x f → Moves (as_value value x) g
  moves_as value x f g same h = record { moves = λ us v s. (f s.0, h.moves us s.0 s.1, ap g s.2 ∙ same s.0) }

  moves_separated : {A : Type 0} (kind : Kind) (x : Form A) (f : A → A) → Moves x f → Moves (separated kind x) (map f)
  moves_separated kind x f h =
      moves_as cons _ (λ v. (f v.0, map f v.1)) (map f) (λ v. refl)
      (moves_both x _ f (map f) h
      (moves_many _ f (moves_as (λ v. v.1) _ (λ v. (nearer bytes v.0, f v.1)) f (λ v. refl) (moves_both (key kind) x (nearer bytes) f (moves_one _) h))))

  -- Constants

  abbrev nearer_name : NameUse → NameUse
  nearer_name n = record { name = n.name; span = nearer_span bytes n.span }

  abbrev nearer_literal : Literal → Literal
  nearer_literal l = record { form = l.form; span = nearer_span bytes l.span }

  moves_simple : Moves simple (nearer_simple bytes)
  unfolding simple name number
  moves_simple =
      moves_either _ _ _ (moves_as _ name nearer_name _ (λ n. refl) (moves_as _ _ (nearer bytes) nearer_name (λ l. refl) (moves_one _)))
      (moves_either _ _ _ (moves_as _ _ (nearer bytes) _ (λ l. refl) (moves_one other_literal_kinds))
      (moves_as _ number nearer_literal _ (λ l. refl)
      (moves_as _ _ (λ v. (option_map (nearer bytes) v.0, nearer bytes v.1)) _ (λ v. grind arith) (moves_both _ _ _ _ (moves_option _ _ (moves_one _)) (moves_one _)))))

  moves_constant : Moves constant (nearer_constant bytes)
  unfolding constant constant_list
  moves_constant =
      moves_either _ _ (nearer_constant bytes)
      (moves_as in_brackets _ (λ v. (nearer bytes v.0, (map (nearer_simple bytes) v.1.0, nearer bytes v.1.1))) _ (λ v. refl)
      (moves_both _ _ _ _ (moves_one _) (moves_both (list simple) _ _ _ (moves_separated _ simple _ moves_simple) (moves_one _))))
      (moves_as _ simple (nearer_simple bytes) (nearer_constant bytes) (λ v. refl) moves_simple)

pub constants_read_alone : ConstantsReadAlone
constants_read_alone text tree utf8 e c among =
    let h = All-contains (ReadsAlone text) (tree_parts tree) (constant_part c) (parts_read_alone text tree utf8 e) among in
    let start = (constant_span c).start in
    (map (nearer start) h.inside, h.alone, (moves_constant start).moves h.inside c h.spells)
