-- Names of trees, which have neither points nor blanks, and paths of such names as texts.
use Rattle.fb_laws.proofs.Common.{◌≡◌, ◌≢◌, ℕ, ◌==◌, true, false, All, origin_in_map, List, [], Some, None, Result, Ok, Err, refl, sym, ap, ◌∙◌, subst, arith, IsOk, codes, slice_range, get, option_and_then, All-contains, is_word_start, is_word_byte, name_of, is_word, NameFault, NameUse, IsName-upper, is_word-all, name_of-ok, lexeme_of, name_or, name_use, spelled_name, DeclTree, Sources, tree_at, tree_in, tree_of, BodyTree, BrokenAt, Whole, body_of, name_part, tree_parts, IsWritten, Contains, map, ◌+◌, ◌≤◌, length, ◌∷◌, ◌++◌, inl, inr, append_assoc, append-nil, length-append, flat_map, flat_map-append, printed, IsPrefix, with_points, Path, All-append, All-cons, All-head, All-nil, All-tail, slice_split}
use Rattle.fb_laws.proofs.Standing.{name_in, spelled_word, tree_stands}
use Rattle.std.proofs.{lemmas.Bool.Decides.{nat_tests}, lemmas.List.Sums.{AllPass-from_list_all}, lemmas.List.Splits.{slice_split_at, slice_split_none}}
use Rattle.fb_text.specs.Spelling.{IsName}

-- another byte than this one
abbrev pub IsOther : ℕ → ℕ → Type 0
IsOther c b = (b == c) ≡ false

-- no byte is this one
abbrev pub Without : ℕ → List ℕ → Type 0
Without c bytes = All (IsOther c) bytes

pub record IsPlain (name : List ℕ) : Type 0 where
  pub some : name ≢ []
  pub no_points : Without 46 name
  pub no_blanks : Without 32 name

plain_name : (name : List ℕ) → IsName name → IsPlain name
unfolding is_word is_word_byte
plain_name name h =
    let word = AllPass-from_list_all is_word_byte name (is_word-all name h.word) in
    grind (arith, nat_tests)

underscore : IsName (codes "_")
unfolding is_word is_word_start
underscore = record { word = refl; short = omega arith; upper_case = refl }

-- what a token spells is a name, of whatever kind it is
spelled : (bytes : List ℕ) → IsName (spelled_name bytes)
spelled bytes = by (name_of bytes) refl
  where
    by : (r : Result (List ℕ) NameFault) → name_of bytes ≡ r → IsName (name_or (name_of bytes) (codes "_"))
    by (Ok name) e =
        let word = (name_of-ok bytes).0 (subst (λ (r : Result (List ℕ) NameFault). IsOk r) (sym e) refl) in
        subst IsName (sym (spelled_word bytes (codes "_") word.0 word.1)) (IsName-upper bytes word.0 word.1)
    by (Err fault) e = subst (λ (r : Result (List ℕ) NameFault). IsName (name_or r (codes "_"))) (sym e) underscore

pub name_in_text : (text : List ℕ) (tree : DeclTree) → body_of text ≡ Whole tree → (name : NameUse) → Contains (tree_parts tree) (name_part name) → IsPlain name.name
unfolding lexeme_of
name_in_text text tree is name among =
    let h = tree_stands text tree is in
    let lexemes = map (lexeme_of text) h.tokens in
    let w = All-contains (IsWritten lexemes) (tree_parts tree) (name_part name) h.written among in
    let found = name_in lexemes w.inside w.before w.behind name w.parts w.spells in
    let of = origin_in_map (lexeme_of text) h.tokens found.0 found.1 in
    let bytes = slice_range text of.origin.span.start of.origin.span.end in
    let same : name.name ≡ spelled_name bytes = ap (λ (n : NameUse). n.name) (found.3 ∙ ap name_use (sym of.gives)) in
    subst IsPlain (sym same) (plain_name (spelled_name bytes) (spelled bytes))

-- the same of the tree of a unit
pub name_in_unit : (sources : Sources) (unit : List ℕ) (tree : DeclTree) → tree_at sources unit ≡ Some tree → (name : NameUse) → Contains (tree_parts tree) (name_part name) → IsPlain name.name
name_in_unit sources unit tree is name among =
    (elim (get sources unit) as (λ text. option_and_then tree_of text ≡ Some tree → IsPlain name.name) [ None ↦ λ e. absurd (let no : ⊥ = cc in no) | Some text ↦ λ e. by_body text (body_of text) refl e ]) is
  where
    by_body : (text : List ℕ) (body : BodyTree) → body_of text ≡ body → tree_in body ≡ Some tree → IsPlain name.name
    by_body text (Whole other) e g = let same : other ≡ tree = cc in name_in_text text tree (e ∙ ap (λ (t : DeclTree). Whole t) same) name among
    by_body text (BrokenAt span) e g = absurd (let no : ⊥ = cc in no)

abbrev pub ArePlain : Path → Type 0
ArePlain path = All IsPlain path

-- ---- with points

pub same_print : (path : Path) → with_points path ≡ printed path
same_print [] = refl
same_print (x ∷ []) = append-nil x
same_print (x ∷ (y ∷ others)) = ap (λ (rest : List ℕ). x ++ 46 ∷ rest) (same_print (y ∷ others))

-- ---- the names of a text

-- what is between bytes
abbrev parts : ℕ → List ℕ → Path
parts c text = slice_split (λ (b : ℕ). b == c) text

-- a part without the byte, and what follows the byte
part_then : (c : ℕ) (name rest : List ℕ) → (c == c) ≡ true → Without c name → parts c (name ++ c ∷ rest) ≡ name ∷ parts c rest
part_then c name rest here none = slice_split_at (λ (b : ℕ). b == c) name c rest none here

names_of : (path : Path) → path ≢ [] → ArePlain path → parts 46 (with_points path) ≡ path
names_of [] some h = absurd (some refl)
names_of (first ∷ []) some h = ap (parts 46) (append-nil first) ∙ slice_split_none (λ (b : ℕ). b == 46) first (All-head IsPlain first [] h).no_points
names_of (first ∷ (next ∷ others)) some h =
    part_then 46 first (with_points (next ∷ others)) refl (All-head IsPlain first (next ∷ others) h).no_points
    ∙ ap (λ (names : Path). first ∷ names) (names_of (next ∷ others) (λ e. cc) (All-tail IsPlain first (next ∷ others) h))

-- a text of names, and what follows a point
prefix_names : (path : Path) (rest : List ℕ) → path ≢ [] → ArePlain path → parts 46 (with_points path ++ 46 ∷ rest) ≡ path ++ parts 46 rest
prefix_names [] rest some h = absurd (some refl)
prefix_names (first ∷ []) rest some h =
    ap (λ (t : List ℕ). parts 46 (t ++ 46 ∷ rest)) (append-nil first) ∙ part_then 46 first rest refl (All-head IsPlain first [] h).no_points
prefix_names (first ∷ (next ∷ others)) rest some h =
    ap (parts 46) (append_assoc first (46 ∷ with_points (next ∷ others)) (46 ∷ rest))
    ∙ part_then 46 first (with_points (next ∷ others) ++ 46 ∷ rest) refl (All-head IsPlain first (next ∷ others) h).no_points
    ∙ ap (λ (names : Path). first ∷ names) (prefix_names (next ∷ others) rest (λ e. cc) (All-tail IsPlain first (next ∷ others) h))

-- ---- paths that continue others

-- a text that is before a path by whole names has names
pub prefix_has_name : (path : Path) → path ≢ [] → ArePlain path → ¬ IsPrefix [] (with_points path)
prefix_has_name [] some h prefix = some refl
prefix_has_name (first ∷ others) some h (inl e) =
    (All-head IsPlain first others h).some (let names : first ∷ others ≡ [] ∷ [] = sym (names_of (first ∷ others) some h) ∙ ap (parts 46) e in cc)
prefix_has_name (first ∷ others) some h (inr (rest, e)) =
    (All-head IsPlain first others h).some (let names : first ∷ others ≡ [] ∷ parts 46 rest = sym (names_of (first ∷ others) some h) ∙ ap (parts 46) e in cc)

pub goes_on : (a whole : Path) → a ≢ [] → whole ≢ [] → ArePlain a → ArePlain whole → IsPrefix (with_points a) (with_points whole) → (inner : Path) × (whole ≡ a ++ inner)
goes_on a whole some there plain all (inl e) = ([], sym (names_of whole there all) ∙ ap (parts 46) e ∙ names_of a some plain ∙ sym (append-nil a))
goes_on a whole some there plain all (inr (rest, e)) = (parts 46 rest, sym (names_of whole there all) ∙ ap (parts 46) e ∙ prefix_names a rest some plain)

-- names, each with its point
abbrev pointed : Path → List ℕ
pointed names = flat_map (λ (name : List ℕ). 46 ∷ name) names

pub prefix_of : (a inner : Path) → a ≢ [] → IsPrefix (with_points a) (with_points (a ++ inner))
prefix_of [] inner some = absurd (some refl)
prefix_of (first ∷ others) [] some = inl (ap with_points (append-nil (first ∷ others)))
prefix_of (first ∷ others) (name ∷ names) some = grind (arith, flat_map-append, append_assoc)

-- of two paths that one continues, the one with more names is the longer text, by a byte for each name at least
pointed_lengths : (a b inner more : Path) → a ++ inner ≡ b ++ more → length a ≤ length b → length (pointed a) + length b ≤ length (pointed b) + length a
pointed_lengths [] [] inner more e h = omega arith
pointed_lengths [] (y ∷ ys) inner more e h = let rest = pointed_lengths [] ys (ys ++ more) more refl (omega arith) in omega (arith, length-append y (pointed ys))
pointed_lengths (x ∷ xs) [] inner more e h = absurd (omega arith)
pointed_lengths (x ∷ xs) (y ∷ ys) inner more e h =
    let first : x ≡ y = cc in
    let others : xs ++ inner ≡ ys ++ more = cc in
    let rest = pointed_lengths xs ys inner more others (omega arith) in
    omega (arith, ap length first, length-append x (pointed xs), length-append y (pointed ys))

pub text_lengths : (a b inner more : Path) → a ≢ [] → a ++ inner ≡ b ++ more → length a ≤ length b → length (printed a) + length b ≤ length (printed b) + length a
text_lengths [] b inner more some e h = absurd (some refl)
text_lengths (x ∷ xs) [] inner more some e h = absurd (omega arith)
text_lengths (x ∷ xs) (y ∷ ys) inner more some e h =
    let first : x ≡ y = cc in
    let others : xs ++ inner ≡ ys ++ more = cc in
    let rest = pointed_lengths xs ys inner more others (omega arith) in
    omega (arith, ap length first, ap length (same_print (x ∷ xs)), ap length (same_print (y ∷ ys)), length-append x (pointed xs), length-append y (pointed ys))

-- ---- commands

no_blanks : (path : Path) → ArePlain path → Without 32 (with_points path)
no_blanks [] h = All-nil (IsOther 32)
no_blanks (first ∷ []) h = All-append (IsOther 32) first [] (All-head IsPlain first [] h).no_blanks (All-nil (IsOther 32))
no_blanks (first ∷ (next ∷ others)) h =
    All-append (IsOther 32) first (46 ∷ with_points (next ∷ others)) (All-head IsPlain first (next ∷ others) h).no_blanks
    (All-cons (IsOther 32) 46 (with_points (next ∷ others)) refl (no_blanks (next ∷ others) (All-tail IsPlain first (next ∷ others) h)))

-- paths with the same text are the same
pub same_names : (a b : Path) → ArePlain a → ArePlain b → with_points a ≡ with_points b → a ≡ b
same_names [] [] h k e = refl
same_names [] (b ∷ more) h k e = absurd (prefix_has_name (b ∷ more) (λ none. cc) k (inl (sym e)))
same_names (a ∷ others) [] h k e = absurd (prefix_has_name (a ∷ others) (λ none. cc) h (inl e))
same_names (a ∷ others) (b ∷ more) h k e = sym (names_of (a ∷ others) (λ none. cc) h) ∙ ap (parts 46) e ∙ names_of (b ∷ more) (λ none. cc) k

-- and those of commands that are the same
pub same_path : (a b : Path) (x y : List ℕ) → ArePlain a → ArePlain b → with_points a ++ 32 ∷ x ≡ with_points b ++ 32 ∷ y → a ≡ b
same_path a b x y h k e =
    let both = sym (part_then 32 (with_points a) x refl (no_blanks a h)) ∙ ap (parts 32) e ∙ part_then 32 (with_points b) y refl (no_blanks b k) in
    same_names a b h k (let texts : with_points a ≡ with_points b = cc in texts)
