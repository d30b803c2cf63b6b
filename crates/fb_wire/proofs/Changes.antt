-- The changes of a commit, with their names and texts read, one after another.
use Rattle.std.proofs.Common.{◌≡◌, ◌<◌, ◌+◌, ℕ, [], ◌∷◌, ◌++◌, ◌∙◌, Err, List, Ok, Result, ap, drop, get_or, length, map, refl, sym, take}
use Rattle.std.proofs.lemmas.List.{map-append, take-append-drop, take_more}
use Rattle.fb_library.specs.Texts.{Edit}
use Rattle.fb_messages.specs.Requests.{Change}
use Rattle.fb_wire.specs.Conversations.{edit_in, edits_from, edits_in}

-- some edits and those behind them
abbrev pub edits_then : Result (List Edit) (List ℕ) → Result (List Edit) (List ℕ) → Result (List Edit) (List ℕ)
edits_then (Ok edits) (Ok more) = Ok (edits ++ more)
edits_then (Ok edits) (Err reason) = Err reason
edits_then (Err reason) more = Err reason

no_edits : (r : Result (List Edit) (List ℕ)) → r ≡ edits_then (Ok []) r
no_edits (Ok edits) = refl
no_edits (Err reason) = refl

edits_between : (e : Result Edit (List ℕ)) (a b : Result (List Edit) (List ℕ)) → edits_from e (edits_then a b) ≡ edits_then (edits_from e a) b
edits_between (Err reason) a b = refl
edits_between (Ok edit) (Err reason) b = refl
edits_between (Ok edit) (Ok edits) (Ok more) = refl
edits_between (Ok edit) (Ok edits) (Err reason) = refl

pub edits_in-append : (xs ys : List Change) → edits_in (xs ++ ys) ≡ edits_then (edits_in xs) (edits_in ys)
edits_in-append [] ys = no_edits (edits_in ys)
edits_in-append (x ∷ xs) ys = rw (edits_in-append xs ys) (edits_between (edit_in x) (edits_in xs) (edits_in ys))

module _ {X : Type 0} (f : X → Change) where
  changes_more : (xs : List X) (i : ℕ) (d : X) → i < length xs → map f (take (i + 1) xs) ≡ map f (take i xs) ++ f (get_or xs i d) ∷ []
  changes_more xs i d within = ap (map f) (take_more xs i d within) ∙ map-append f (take i xs) (get_or xs i d ∷ [])

  pub one_more_edit : (xs : List X) (i : ℕ) (d : X) (edits : List Edit) (edit : Edit) → i < length xs
      → edits_in (map f (take i xs)) ≡ Ok edits → edit_in (f (get_or xs i d)) ≡ Ok edit → edits_in (map f (take (i + 1) xs)) ≡ Ok (edits ++ edit ∷ [])
  one_more_edit xs i d edits edit within before is =
      ap edits_in (changes_more xs i d within) ∙ edits_in-append (map f (take i xs)) (f (get_or xs i d) ∷ []) ∙ rw (before, is) refl

  pub one_refused : (xs : List X) (i : ℕ) (d : X) (edits : List Edit) (reason : List ℕ) → i < length xs
      → edits_in (map f (take i xs)) ≡ Ok edits → edit_in (f (get_or xs i d)) ≡ Err reason → edits_in (map f xs) ≡ Err reason
  one_refused xs i d edits reason within before is =
      let prefix : edits_in (map f (take (i + 1) xs)) ≡ Err reason =
      ap edits_in (changes_more xs i d within) ∙ edits_in-append (map f (take i xs)) (f (get_or xs i d) ∷ []) ∙ rw (before, is) refl in
      let whole : map f xs ≡ map f (take (i + 1) xs) ++ map f (drop (i + 1) xs) =
      ap (map f) (sym (take-append-drop (i + 1) xs)) ∙ map-append f (take (i + 1) xs) (drop (i + 1) xs) in
      ap edits_in whole ∙ edits_in-append (map f (take (i + 1) xs)) (map f (drop (i + 1) xs)) ∙ rw prefix refl
