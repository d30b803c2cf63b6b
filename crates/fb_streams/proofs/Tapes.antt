-- What stands on a tape after one more piece.
use Rattle.std.proofs.Common.{◌≡◌, ◌+◌, ℕ, List, [], ◌∷◌, ◌++◌, Option, Some, None, Result, Ok, Err, length, take, refl, sym, ap, ◌∙◌, append_assoc, append-nil, length-append}
use Rattle.std.specs.{List.{concat}, Io.KnownBytes.{Consumes, Keeps}}

pub concat-snoc : (ps : List (List ℕ)) (p : List ℕ) → concat (ps ++ p ∷ []) ≡ concat ps ++ p
concat-snoc [] p = append-nil p
concat-snoc (q ∷ ps) p = ap (λ xs. q ++ xs) (concat-snoc ps p) ∙ sym (append_assoc q (concat ps) p)

pub Consumes-kept : (old new : Option (List ℕ)) → Keeps old new → Consumes old new []
Consumes-kept None new h = tt
Consumes-kept (Some xs) None h = h
Consumes-kept (Some xs) (Some ys) h = sym h

pub ruleset tapes = (concat-snoc, Consumes-kept, append-nil, length-append)
