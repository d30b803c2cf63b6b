-- What the checks of a declaration find one after another.
use Rattle.std.proofs.Common.{◌≡◌, List, [], ◌++◌, append-nil, append_assoc}

module _ {A : Type 0} where
  pub block_joined : (old d e c n : List A) → (old ++ d) ++ ((e ++ c) ++ n) ≡ old ++ ((((d ++ e) ++ c) ++ n) ++ [])
  block_joined old d e c n = simp (append_assoc, append-nil)

  pub subapplication_joined : (old d n : List A) → (old ++ d) ++ n ≡ old ++ ((((d ++ []) ++ []) ++ n) ++ [])
  subapplication_joined old d n = simp (append_assoc, append-nil)

  pub system_joined : (old d n m : List A) → ((old ++ d) ++ n) ++ m ≡ old ++ ((((d ++ []) ++ []) ++ n) ++ m)
  system_joined old d n m = simp (append_assoc, append-nil)
