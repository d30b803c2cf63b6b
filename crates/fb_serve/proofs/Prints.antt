-- Prefixes of two lines, one behind the other.
use Rattle.std.proofs.Common.{◌≡◌, ◌<◌, ◌^◌, ℕ, [], ◌∷◌, ◌++◌, ◌∙◌, List, ap, append_assoc, false, length, refl, suc, sym, take, true, zero}
use Rattle.std.proofs.Math.Seq.{take-length}
use Rattle.fb_serve.specs.Lines.{SaysLines, farewell, greeting}

prefix_more : (n : ℕ) (xs ys : List ℕ) → (m : ℕ) × (take n xs ≡ take m (xs ++ ys))
prefix_more zero xs ys = (0, refl)
prefix_more (suc n) [] ys = (0, refl)
prefix_more (suc n) (x ∷ xs) ys =
    let rest = prefix_more n xs ys in
    (suc rest.0, ap (λ (l : List ℕ). x ∷ l) rest.1)

prefix_behind : (n : ℕ) (xs ys : List ℕ) → (m : ℕ) × (xs ++ take n ys ≡ take m (xs ++ ys))
prefix_behind n [] ys = (n, refl)
prefix_behind n (x ∷ xs) ys =
    let rest = prefix_behind n xs ys in
    (suc rest.0, ap (λ (l : List ℕ). x ∷ l) rest.1)

-- a prefix of the first line
pub greets_in_part : (port n : ℕ) (old new : List ℕ) → port < 2 ^ 16 → new ≡ old ++ take n (greeting port) → SaysLines false old new
greets_in_part port n old new small is =
    let prefix = prefix_more n (greeting port) farewell in
    (port, small, (λ is. absurd cc), (prefix.0, is ∙ ap (λ (l : List ℕ). old ++ l) prefix.1))

-- the first line, and a prefix of the second
pub closes_in_part : (port n : ℕ) (old between new : List ℕ) → port < 2 ^ 16 → between ≡ old ++ greeting port → new ≡ between ++ take n farewell → SaysLines false old new
closes_in_part port n old between new small first is =
    let prefix = prefix_behind n (greeting port) farewell in
    let whole : new ≡ old ++ (greeting port ++ take n farewell) = is ∙ ap (λ (l : List ℕ). l ++ take n farewell) first ∙ append_assoc old (greeting port) (take n farewell) in
    (port, small, (λ is. absurd cc), (prefix.0, whole ∙ ap (λ (l : List ℕ). old ++ l) prefix.1))

-- both lines
pub closes : (port : ℕ) (old between new : List ℕ) → port < 2 ^ 16 → between ≡ old ++ greeting port → new ≡ between ++ farewell → SaysLines true old new
closes port old between new small first is =
    let whole : new ≡ old ++ (greeting port ++ farewell) = is ∙ ap (λ (l : List ℕ). l ++ farewell) first ∙ append_assoc old (greeting port) farewell in
    (port, small, (λ is. whole), (length (greeting port ++ farewell), whole ∙ ap (λ (l : List ℕ). old ++ l) (sym (take-length (greeting port ++ farewell)))))

-- the first line
pub greets : (port : ℕ) (old new : List ℕ) → port < 2 ^ 16 → new ≡ old ++ greeting port → SaysLines false old new
greets port old new small is = greets_in_part port (length (greeting port)) old new small (is ∙ ap (λ (l : List ℕ). old ++ l) (sym (take-length (greeting port))))
