-- Parts of a list of bytes.
use Rattle.std.proofs.{Common.{◌≡◌, ◌≤◌, ℕ, ◌+◌, ◌-◌, List, ◌++◌, length, take, drop, ap, ◌∙◌, arith}, Math.Seq.{take-append_seam}}
use Rattle.std.proofs.{lemmas.List.Folds.{drop_split}, lemmas.List.{take_rest, length-take-le}}

-- the list from a place on: n bytes, and then those from behind them on
pub drop-by : (xs : List ℕ) (at n : ℕ) → drop at xs ≡ take n (drop at xs) ++ drop (at + n) xs
drop-by xs at n =
    let width : at + n - at ≡ n = omega arith in
    drop_split xs at (at + n) (omega arith) ∙ ap (λ k. take k (drop at xs) ++ drop (at + n) xs) width

pub prefix_is : (written rest bytes : List ℕ) → written ≡ bytes → take (length bytes) (written ++ rest) ≡ bytes
prefix_is written rest bytes is = rw is (take-append_seam bytes rest)

-- what was copied from the prefix of `&xs[at..]`
pub copied_is : (xs buffer : List ℕ) (at n : ℕ) → n ≤ length (take (length xs - at) (drop at xs))
    → take (length (take n (take (length xs - at) (drop at xs)))) buffer ≡ take n (take (length xs - at) (drop at xs)) → take n buffer ≡ take n (drop at xs)
copied_is xs buffer at n within copied =
    let room : n ≤ length (drop at xs) = rw (take_rest xs at) at within in
    let same : take (length (take n (drop at xs))) buffer ≡ take n (drop at xs) = rw (take_rest xs at) at copied in
    let width : length (take n (drop at xs)) ≡ n = length-take-le n (drop at xs) room in
    rw width at same
