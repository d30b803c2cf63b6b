-- A key, followed by zeros.
use Rattle.std.proofs.Common.{◌≡◌, ◌∙◌, ◌++◌, ◌-◌, ◌≤◌, ℕ, Bool, false, List, ap, arith, drop, length, nat_lt, refl, replicate, subst, sym}
use Rattle.std.specs.Prelude.{if◌then◌else◌}
use Rattle.std.proofs.lemmas.{Bool.Decides.{nat_tests}, List.{drop-replicate}}
use Rattle.sha2.specs.Sha256.{sha256}
use Rattle.fb_secret.specs.Hmac.{padded_key}

pub padded-short : (key : List ℕ) → length key ≤ 64 → key ++ drop (length key) (replicate 64 0) ≡ padded_key key
padded-short key short =
    let shape : Bool → Type 0 = λ is_long. key ++ replicate (64 - length key) 0 ≡ (if is_long then sha256 key else key) ++ replicate (64 - length (if is_long then sha256 key else key)) 0 in
    let is_short : nat_lt 64 (length key) ≡ false = grind (arith, nat_tests) in
    ap (λ zeros. key ++ zeros) (drop-replicate (length key) 64 0) ∙ subst shape (sym is_short) refl
