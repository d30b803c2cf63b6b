-- The places of what a client's line has.
use Rattle.std.proofs.Common.{◌≡◌, ◌∙◌, ◌*◌, ◌++◌, ℕ, List, ap, append_assoc, arith, drop, length, length-append, refl, subst, sym, take}
use Rattle.std.specs.Prelude.{codes}
use Rattle.std.proofs.{Math.Seq.{drop-append_seam, take-append_seam}, lemmas.List.{append_cancel_left}}
use Rattle.sha2.proofs.Facts256.{length-sha256}
use Rattle.hex.specs.Hex.{lower_digits}
use Rattle.hex.proofs.HexLemmas.{length-encode_with}
use Rattle.fb_secret.specs.{Exchange.{client_line, client_message, proof}, Hmac.{hmac_sha256}}

length-hmac_sha256 : (key text : List ℕ) → length (hmac_sha256 key text) ≡ 32
unfolding hmac_sha256
length-hmac_sha256 key text = length-sha256 _

length-proof : (secret message : List ℕ) → length (proof secret message) ≡ 64
length-proof secret message = length-encode_with lower_digits (hmac_sha256 secret message) ∙ ap (λ n. 2 * n) (length-hmac_sha256 secret message)

-- five parts, of which the second and the fourth have 64 bytes
length_of : (a b c d e : List ℕ) → length a ≡ 10 → length b ≡ 64 → length c ≡ 15 → length d ≡ 64 → length e ≡ 3 → length (a ++ b ++ c ++ d ++ e) ≡ 156
length_of a b c d e la lb lc ld le = grind (arith, length-append, la, lb, lc, ld, le)

fourth_of : (a b c d e : List ℕ) → length a ≡ 10 → length b ≡ 64 → length c ≡ 15 → length d ≡ 64 → take 64 (drop 89 (a ++ b ++ c ++ d ++ e)) ≡ d
fourth_of a b c d e la lb lc ld =
    let front = a ++ b ++ c in
    let at : length front ≡ 89 = grind (arith, length-append, la, lb, lc) in
    let drops : ℕ → Type 0 = λ n. drop n (front ++ (d ++ e)) ≡ d ++ e in
    let takes : ℕ → Type 0 = λ n. take n (d ++ e) ≡ d in
    ap (λ line. take 64 (drop 89 line)) (append_assoc front d e) ∙ (ap (λ line. take 64 line) (subst drops at (drop-append_seam front (d ++ e))) ∙ subst takes ld (take-append_seam d e))

pub length-client_line : (secret host client : List ℕ) → length client ≡ 64 → length (client_line secret host client) ≡ 156
length-client_line secret host client long =
    length_of (codes "{\"proof\":\"") (proof secret (client_message host client)) (codes "\",\"challenge\":\"") client (codes "\"}\n") refl (length-proof secret (client_message host client)) refl long refl

pub client_of : (secret host client : List ℕ) → length client ≡ 64 → take 64 (drop 89 (client_line secret host client)) ≡ client
client_of secret host client long =
    fourth_of (codes "{\"proof\":\"") (proof secret (client_message host client)) (codes "\",\"challenge\":\"") client (codes "\"}\n") refl (length-proof secret (client_message host client)) refl long

-- two parts, of which the first has 64 bytes
parts_of : (xs ys : List ℕ) → length xs ≡ 64 → (take 64 (xs ++ ys) ≡ xs) × (drop 64 (xs ++ ys) ≡ ys)
parts_of xs ys long =
    let takes : ℕ → Type 0 = λ n. take n (xs ++ ys) ≡ xs in
    let drops : ℕ → Type 0 = λ n. drop n (xs ++ ys) ≡ ys in
    (subst takes long (take-append_seam xs ys), subst drops long (drop-append_seam xs ys))

pub same_message : (host client again later : List ℕ) → length host ≡ 64 → length again ≡ 64 → client_message host client ≡ client_message again later → (host ≡ again) × (client ≡ later)
same_message host client again later long as_long same =
    let both : host ++ client ≡ again ++ later = append_cancel_left (codes "client") (host ++ client) (again ++ later) same in
    let first = parts_of host client long in
    let second = parts_of again later as_long in
    (sym first.0 ∙ (ap (λ bytes. take 64 bytes) both ∙ second.0), sym first.1 ∙ (ap (λ bytes. drop 64 bytes) both ∙ second.1))
