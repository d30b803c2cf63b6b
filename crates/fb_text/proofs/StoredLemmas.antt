-- A name at the front of a field, before zeros.
use Rattle.std.proofs.Common.{◌≡◌, ℕ, ◌+◌, ◌-◌, ◌≤◌, true, List, ◌++◌, length, take, drop, replicate, sym, refl, ap, subst, ◌∙◌, arith}
use Rattle.std.proofs.lemmas.List.{take_all, take_at, drop_at, take-append-le, drop-append-le, length-append, length-replicate, drop-replicate, replicate-append-replicate}
use Rattle.std.specs.Str.{str_to_ascii_uppercase}
use Rattle.fb_text.specs.{Spelling.{IsName}, Stored.{IsStoredIn}, Words.{is_word}}
use Rattle.fb_text.proofs.NameLemmas.{IsName-upper}

-- the name, written over zeros
pub stored_prefix : (size : ℕ) (name copied : List ℕ) → length name ≤ size → copied ≡ name → IsName name → IsStoredIn size (copied ++ drop (length name) (replicate size 0)) (length name)
stored_prefix size name copied short same is =
    subst (λ (prefix : List ℕ). IsStoredIn size (prefix ++ drop (length name) (replicate size 0)) (length name)) (sym same) (record {
      room = length-append name (drop (length name) (replicate size 0)) ∙ ap (λ (xs : List ℕ). length name + length xs) (drop-replicate (length name) size 0) ∙ ap (λ n. length name + n) (length-replicate (size - length name) 0) ∙ (omega (arith, short));
      name = subst IsName (sym (take_at name (drop (length name) (replicate size 0)) _ refl)) is;
      within = short;
      rest = drop_at name (drop (length name) (replicate size 0)) _ refl ∙ drop-replicate (length name) size 0;
    })

-- the same name, copied over more zeros
pub stored_wider : (small size : ℕ) (bytes copied : List ℕ) (len : ℕ) → small ≤ size → copied ≡ bytes → IsStoredIn small bytes len → IsStoredIn size (copied ++ drop small (replicate size 0)) len
stored_wider small size bytes copied len wider same is =
    let zeros = drop small (replicate size 0) in
    let more : zeros ≡ replicate (size - small) 0 = drop-replicate small size 0 in
    let within : len ≤ length bytes = omega (arith, is.room, is.within) in
    subst (λ (front : List ℕ). IsStoredIn size (front ++ zeros) len) (sym same) (record {
      room = length-append bytes zeros ∙ ap (λ (xs : List ℕ). length bytes + length xs) more ∙ ap (λ n. length bytes + n) (length-replicate (size - small) 0) ∙ (omega (arith, is.room, wider));
      name = subst IsName (sym (take-append-le len bytes zeros within)) is.name;
      within = omega (arith, is.within, wider);
      rest = drop-append-le len bytes zeros within ∙ (λ i. is.rest i ++ more i) ∙ replicate-append-replicate (small - len) (size - small) 0 ∙ ap (λ n. replicate n 0) (omega (arith, is.within, wider));
    })

-- a word that is written in upper case over zeros, up to its length
pub stored_upper : (size : ℕ) (bytes word : List ℕ) (i : ℕ) → i ≡ length word → length bytes ≡ size → take i bytes ≡ str_to_ascii_uppercase (take i word) → drop i bytes ≡ replicate (size - i) 0 → is_word word ≡ true → length word ≤ 64 → length word ≤ size → (take (length word) bytes ≡ str_to_ascii_uppercase word) × IsStoredIn size bytes (length word)
stored_upper size bytes word i whole room prefix rest is short fits =
    let written : take (length word) bytes ≡ str_to_ascii_uppercase word = ap (λ n. take n bytes) (sym whole) ∙ prefix ∙ ap str_to_ascii_uppercase (take_all i word (omega arith)) in (
      written,
      record {
        room = room;
        name = rw written (IsName-upper word is short);
        within = fits;
        rest = ap (λ n. drop n bytes) (sym whole) ∙ rest ∙ ap (λ n. replicate (size - n) 0) whole;
      },
    )
