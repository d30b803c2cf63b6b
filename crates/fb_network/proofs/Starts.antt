-- Starts of prefixes in a text that grows.
use Rattle.std.proofs.Common.{ℕ, ◌≡◌, ◌<◌, ◌-◌, ◌+◌, List, [], ◌∷◌, ◌++◌, drop, take, get_or, length, map, refl, sym, ap, subst, ◌∙◌, arith, append_assoc, length-append}
use Rattle.std.proofs.lemmas.{List.{drop-append-le, length-drop, map-append, take-append-le, take-map}, List.Elements.{All-head, All-push, All-tail, All-weaker}}
use Rattle.std.proofs.lemmas.Str.{IsCharBoundary-end, IsCharBoundary-from_take, IsUtf8-string_bytes, IsUtf8-take}
use Rattle.std.proofs.Math.Seq.{drop-append_seam, take-length}
use Rattle.std.specs.{Prelude.{String, string_bytes}, String.{string_len}, List.{All}, Str.{IsCharBoundary, IsUtf8}}
use Rattle.fb_network.specs.{Laid.{prefix_within}, PlainPrefix.{PlainPrefix}, declared.paths.prefixes.Prefix.{Prefix}, Starts.{IsIn, prefix_in, start_in}}
use Rattle.fb_network.proofs.Standings.{next_taken}

-- a text, and the one that it grows to
module _ (text more : List ℕ) (before : IsUtf8 text) (after : IsUtf8 (text ++ more)) where
  cut_grown : (i : ℕ) → IsCharBoundary text i → IsCharBoundary (text ++ more) i
  cut_grown i cut =
      let long = length-append text more in
      let le = cut.0 in
      IsCharBoundary-from_take (text ++ more) i after (omega (arith, long, le)) (subst IsUtf8 (sym (take-append-le i text more le)) (IsUtf8-take text i before cut))

  is_in_grown : (p : Prefix) → IsIn text p → IsIn (text ++ more) p
  is_in_grown p is = record { rises = is.rises; from = cut_grown p.from is.from; to = cut_grown p.to is.to }

  all_grown : (ps : List Prefix) → All (IsIn text) ps → All (IsIn (text ++ more)) ps
  all_grown ps all = All-weaker (IsIn text) (IsIn (text ++ more)) is_in_grown ps all

  start_grown : (p : Prefix) → IsIn text p → start_in (text ++ more) p ≡ start_in text p
  start_grown p is =
      let rises = is.rises in
      let within = is.to.0 in
      let begins = is.from.0 in
      ap (take (p.to - p.from)) (drop-append-le p.from text more begins)
      ∙ take-append-le (p.to - p.from) (drop p.from text) more (let rest = length-drop p.from text in omega (arith, rest, rises, within))

  starts_grown : (ps : List Prefix) → All (IsIn text) ps → map (prefix_in (text ++ more)) ps ≡ map (prefix_in text) ps
  starts_grown [] all = refl
  starts_grown (p ∷ ps) all =
      (λ i. record { start = start_grown p (All-head (IsIn text) p ps all) i; ends = p.ends.value.items } ∷ starts_grown ps (All-tail (IsIn text) p ps all) i)

  added_in : (p : Prefix) → p.from ≡ length text → p.to ≡ length (text ++ more) → IsIn (text ++ more) p
  added_in p begins ends =
      let long = length-append text more in
      record {
        rises = omega (arith, long, begins, ends);
        from = subst (IsCharBoundary (text ++ more)) (sym begins) (cut_grown (length text) (IsCharBoundary-end text));
        to = subst (IsCharBoundary (text ++ more)) (sym ends) (IsCharBoundary-end (text ++ more));
      }

  added_start : (p : Prefix) → p.from ≡ length text → p.to ≡ length (text ++ more) → start_in (text ++ more) p ≡ more
  added_start p begins ends =
      let long = length-append text more in
      let count : p.to - p.from ≡ length more = omega (arith, long, begins, ends) in
      (λ i. take (count i) (drop (begins i) (text ++ more))) ∙ ap (take (length more)) (drop-append_seam text more) ∙ take-length more

  added_view : (ps : List Prefix) (p : Prefix) → All (IsIn text) ps → p.from ≡ length text → p.to ≡ length (text ++ more) → map (prefix_in (text ++ more)) (ps ++ p ∷ []) ≡ map (prefix_in text) ps ++ record { start = more; ends = p.ends.value.items } ∷ []
  added_view ps p all begins ends =
      map-append (prefix_in (text ++ more)) ps (p ∷ [])
      ∙ (λ i. starts_grown ps all i ++ record { start = added_start p begins ends i; ends = p.ends.value.items } ∷ [])

-- the text of the starts, before and after something was added to it
module _ {Z : Type 0} (old new : String Z) (more : List ℕ) (grown : string_bytes new ≡ string_bytes old ++ more) (ps : List Prefix) (all : All (IsIn (string_bytes old)) ps) where
  after : IsUtf8 (string_bytes old ++ more)
  after = subst IsUtf8 grown (IsUtf8-string_bytes new)

  pub all_kept : All (IsIn (string_bytes new)) ps
  all_kept = subst (λ (x : List ℕ). All (IsIn x) ps) (sym grown) (all_grown (string_bytes old) more (IsUtf8-string_bytes old) after ps all)

  module _ (p : Prefix) (from : p.from ≡ string_len old) (to : p.to ≡ string_len new) where
    begins : p.from ≡ length (string_bytes old)
    begins = from ∙ old.bytes.ok.0

    ends : p.to ≡ length (string_bytes old ++ more)
    ends = to ∙ new.bytes.ok.0 ∙ ap length grown

    pub all_added : All (IsIn (string_bytes new)) (ps ++ p ∷ [])
    all_added =
        All-push (IsIn (string_bytes new)) ps p all_kept
        (subst (λ (x : List ℕ). IsIn x p) (sym grown) (added_in (string_bytes old) more (IsUtf8-string_bytes old) after p begins ends))

    pub view_added : map (prefix_in (string_bytes new)) (ps ++ p ∷ []) ≡ map (prefix_in (string_bytes old)) ps ++ record { start = more; ends = p.ends.value.items } ∷ []
    view_added = ap (λ (x : List ℕ). map (prefix_in x) (ps ++ p ∷ [])) grown ∙ added_view (string_bytes old) more (IsUtf8-string_bytes old) after ps p all begins ends

-- the next prefix of an inner network, inside its instance
pub next_within : (old now new inner : List PlainPrefix) (name : List ℕ) (k : ℕ) (text : List ℕ) (rows : List Prefix) (x : Prefix) → map (prefix_in text) rows ≡ inner → k < length rows → x ≡ get_or rows k x → now ≡ old ++ map (prefix_within name) (take k inner) → new ≡ now ++ prefix_within name (prefix_in text x) ∷ [] → new ≡ old ++ map (prefix_within name) (take (k + 1) inner)
next_within old now new inner name k text rows x view lt at before added =
    let inside = prefix_within name in
    let plain = prefix_in text in
    let next : take k inner ++ plain x ∷ [] ≡ take (k + 1) inner =
    ap (λ (ps : List PlainPrefix). take k ps ++ plain x ∷ []) (sym view)
    ∙ ap (λ (ps : List PlainPrefix). ps ++ plain x ∷ []) (take-map plain k rows)
    ∙ sym (map-append plain (take k rows) (x ∷ []))
    ∙ ap (map plain) (next_taken rows k x lt at)
    ∙ sym (take-map plain (k + 1) rows)
    ∙ ap (take (k + 1)) view in
    added
    ∙ ap (λ (ps : List PlainPrefix). ps ++ inside (plain x) ∷ []) before
    ∙ append_assoc old (map inside (take k inner)) (inside (plain x) ∷ [])
    ∙ ap (λ (ps : List PlainPrefix). old ++ ps) (sym (map-append inside (take k inner) (plain x ∷ [])) ∙ ap (map inside) next)
