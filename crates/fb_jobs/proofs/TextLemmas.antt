-- Texts and names as what was read.
use Rattle.std.proofs.Common.{◌≡◌, ℕ, zero, suc, ◌+◌, ◌<◌, ◌≤◌, List, [], ◌∷◌, ◌++◌, map, length, take, get_or, slice_get, Option, Some, None, is_none, cond, refl, sym, ap, ◌∙◌, arith, count_by}
use Rattle.std.proofs.lemmas.List.Recursion.{is_count_by}
use Rattle.std.proofs.{lemmas.Option.{slice_get-map, slice_get_read, slice_get_past, get_or_from_slice_get}, lemmas.List.{map-append, length-append, take-map}}
use Rattle.std.specs.{Option.{option_map}, declared.sync.Arc.{Arc}, declared.alloc.Global.{Global}}
use Rattle.fb_deploy.specs.{Library.Filed.{filed_text}, Library.Texts.{FiledText, Held}, Library.declared.filed.Version.{Version}}
use Rattle.fb_jobs.specs.{Reads.{Seen}, Texts.{text_of, there, nothing, seen_in, texts_seen, missing, AreNamed, seen_under}}

abbrev Texts : Type 0
Texts = List (Option FiledText)

-- ---- one more

pub one_more_text : (ts : Texts) (names : List (List ℕ)) (it : FiledText) → AreNamed ts names → seen_in (ts ++ Some it ∷ []) names ≡ seen_in ts names ++ there it ∷ []
one_more_text [] names it named = refl
one_more_text (Some t ∷ ts) names it named = ap (λ seen. there t ∷ seen) (one_more_text ts names it named)
one_more_text (None ∷ ts) [] it named = absurd (omega (arith, named))
one_more_text (None ∷ ts) (name ∷ names) it named = ap (λ seen. nothing name ∷ seen) (one_more_text ts names it (omega (arith, named)))

pub one_more_name : (ts : Texts) (names : List (List ℕ)) (new : List ℕ) → AreNamed ts names → seen_in (ts ++ None ∷ []) (names ++ new ∷ []) ≡ seen_in ts names ++ nothing new ∷ []
one_more_name [] [] new named = refl
one_more_name [] (name ∷ names) new named = absurd (omega (arith, named))
one_more_name (Some t ∷ ts) names new named = ap (λ seen. there t ∷ seen) (one_more_name ts names new named)
one_more_name (None ∷ ts) [] new named = absurd (omega (arith, named))
one_more_name (None ∷ ts) (name ∷ names) new named = ap (λ seen. nothing name ∷ seen) (one_more_name ts names new (omega (arith, named)))

pub missing_text : (ts : Texts) (it : FiledText) → missing (ts ++ Some it ∷ []) ≡ missing ts
missing_text [] it = refl
missing_text (Some t ∷ ts) it = missing_text ts it
missing_text (None ∷ ts) it = ap (λ n. suc n) (missing_text ts it)

pub missing_name : (ts : Texts) → missing (ts ++ None ∷ []) ≡ suc (missing ts)
missing_name [] = refl
missing_name (Some t ∷ ts) = missing_name ts
missing_name (None ∷ ts) = ap (λ n. suc n) (missing_name ts)

pub seen_count : (ts : Texts) (names : List (List ℕ)) → AreNamed ts names → length (seen_in ts names) ≡ length ts
seen_count [] names named = refl
seen_count (Some t ∷ ts) names named = ap (λ n. suc n) (seen_count ts names named)
seen_count (None ∷ ts) [] named = absurd (omega (arith, named))
seen_count (None ∷ ts) (name ∷ names) named = ap (λ n. suc n) (seen_count ts names (omega (arith, named)))

-- ---- both lists again from what was read

abbrev texts_in : List Seen → Texts
texts_in seen = map (λ (it : Seen). option_map (λ (held : Held). record { unit = it.name; held = held }) it.found) seen

abbrev name_by : Option Held → List ℕ → List (List ℕ) → List (List ℕ)
name_by None name names = name ∷ names
name_by (Some held) name names = names

abbrev names_in : List Seen → List (List ℕ)
names_in [] = []
names_in (it ∷ seen) = name_by it.found it.name (names_in seen)

texts_again : (ts : Texts) (names : List (List ℕ)) → AreNamed ts names → texts_in (seen_in ts names) ≡ ts
texts_again [] names named = refl
texts_again (Some t ∷ ts) names named = ap (λ more. Some t ∷ more) (texts_again ts names named)
texts_again (None ∷ ts) [] named = absurd (omega (arith, named))
texts_again (None ∷ ts) (name ∷ names) named = ap (λ more. None ∷ more) (texts_again ts names (omega (arith, named)))

names_again : (ts : Texts) (names : List (List ℕ)) → AreNamed ts names → names_in (seen_in ts names) ≡ names
names_again [] [] named = refl
names_again [] (name ∷ names) named = absurd (omega (arith, named))
names_again (Some t ∷ ts) names named = names_again ts names named
names_again (None ∷ ts) [] named = absurd (omega (arith, named))
names_again (None ∷ ts) (name ∷ names) named = ap (λ more. name ∷ more) (names_again ts names (omega (arith, named)))

pub same_texts : (ts us : Texts) (names others : List (List ℕ)) → AreNamed ts names → AreNamed us others → seen_in ts names ≡ seen_in us others → ts ≡ us
same_texts ts us names others named others_named same = sym (texts_again ts names named) ∙ ap texts_in same ∙ texts_again us others others_named

pub same_names : (ts us : Texts) (names others : List (List ℕ)) → AreNamed ts names → AreNamed us others → seen_in ts names ≡ seen_in us others → names ≡ others
same_names ts us names others named others_named same = sym (names_again ts names named) ∙ ap names_in same ∙ names_again us others others_named

-- ---- one read

pub seen_at : (ts : Texts) (names : List (List ℕ)) (i : ℕ) → AreNamed ts names → slice_get (seen_in ts names) i ≡ option_map (seen_under (get_or names (missing (take i ts)) [])) (slice_get ts i)
seen_at [] names i named = refl
seen_at (Some t ∷ ts) names zero named = refl
seen_at (Some t ∷ ts) names (suc i) named = seen_at ts names i named
seen_at (None ∷ ts) [] i named = absurd (omega (arith, named))
seen_at (None ∷ ts) (name ∷ names) zero named = refl
seen_at (None ∷ ts) (name ∷ names) (suc i) named = seen_at ts names i (omega (arith, named))

pub missing_before : (ts : Texts) (i : ℕ) → slice_get ts i ≡ Some None → missing (take i ts) < missing ts
missing_before [] i is = absurd (cc)
missing_before (Some t ∷ ts) zero is = absurd (cc)
missing_before (Some t ∷ ts) (suc i) is = missing_before ts i is
missing_before (None ∷ ts) zero is = omega arith
missing_before (None ∷ ts) (suc i) is = omega (arith, missing_before ts i is)

-- ---- of versions

counted_step : (v : Option (Arc Version Global)) (vs : List (Option (Arc Version Global))) → missing (map text_of (v ∷ vs)) ≡ cond (is_none v) (1 + missing (map text_of vs)) (missing (map text_of vs))
counted_step None vs = omega arith
counted_step (Some v) vs = refl

pub missing_counted : (versions : List (Option (Arc Version Global))) → missing (map text_of versions) ≡ count_by is_none versions
missing_counted = is_count_by (λ versions. missing (map text_of versions)) is_none refl counted_step

-- ---- one more version, with its name where there is none

pub more_named : (vs : List (Option (Arc Version Global))) (v : Option (Arc Version Global)) (old new : List (List ℕ)) (name : List ℕ) → AreNamed (map text_of vs) old → new ≡ cond (is_none v) (old ++ name ∷ []) old → AreNamed (map text_of (vs ++ v ∷ [])) new
more_named vs None old new name named is =
    let more : length old + 1 ≡ suc (missing (map text_of vs)) = omega (arith, named) in
    ap length is ∙ length-append old (name ∷ []) ∙ more ∙ sym (missing_name (map text_of vs)) ∙ sym (ap missing (map-append text_of vs (None ∷ [])))
more_named vs (Some v) old new name named is =
    ap length is ∙ named ∙ sym (missing_text (map text_of vs) (filed_text v.value)) ∙ sym (ap missing (map-append text_of vs (Some v ∷ [])))

pub more_seen : (vs : List (Option (Arc Version Global))) (v : Option (Arc Version Global)) (old new : List (List ℕ)) (name : List ℕ) → AreNamed (map text_of vs) old → new ≡ cond (is_none v) (old ++ name ∷ []) old → seen_in (map text_of (vs ++ v ∷ [])) new ≡ seen_in (map text_of vs) old ++ seen_under name (text_of v) ∷ []
more_seen vs None old new name named is =
    (λ i. seen_in (map-append text_of vs (None ∷ []) i) (is i)) ∙ one_more_name (map text_of vs) old name named
more_seen vs (Some v) old new name named is =
    (λ i. seen_in (map-append text_of vs (Some v ∷ []) i) (is i)) ∙ one_more_text (map text_of vs) old (filed_text v.value) named

-- ---- what is read at a place

twice : {A B C : Type 0} (f : B → C) (g : A → B) (o : Option A) → option_map f (option_map g o) ≡ option_map (λ x. f (g x)) o
twice f g None = refl
twice f g (Some x) = refl

module _ (vs : List (Option (Arc Version Global))) (names : List (List ℕ)) (i : ℕ) (named : AreNamed (map text_of vs) names) where
  counted : missing (take i (map text_of vs)) ≡ count_by is_none (take i vs)
  counted = ap missing (take-map text_of i vs) ∙ missing_counted (take i vs)

  texts_at : slice_get (texts_seen vs names) i ≡ option_map (λ v. seen_under (get_or names (count_by is_none (take i vs)) []) (text_of v)) (slice_get vs i)
  texts_at =
      seen_at (map text_of vs) names i named
      ∙ (λ k. option_map (seen_under (get_or names (counted k) [])) (slice_get-map text_of vs i k))
      ∙ twice (seen_under (get_or names (count_by is_none (take i vs)) [])) text_of (slice_get vs i)

  pub read_past : length vs ≤ i → None ≡ slice_get (texts_seen vs names) i
  read_past past = sym (texts_at ∙ ap (option_map (λ v. seen_under (get_or names (count_by is_none (take i vs)) []) (text_of v))) (slice_get_past vs i past))

  pub read_there : (version : Arc Version Global) → i < length vs → Some version ≡ get_or vs i (Some version) → Some (there (filed_text version.value)) ≡ slice_get (texts_seen vs names) i
  read_there version below is =
      sym (texts_at ∙ ap (option_map (λ v. seen_under (get_or names (count_by is_none (take i vs)) []) (text_of v))) (slice_get_read vs (length vs) i (Some version) refl below is))

  pub absent_below : (n : ℕ) → i < length vs → None ≡ get_or vs i None → n ≡ count_by is_none (take i vs) → n < length names
  absent_below n below is n_is =
      let here : slice_get (map text_of vs) i ≡ Some None = slice_get-map text_of vs i ∙ ap (option_map text_of) (slice_get_read vs (length vs) i None refl below is) in
      omega (arith, missing_before (map text_of vs) i here, counted, named, n_is)

  pub read_nothing : (n : ℕ) (name : List ℕ) → i < length vs → None ≡ get_or vs i None → n ≡ count_by is_none (take i vs) → name ≡ get_or names n name → Some (nothing name) ≡ slice_get (texts_seen vs names) i
  read_nothing n name below is n_is name_is =
      let there : slice_get names n ≡ Some name = slice_get_read names (length names) n name refl (absent_below n below is n_is) name_is in
      sym (texts_at ∙ ap (option_map (λ v. seen_under (get_or names (count_by is_none (take i vs)) []) (text_of v))) (slice_get_read vs (length vs) i None refl below is)
      ∙ ap (λ (m : ℕ). Some (nothing (get_or names m []))) (sym n_is) ∙ ap (λ (it : List ℕ). Some (nothing it)) (get_or_from_slice_get names n name [] there))
