-- Parts that are written among tokens, values that keep the places of the tokens that spell them, and forms whose parts are written.
use Rattle.fb_laws.proofs.Common.{arith, ℕ, List, [], ◌∷◌, ◌++◌, sym, ap, ◌∙◌, append_assoc, AllByRecursion, Span, Lexeme, Part, part_span, BeginsAt, EndsAt, SpellsPart, IsWritten, append-nil, ◌≡◌, inl, inr, Option, Some, None, refl, subst, Form, one, both, either, option, as_value, Spells, SpellsOption, across, behind, name, Kind, map, flat_map, NameUse, many, SpellsEach, key, before, optional_list, cons, separated, names, is_among, name_kinds, name_use, name_part, mark_part, name_parts, option_parts, mark, true, flat_map-append}
use Rattle.fb_deploy.proofs.Library.OnShelves.{each}
use Rattle.fb_sections.specs.Sections.{section, optional_name}
use Rattle.std.proofs.lemmas.List.Concat.{flat_map_single}

-- Where tokens begin and end

pub begins_more : (us vs : List Lexeme) (place : ℕ) → BeginsAt us place → BeginsAt (us ++ vs) place
begins_more us vs place h = grind arith

pub ends_more : (us vs : List Lexeme) (place : ℕ) → EndsAt vs place → EndsAt (us ++ vs) place
ends_more [] vs place h = h
ends_more (u ∷ us) vs place h = let later = ends_more us vs place h in grind arith

-- the tokens begin with the span, and end with it
pub record Fills (us : List Lexeme) (span : Span) : Type 0 where
  pub begins : BeginsAt us span.start
  pub ends : EndsAt us span.end

-- Parts

-- the tokens are those of the part
pub written_whole : (us : List Lexeme) (p : Part) → Fills us (part_span p) → SpellsPart us p → IsWritten us p
written_whole us p fills spells = record { before = []; inside = us; behind = []; parts = sym (append-nil us); begins = fills.begins; ends = fills.ends; spells = spells }

written_right : (us vs : List Lexeme) (p : Part) → IsWritten vs p → IsWritten (us ++ vs) p
written_right us vs p h = let parts = ap (λ (z : List Lexeme). us ++ z) h.parts ∙ sym (append_assoc us h.before (h.inside ++ h.behind)) in search

-- What holds of each item of a list

abbrev pub Each : {A : Type 0} → (A → Type 0) → List A → Type 0
Each P ps = AllByRecursion P ps

pub each_append : {A : Type 0} (P : A → Type 0) (ps qs : List A) → Each P ps → Each P qs → Each P (ps ++ qs)
each_append P [] qs h k = k
each_append P (p ∷ ps) qs h k = (h.0, each_append P ps qs h.1 k)

pub each_prefix : {A : Type 0} (P : A → Type 0) (ps qs : List A) → Each P (ps ++ qs) → Each P ps
each_prefix P [] qs h = tt
each_prefix P (p ∷ ps) qs h = (h.0, each_prefix P ps qs h.1)

pub each_rest : {A : Type 0} (P : A → Type 0) (ps qs : List A) → Each P (ps ++ qs) → Each P qs
each_rest P [] qs h = h
each_rest P (p ∷ ps) qs h = each_rest P ps qs h.1

pub each_left : (us vs : List Lexeme) (ps : List Part) → Each (IsWritten us) ps → Each (IsWritten (us ++ vs)) ps
each_left us vs ps h = each (IsWritten us) (IsWritten (us ++ vs)) (grind (arith, append_assoc)) ps h

pub each_right : (us vs : List Lexeme) (ps : List Part) → Each (IsWritten vs) ps → Each (IsWritten (us ++ vs)) ps
each_right us vs ps h = each (IsWritten vs) (IsWritten (us ++ vs)) (written_right us vs) ps h

-- the tokens that spell a value begin and end at its place
pub record Filled {A : Type 0} (x : Form A) (span : A → Span) : Type 0 where
  pub fills : (us : List Lexeme) (v : A) → Spells x us v → Fills us (span v)

pub filled_as : {A B : Type 0} (f : A → B) (x : Form A) (span : B → Span) → Filled x (λ v. span (f v)) → Filled (as_value f x) span
filled_as {B = B} f x span h = record { fills = λ us v s. subst (λ (z : B). Fills us (span z)) (sym s.2) (h.fills us s.0 s.1) }

pub filled_either : {A : Type 0} (x y : Form A) (span : A → Span) → Filled x span → Filled y span → Filled (either x y) span
filled_either x y span h k = record { fills = λ us v s. elim s [ inl p ↦ h.fills us v p | inr p ↦ k.fills us v p ] }

pub filled_token : (kinds : List Kind) → Filled (one kinds) (λ l. l.span)
filled_token kinds = record { fills = λ us l s. (subst (λ (z : List Lexeme). Fills z l.span) (sym s.0) (record { begins = refl; ends = refl })) }

pub filled_name : Filled name (λ n. n.span)
unfolding name
filled_name = filled_as _ _ (λ n. n.span) (filled_token _)

-- the tokens that spell a value end where its span ends
pub record Ends {A : Type 0} (x : Form A) (span : A → Span) : Type 0 where
  pub ends : (us : List Lexeme) (v : A) → Spells x us v → EndsAt us (span v).end

pub ends_filled : {A : Type 0} (x : Form A) (span : A → Span) → Filled x span → Ends x span
ends_filled x span h = record { ends = λ us v s. (h.fills us v s).ends }

pub ends_second : {A B : Type 0} (x : Form A) (y : Form B) (span : B → Span) → Ends y span → Ends (both x y) (λ v. span v.1)
ends_second x y span h = record { ends = λ us v s. subst (λ (z : List Lexeme). EndsAt z (span v.1).end) (sym s.2) (ends_more s.0 s.1 (span v.1).end (h.ends s.1 v.1 s.4)) }

pub ends_behind : {A B : Type 0} (x : Form A) (y : Form B) (span : B → Span) → Ends y span → Ends (behind x y) span
ends_behind {B = B} x y span h = record { ends = λ us v s. subst (λ (z : B). EndsAt us (span z).end) (sym s.2) ((ends_second x y span h).ends us s.0 s.1) }

-- x y, from where x begins to where y ends
fills_both : (us prefix rest : List Lexeme) (s : Span) → us ≡ prefix ++ rest → BeginsAt prefix s.start → EndsAt rest s.end → Fills us s
fills_both us prefix rest s e begins ends = subst (λ (z : List Lexeme). Fills z s) (sym e) (record { begins = begins_more prefix rest s.start begins; ends = ends_more prefix rest s.end ends })

pub filled_across : {A B : Type 0} (x : Form A) (y : Form B) (f : A → Span) (g : B → Span) → Filled x f → Ends y g → Filled (both x y) (λ v. across (f v.0) (g v.1))
filled_across x y f g h k = record { fills = λ us v s. fills_both us s.0 s.1 (across (f v.0) (g v.1)) s.2 (h.fills s.0 v.0 s.3).begins (k.ends s.1 v.1 s.4) }

-- x [y], through y if y is written
module _ {A B : Type 0} (x : Form A) (y : Form B) (f : A → Span) (g : B → Span) (span : A × Option B → Span) (alone : (a : A) → span (a, None) ≡ f a) (more : (a : A) (b : B) → span (a, Some b) ≡ across (f a) (g b)) where
  fills_more : Filled x f → Ends y g → (us prefix rest : List Lexeme) (a : A) (b : Option B) → us ≡ prefix ++ rest → Spells x prefix a → SpellsOption (Spells y) rest b → Fills us (span (a, b))
  fills_more h k us prefix rest a None e s none = grind (arith, append-nil)
  fills_more h k us prefix rest a (Some b) e s t = subst (Fills us) (sym (more a b)) (fills_both us prefix rest (across (f a) (g b)) e (h.fills prefix a s).begins (k.ends rest b t))

  pub filled_more : Filled x f → Ends y g → Filled (both x (option y)) span
  filled_more h k = record { fills = λ us v s. fills_more h k us s.0 s.1 v.0 v.1 s.2 s.3 s.4 }

-- [x] y, from x if x is written
module _ {A B : Type 0} (x : Form A) (y : Form B) (f : A → Span) (g : B → Span) (span : Option A × B → Span) (alone : (b : B) → span (None, b) ≡ g b) (more : (a : A) (b : B) → span (Some a, b) ≡ across (f a) (g b)) where
  fills_from : Filled x f → Filled y g → (us prefix rest : List Lexeme) (a : Option A) (b : B) → us ≡ prefix ++ rest → SpellsOption (Spells x) prefix a → Spells y rest b → Fills us (span (a, b))
  fills_from h k us prefix rest None b e none t = grind arith
  fills_from h k us prefix rest (Some a) b e s t = subst (Fills us) (sym (more a b)) (fills_both us prefix rest (across (f a) (g b)) e (h.fills prefix a s).begins (k.fills rest b t).ends)

  pub filled_from : Filled x f → Filled y g → Filled (both (option x) y) span
  filled_from h k = record { fills = λ us v s. fills_from h k us s.0 s.1 v.0 v.1 s.2 s.3 s.4 }

pub record Sound {A : Type 0} (x : Form A) (parts : A → List Part) : Type 0 where
  pub stands : (us : List Lexeme) (v : A) → Spells x us v → Each (IsWritten us) (parts v)

pub sound_nothing : {A : Type 0} (x : Form A) → Sound x (λ _. [])
sound_nothing x = record { stands = λ us v s. tt }

-- x y, by what is so of parts in two parts
pub sound_parts : {A B : Type 0} (x : Form A) (y : Form B) (f : A → List Part) (g : B → List Part) (p : A × B → List Part)
    → ((us vs : List Lexeme) (v : A × B) → Each (IsWritten us) (f v.0) → Each (IsWritten vs) (g v.1) → Each (IsWritten (us ++ vs)) (p v))
    → Sound x f → Sound y g → Sound (both x y) p
sound_parts x y f g p joined h k = record {
  stands = λ us v s.
      subst (λ (z : List Lexeme). Each (IsWritten z) (p v)) (sym s.2)
      (joined s.0 s.1 v (h.stands s.0 v.0 s.3) (k.stands s.1 v.1 s.4));
}

pub sound_both : {A B : Type 0} (x : Form A) (y : Form B) (f : A → List Part) (g : B → List Part) → Sound x f → Sound y g → Sound (both x y) (λ v. f v.0 ++ g v.1)
sound_both {A} {B} x y f g h k = grind (arith, each_append, each_left, each_right)

pub sound_first : {A B : Type 0} (x : Form A) (y : Form B) (f : A → List Part) → Sound x f → Sound (both x y) (λ v. f v.0)
sound_first x y f h = sound_parts x y f (λ _. []) (λ v. f v.0) (λ us vs v a b. each_left us vs (f v.0) a) h (sound_nothing y)

pub sound_second : {A B : Type 0} (x : Form A) (y : Form B) (g : B → List Part) → Sound y g → Sound (both x y) (λ v. g v.1)
sound_second x y g k = sound_parts x y (λ _. []) g (λ v. g v.1) (λ us vs v a b. each_right us vs (g v.1) b) (sound_nothing x) k

pub sound_as : {A B : Type 0} (f : A → B) (x : Form A) (p : B → List Part) → Sound x (λ v. p (f v)) → Sound (as_value f x) p
sound_as {B = B} f x p h = record { stands = λ us v s. subst (λ (z : B). Each (IsWritten us) (p z)) (sym s.2) (h.stands us s.0 s.1) }

pub sound_either : {A : Type 0} (x y : Form A) (p : A → List Part) → Sound x p → Sound y p → Sound (either x y) p
sound_either x y p h k = record { stands = λ us v s. elim s [ inl q ↦ h.stands us v q | inr q ↦ k.stands us v q ] }

pub sound_option : {A : Type 0} (x : Form A) (f : A → List Part) → Sound x f → Sound (option x) (option_parts f)
sound_option {A} x f h = grind arith

stands_each : {A : Type 0} (x : Form A) (f : A → List Part) → Sound x f → (us : List Lexeme) (vs : List A) → SpellsEach (Spells x) us vs → Each (IsWritten us) (flat_map f vs)
stands_each x f h us [] s = tt
stands_each x f h us (v ∷ vs) s = grind (arith, each_append, each_left, each_right, stands_each x f h s.1 vs s.4)

pub sound_many : {A : Type 0} (x : Form A) (f : A → List Part) → Sound x f → Sound (many x) (flat_map f)
sound_many x f h = record { stands = stands_each x f h }

-- the parts are others, at the places of those
pub sound_same : {A : Type 0} (x : Form A) (f g : A → List Part) → ((P : Part → Type 0) (v : A) → Each P (f v) → Each P (g v)) → Sound x f → Sound x g
sound_same x f g same h = record { stands = λ us v s. same (IsWritten us) v (h.stands us v s) }

-- Words

pub sound_behind : {A B : Type 0} (x : Form A) (y : Form B) (p : B → List Part) → Sound y p → Sound (behind x y) p
sound_behind x y p h = sound_as (λ v. v.1) (both x y) p (sound_second x y p h)

pub sound_before : {A B : Type 0} (x : Form A) (y : Form B) (p : A → List Part) → Sound x p → Sound (before x y) p
sound_before x y p h = sound_as (λ v. v.0) (both x y) p (sound_first x y p h)

pub sound_optional_list : {A : Type 0} (x : Form (List A)) (f : A → List Part) → Sound x (flat_map f) → Sound (optional_list x) (flat_map f)
sound_optional_list {A} x f h = grind arith

pub sound_separated : {A : Type 0} (kind : Kind) (x : Form A) (f : A → List Part) → Sound x f → Sound (separated kind x) (flat_map f)
sound_separated kind x f h =
    sound_as cons (both x (many (behind (key kind) x))) (flat_map f)
    (sound_both x (many (behind (key kind) x)) f (flat_map f) h (sound_many (behind (key kind) x) f (sound_behind (key kind) x f h)))

pub sound_section : {A : Type 0} (start : Kind) (x : Form A) (end : Kind) (f : A → List Part) → Sound x f → Sound (section start x end) (flat_map f)
sound_section start x end f h = sound_behind (key start) (before (many x) (key end)) (flat_map f) (sound_before (many x) (key end) (flat_map f) (sound_many x f h))

-- Parts of their own

-- a value that is a part itself, besides those in it
pub sound_own : {A : Type 0} (x : Form A) (part : A → Part) (parts : A → List Part)
    → ((us : List Lexeme) (v : A) → Spells x us v → SpellsPart us (part v)) → Filled x (λ v. part_span (part v)) → Sound x parts → Sound x (λ v. part v ∷ parts v)
sound_own x part parts spells filled h = record { stands = λ us v s. (written_whole us (part v) (filled.fills us v s) (spells us v s), h.stands us v s) }

pub sound_mark : (kind : Kind) → Sound (key kind) (λ l. mark_part kind l.span ∷ [])
unfolding mark
sound_mark kind = sound_own (key kind) (λ l. mark_part kind l.span) (λ _. []) (λ us l s. (l, s, refl)) (filled_token _) (sound_nothing _)

pub sound_name : Sound name name_parts
sound_name = sound_own name name_part (λ _. []) (λ us n s. s) filled_name (sound_nothing name)

-- a token of some of the kinds of names
pub sound_name_of : (kinds : List Kind) → ((k : Kind) → is_among kinds k ≡ true → is_among name_kinds k ≡ true) → Sound (as_value name_use (one kinds)) name_parts
unfolding name
sound_name_of kinds within =
    sound_own (as_value name_use (one kinds)) name_part (λ _. []) (λ us n s. (s.0, (s.1.0, within s.0.kind s.1.1), s.2)) (filled_as name_use _ (λ n. n.span) (filled_token _)) (sound_nothing _)

-- parts of names that are written one after the other
pub sound_named : (x : Form (List NameUse)) → Sound x (flat_map name_parts) → Sound x (map name_part)
sound_named x h = subst (Sound x) (λ i ns. flat_map_single name_part ns i) h

pub sound_names : Sound names (flat_map name_parts)
unfolding names
sound_names = sound_separated _ name name_parts sound_name

pub sound_optional_name : (kind : Kind) → Sound (optional_name kind) (option_parts name_parts)
unfolding optional_name
sound_optional_name kind = sound_option (behind (key kind) name) name_parts (sound_behind (key kind) name name_parts sound_name)

-- the parts of the items of two lists
pub each_items : {A : Type 0} (P : Part → Type 0) (f : A → List Part) (xs ys : List A) → Each P (flat_map f xs) → Each P (flat_map f ys) → Each P (flat_map f (xs ++ ys))
each_items P f xs ys h k = subst (Each P) (sym (flat_map-append f xs ys)) (each_append P (flat_map f xs) (flat_map f ys) h k)
