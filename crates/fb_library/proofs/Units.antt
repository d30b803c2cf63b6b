-- A library's units, seen as texts.
use Rattle.std.proofs.Common.{◌≡◌, ℕ, Bool, List, [], ◌∷◌, map, refl, sym, ap, ◌∙◌, Some}
use Rattle.std.proofs.{lemmas.Option.{same_Some}, lemmas.Simd.{map-map}}
use Rattle.std.specs.{Option.{option_map}, Map.{lookup, remove_entry}, BTreeMap.{is_at, insert_entry}}
use Rattle.fb_parse.specs.Text.Order.{name_cmp}
use Rattle.fb_parse.proofs.{Text.OrderLemmas.{is_equal}, Text.Tests.{by_bool}}
use Rattle.fb_library.specs.{Texts.{FiledText, Held, held, names_of}, Filed.{texts_of, AreOwn}}
use Rattle.fb_library.proofs.Names.{exact_name, by_order}

abbrev Units : Type 0
Units = List (List ℕ × FiledText)

abbrev pub held_in : FiledText → Held
held_in it = it.held

pub units_named : (es : Units) → names_of (texts_of es) ≡ map (λ e. e.0) es
units_named es = map-map _ _ es

-- ---- looking up

pub held_there : (es : Units) (n : List ℕ) → held (texts_of es) n ≡ option_map held_in (lookup (is_at (name_cmp n)) es)
held_there [] n = refl
held_there (e ∷ es) n = by_bool (is_at (name_cmp n) e.0) (λ t. rw t) (λ f. rw f (held_there es n))

pub own_there : (es : Units) (n : List ℕ) (it : FiledText) → AreOwn es → lookup (is_at (name_cmp n)) es ≡ Some it → it.unit ≡ n
own_there [] n it own is = absurd (cc)
own_there (e ∷ es) n it own is =
    by_bool (is_at (name_cmp n) e.0)
    (λ t. ap (λ (f : FiledText). f.unit) (sym (same_Some e.1 it (rw t at is))) ∙ own.0 ∙ sym (exact_name n e.0 (is_equal (name_cmp n e.0) t)))
    (λ f. own_there es n it own.1 (rw f at is))

-- ---- edits

pub texts_put : (es : Units) (n : List ℕ) (it : FiledText) → texts_of (insert_entry name_cmp es n it) ≡ insert_entry name_cmp (texts_of es) n (held_in it)
texts_put [] n it = refl
texts_put (e ∷ es) n it = by_order (name_cmp n e.0) (λ l. rw l) (λ q. rw q) (λ g. rw g (ap (λ l. (e.0, held_in e.1) ∷ l) (texts_put es n it)))

pub own_put : (es : Units) (n : List ℕ) (it : FiledText) → it.unit ≡ n → AreOwn es → AreOwn (insert_entry name_cmp es n it)
own_put [] n it is own = (is, tt)
own_put (e ∷ es) n it is own =
    by_order (name_cmp n e.0) (λ l. rw l (is, own)) (λ q. rw q (is ∙ exact_name n e.0 q, own.1)) (λ g. rw g (own.0, own_put es n it is own.1))

pub texts_removed : (test : List ℕ → Bool) (es : Units) → texts_of (remove_entry test es) ≡ remove_entry test (texts_of es)
texts_removed test [] = refl
texts_removed test (e ∷ es) = by_bool (test e.0) (λ t. rw t) (λ f. rw f (ap (λ l. (e.0, held_in e.1) ∷ l) (texts_removed test es)))

pub own_removed : (test : List ℕ → Bool) (es : Units) → AreOwn es → AreOwn (remove_entry test es)
own_removed test [] own = tt
own_removed test (e ∷ es) own = by_bool (test e.0) (λ t. rw t own.1) (λ f. rw f (own.0, own_removed test es own.1))
