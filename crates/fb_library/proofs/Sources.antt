-- The texts of what is held, as a finite map.
use Rattle.std.proofs.Common.{◌≡◌, ℕ, List, [], ◌∷◌, map, refl, ◌∙◌}
use Rattle.std.specs.{Option.{option_map}, Ordering.{eq_by_cmp}, FinMap.{find, get, get-from_entries}}
use Rattle.fb_parse.specs.Text.Order.{name_cmp}
use Rattle.fb_parse.proofs.Text.Tests.{by_bool}
use Rattle.fb_library.specs.Texts.{Texts, held, text_at, sources_of, text_in}
use Rattle.fb_library.proofs.Names.{name_total}

find_text : (texts : Texts) (n : List ℕ) → find name_cmp n (map (λ e. (e.0, text_in e.1)) texts) ≡ option_map text_in (held texts n)
find_text [] n = refl
find_text (e ∷ texts) n = by_bool (eq_by_cmp name_cmp n e.0) (λ t. rw t) (λ f. rw f (find_text texts n))

-- the map has under a name the text of what is held there
pub get_source : (texts : Texts) (n : List ℕ) → get (sources_of texts) n ≡ text_at texts n
get_source texts n = get-from_entries name_total (map (λ e. (e.0, text_in e.1)) texts) n ∙ find_text texts n
