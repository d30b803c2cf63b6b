-- The keys of units that texts have, kind by kind.
use Rattle.std.proofs.{Common.{◌≡◌, ℕ, Bool, List, [], ◌∷◌, ◌++◌, filter, ap, ◌∙◌, cond, append_assoc, append-nil, sym, refl}, lemmas.List.Elements.{filter-append}}
use Rattle.fb_index.specs.Library.Texts.{Texts}
use Rattle.fb_jobs.specs.{declared.keys.key.Key.{Key}, declared.keys.key.Kind.{Kind}, declared.keys.key.Kind.TheVariants.{Faults, Net, Deploy}, Keys.{has_key}, Kinds.{keys_near_and_far, keys_of_kind}}

-- the keys of one kind that the texts have
abbrev pub present : Texts → Kind → List (List ℕ) → List Key
present texts kind units = filter (has_key texts) (keys_of_kind units kind)

abbrev pub the_key : Kind → List ℕ → Key
the_key kind unit = record { kind = kind; unit = unit }

last_of_kind : (kind : Kind) (units : List (List ℕ)) (unit : List ℕ) → keys_of_kind (units ++ unit ∷ []) kind ≡ keys_of_kind units kind ++ the_key kind unit ∷ []
last_of_kind kind [] unit = refl
last_of_kind kind (u ∷ us) unit = ap (λ keys. the_key kind u ∷ keys) (last_of_kind kind us unit)

module _ (texts : Texts) (kind : Kind) (units now : List (List ℕ)) (unit : List ℕ) where
  -- one unit more, of which it is known whether the texts have the key
  pub present_more : now ≡ units ++ unit ∷ [] → (has : Bool) → has ≡ has_key texts (the_key kind unit) → present texts kind now ≡ present texts kind units ++ cond has (the_key kind unit ∷ []) []
  present_more more has is =
      ap (present texts kind) more
      ∙ ap (filter (has_key texts)) (last_of_kind kind units unit)
      ∙ filter-append (has_key texts) (keys_of_kind units kind) (the_key kind unit ∷ [])
      ∙ ap (λ b. present texts kind units ++ cond b (the_key kind unit ∷ []) []) (sym is)

-- all of them
pub all_present : (texts : Texts) (nears fars : List (List ℕ)) → (present texts Faults nears ++ present texts Net fars) ++ present texts Deploy fars ≡ filter (has_key texts) (keys_near_and_far nears fars)
all_present texts nears fars =
    append_assoc (present texts Faults nears) (present texts Net fars) (present texts Deploy fars)
    ∙ ap (λ keys. present texts Faults nears ++ keys)
    (ap (λ keys. present texts Net fars ++ keys)
    (sym (append-nil (present texts Deploy fars)) ∙ sym (filter-append (has_key texts) (keys_of_kind fars Deploy) []))
    ∙ sym (filter-append (has_key texts) (keys_of_kind fars Net) (keys_of_kind fars Deploy ++ [])))
    ∙ sym (filter-append (has_key texts) (keys_of_kind nears Faults) (keys_of_kind fars Net ++ (keys_of_kind fars Deploy ++ [])))
