-- One item further in lists of commands and of resources.
use Rattle.std.proofs.Common.{ℕ, ◌≡◌, ◌<◌, ◌+◌, List, [], ◌∷◌, ◌++◌, sym, ◌∙◌, ap, take, get_or, length, map, append_assoc, append-nil}
use Rattle.std.proofs.lemmas.Grind.{flat_map-append}
use Rattle.fb_tree.specs.{Tree.{device_tree}, declared.system.Device.{Device}}
use Rattle.fb_placing.proofs.ListLemmas.{map-push, one_more}
use Rattle.fb_placing.specs.Resources.{device_resources, resources_of}

-- of what is added list by list
pub step_added : {X Y : Type 0} (of : List X → List Y) → ((xs ys : List X) → of (xs ++ ys) ≡ of xs ++ of ys) → (xs : List X) (i : ℕ) (x : X) (base before after : List Y) → i < length xs → x ≡ get_or xs i x → before ≡ base ++ of (take i xs) → after ≡ before ++ of (x ∷ []) → after ≡ base ++ of (take (i + 1) xs)
step_added {X = X} {Y = Y} of appended xs i x base before after lt e is adds =
    let prefix = take i xs in
    adds ∙ ap (λ (l : List Y). l ++ of (x ∷ [])) is ∙ append_assoc base (of prefix) (of (x ∷ []))
    ∙ ap (λ (l : List Y). base ++ l) (sym (appended prefix (x ∷ [])))
    ∙ ap (λ (l : List X). base ++ of l) (sym (one_more xs i x lt e))

pub resources_step : (devices : List Device) (i : ℕ) (x : Device) → i < length devices → x ≡ get_or devices i x → resources_of (map device_tree (take i devices)) ++ device_resources (device_tree x) ≡ resources_of (map device_tree (take (i + 1) devices))
resources_step devices i x lt e =
    let prefix = map device_tree (take i devices) in
    sym (ap (λ (l : List Device). resources_of (map device_tree l)) (one_more devices i x lt e)
    ∙ ap resources_of (map-push device_tree (take i devices) x)
    ∙ flat_map-append device_resources prefix (device_tree x ∷ [])
    ∙ ap (λ (l : List (List ℕ)). resources_of prefix ++ l) (append-nil (device_resources (device_tree x))))
