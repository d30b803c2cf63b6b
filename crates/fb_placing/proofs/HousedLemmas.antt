-- Where there are as many homes as blocks, each block has one.
use Rattle.std.proofs.Common.{ℕ, suc, ◌≡◌, ◌≤◌, Option, Some, None, List, [], ◌∷◌, cond, length, map, refl, ap, ◌∙◌, arith}
use Rattle.std.specs.{Prelude.{filter, is_none, option_map}, List.{cons_option, filter_map}}
use Rattle.fb_network.specs.{declared.flat.FlatBlock.{FlatBlock}, Prefixes.{nearest}}
use Rattle.fb_placing.specs.{Homes.{all_homes, block_homes, faulty_homes, homeless, unless_faulty}, declared.homes.Home.{Home}}
use Rattle.fb_placing.specs.declared.homes.Misplaced.{Misplaced}

-- no more is given than there are items
no_more : {X Y : Type 0} (h : X → Option Y) (xs : List X) → length (filter_map h xs) ≤ length xs
no_more h [] = omega arith
no_more {Y = Y} h (x ∷ xs) = by_given (h x) (no_more h xs)
  where
    by_given : (o : Option Y) → length (filter_map h xs) ≤ length xs → length (cons_option o (filter_map h xs)) ≤ suc (length xs)
    by_given None few = omega arith
    by_given (Some y) few = omega arith

pub all_housed : (at : List ℕ → Option (List ℕ)) (blocks : List FlatBlock) → length (block_homes at blocks) ≡ length blocks → homeless at blocks ≡ []
all_housed at [] e = refl
all_housed at (b ∷ bs) e = by_home (nearest at b.path) (no_more (λ (x : FlatBlock). option_map (λ r. (let h : Home = record { path = x.path; resource = r } in h)) (nearest at x.path)) bs) (all_housed at bs) e
  where
    rest : List FlatBlock
    rest = filter (λ (x : FlatBlock). is_none (nearest at x.path)) bs

    by_home : (o : Option (List ℕ)) → length (block_homes at bs) ≤ length bs → (length (block_homes at bs) ≡ length bs → homeless at bs ≡ []) → length (cons_option (option_map (λ r. (let h : Home = record { path = b.path; resource = r } in h)) o) (block_homes at bs)) ≡ suc (length bs) → map (λ (x : FlatBlock). x.path) (cond (is_none o) (b ∷ rest) rest) ≡ []
    by_home (Some r) few more e = more (omega (arith, e))
    by_home None few more e = absurd (omega (arith, few, e))

-- something is misplaced
pub some_found : (found ms : List Misplaced) (homes : List Home) → found ≡ ms → (length found ≡ 0 → ⊥) → faulty_homes found ≡ unless_faulty ms homes
some_found [] ms homes e some = absurd (some refl)
some_found (m ∷ found) ms homes e some = ap (λ (l : List Misplaced). unless_faulty l homes) e

-- nothing is
pub none_found : (found ms : List Misplaced) (list homes : List Home) → found ≡ ms → length found ≡ 0 → list ≡ homes → all_homes list ≡ unless_faulty ms homes
none_found [] ms list homes e none same = ap all_homes same ∙ ap (λ (l : List Misplaced). unless_faulty l homes) e
none_found (m ∷ found) ms list homes e none same = absurd (omega (arith, none))
