-- Blocks none of which stands inside another one.
use Rattle.std.proofs.Common.{ℕ, ◌≡◌, ◌<◌, ◌+◌, ◌==◌, ◌⊎◌, inl, inr, Bool, true, false, cond, List, [], ◌∷◌, ◌++◌, Option, Some, None, refl, sym, ◌∙◌, ap, subst, take, get_or, length, append_assoc}
use Rattle.std.proofs.{lemmas.Bool.Decides.{Decides-eqb}}
use Rattle.std.specs.{Borrow.{Bor}, Option.{IfSome, option_copied, option_or}, Str.{bytes_eq}}
use Rattle.fb_placing.specs.{Cuts.{home_at}, Points.{AreApart, HasNoPoint, IsInside}, declared.homes.Home.{Home}}
use Rattle.fb_network.specs.Prefixes.{IsPrefix, IsNearest, nearest}
use Rattle.fb_placing.proofs.{FirstEntryLemmas.{first_at-push}, InsideLemmas.{nearest_inside}, ListLemmas.{one_more}, TableLemmas.{same_text}}
use Rattle.fb_network.proofs.{PrefixLemmas.{nearest_here}, NearestLemmas.{is_nearest}}

no_point_inside : (outer name : List ℕ) → HasNoPoint (outer ++ 46 ∷ name) → ⊥
no_point_inside [] name none = let point = none.0 in let no : ⊥ = cc in no
no_point_inside (b ∷ bs) name none = no_point_inside bs name none.1

-- a path is parted in one way
same_outer : (a b x y : List ℕ) → HasNoPoint x → HasNoPoint y → a ++ 46 ∷ x ≡ b ++ 46 ∷ y → a ≡ b
same_outer [] [] x y none never e = refl
same_outer [] (b ∷ bs) x y none never e = absurd (no_point_inside bs y (subst HasNoPoint (let same : x ≡ bs ++ 46 ∷ y = cc in same) none))
same_outer (a ∷ cs) [] x y none never e = absurd (no_point_inside cs x (subst HasNoPoint (let same : y ≡ cs ++ 46 ∷ x = cc in same) never))
same_outer (a ∷ cs) (b ∷ bs) x y none never e =
    let head : a ≡ b = cc in
    let tail : cs ++ 46 ∷ x ≡ bs ++ 46 ∷ y = cc in
    λ i. head i ∷ same_outer cs bs x y none never tail i

-- nothing is near the first part of the path
abbrev pub IsClear : {X : Type 0} → (List ℕ → Option X) → List ℕ → Type 0
IsClear at path = (outer name : List ℕ) → HasNoPoint name → path ≡ outer ++ 46 ∷ name → nearest at outer ≡ None

pub clear_name : {X : Type 0} (at : List ℕ → Option X) (path : List ℕ) → HasNoPoint path → IsClear at path
clear_name at path alone outer name none e = absurd (no_point_inside outer name (subst HasNoPoint e alone))

pub clear_parted : {X : Type 0} (at : List ℕ → Option X) (path outer name : List ℕ) → path ≡ outer ++ 46 ∷ name → HasNoPoint name → nearest at outer ≡ None → IsClear at path
clear_parted at path outer name e none nothing other last never f =
    ap (nearest at) (same_outer other outer last name never none (sym f ∙ e)) ∙ nothing

-- each home so far that stands somewhere is clear
abbrev pub AreClear : (List ℕ → Option (List ℕ)) → List Home → Type 0
AreClear at homes = (q x : List ℕ) → home_at homes q ≡ Some x → IsClear at q

pub one_clear : (at : List ℕ → Option (List ℕ)) (homes : List Home) (i : ℕ) (h : Home) → i < length homes → h ≡ get_or homes i h → AreClear at (take i homes) → IsClear at h.path → AreClear at (take (i + 1) homes)
one_clear at homes i h lt e before clear q x there =
    by_before (home_at (take i homes) q) refl (bytes_eq h.path q) refl
    (sym (first_at-push (λ (it : Home). it.path) (λ (it : Home). it.resource) (take i homes) h q) ∙ sym (ap (λ (hs : List Home). home_at hs q) (one_more homes i h lt e)) ∙ there)
  where
    by_before : (o : Option (List ℕ)) → home_at (take i homes) q ≡ o → (b : Bool) → bytes_eq h.path q ≡ b → option_or (home_at (take i homes) q) (cond b (Some h.resource) None) ≡ Some x → IsClear at q
    by_before (Some y) f b same given = before q y f
    by_before None f true same given = subst (IsClear at) (same_text h.path q same) clear
    by_before None f false same given = absurd (let nothing = sym (ap (λ (o : Option (List ℕ)). option_or o None) f) ∙ given in let no : ⊥ = cc in no)

pub all_clear : (at : List ℕ → Option (List ℕ)) (homes : List Home) → at ≡ home_at homes → AreClear at homes → AreApart at
all_clear at homes same clear outer name x none there = clear (outer ++ 46 ∷ name) x (sym (λ i. same i (outer ++ 46 ∷ name)) ∙ there) outer name none refl

-- a text has a last point, or none
record IsLast (text : List ℕ) : Type 0 where
  pub outer : List ℕ
  pub name : List ℕ
  pub parts : text ≡ outer ++ 46 ∷ name
  pub none : HasNoPoint name

last_point : (text : List ℕ) → HasNoPoint text ⊎ IsLast text
last_point [] = inl tt
last_point (b ∷ bs) = by_rest (last_point bs)
  where
    by_test : HasNoPoint bs → (t : Bool) → (b == 46) ≡ t → HasNoPoint (b ∷ bs) ⊎ IsLast (b ∷ bs)
    by_test none true e = inr (record { outer = []; name = bs; parts = ap (λ (c : ℕ). c ∷ bs) ((Decides-eqb b 46).0 e); none = none })
    by_test none false e = inl (e, none)

    by_rest : HasNoPoint bs ⊎ IsLast bs → HasNoPoint (b ∷ bs) ⊎ IsLast (b ∷ bs)
    by_rest (inl none) = by_test none (b == 46) refl
    by_rest (inr l) = inr (record { outer = b ∷ l.outer; name = l.name; parts = ap (λ (cs : List ℕ). b ∷ cs) l.parts; none = l.none })

none_near : {X : Type 0} (at : List ℕ → Option X) (path prefix : List ℕ) → IsPrefix prefix path → nearest at path ≡ None → at prefix ≡ None
none_near at path prefix is nothing = subst (IsNearest at path) nothing (is_nearest at path) prefix is

module _ {X : Type 0} (at : List ℕ → Option X) (block : List ℕ) (x : X) (apart : AreApart at) (there : at block ≡ Some x) where
  -- nothing stands inside a block
  nothing_inside : (rest : List ℕ) → at (block ++ 46 ∷ rest) ≡ None
  nothing_inside rest = by_value (at (block ++ 46 ∷ rest)) refl (last_point rest)
    where
      never : at block ≡ None → ⊥
      never nothing = let given = sym nothing ∙ there in let no : ⊥ = cc in no

      by_value : (o : Option X) → at (block ++ 46 ∷ rest) ≡ o → HasNoPoint rest ⊎ IsLast rest → o ≡ None
      by_value None e l = refl
      by_value (Some y) e (inl none) = absurd (never (none_near at block block (inl refl) (apart block rest y none e)))
      by_value (Some y) e (inr l) =
          let outer = block ++ 46 ∷ l.outer in
          let whole : block ++ 46 ∷ rest ≡ outer ++ 46 ∷ l.name = ap (λ (r : List ℕ). block ++ 46 ∷ r) l.parts ∙ sym (append_assoc block (46 ∷ l.outer) (46 ∷ l.name)) in
          absurd (never (none_near at outer block (inr (l.outer, refl)) (apart outer l.name y l.none (ap at (sym whole) ∙ e))))

  -- the home of what stands in a block
  pub apart_inside : (rest : List ℕ) → nearest at (block ++ 46 ∷ rest) ≡ Some x
  apart_inside rest = nearest_inside at block rest nothing_inside ∙ nearest_here at block x there

pub home_inside : {X : Type 0} (at : List ℕ → Option X) (whole block : List ℕ) (x : X) → AreApart at → IsInside whole block → at block ≡ Some x → nearest at whole ≡ Some x
home_inside at whole block x apart inside there = ap (nearest at) inside.1 ∙ apart_inside at block x apart there inside.0

pub homes_inside : (at : List ℕ → Option (List ℕ)) (whole block : List ℕ) (home : Option (Bor (List ℕ))) → AreApart at → IsInside whole block → option_copied home ≡ at block → IfSome home (λ h. nearest at whole ≡ Some h.now)
homes_inside at whole block None apart inside e = tt
homes_inside at whole block (Some h) apart inside e = home_inside at whole block h.now apart inside (sym e)
