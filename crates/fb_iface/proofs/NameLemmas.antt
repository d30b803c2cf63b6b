-- Names that stand in a list.
use Rattle.std.proofs.{Common.{◌≡◌, ◌≢◌, ℕ, Bool, true, false, ◌||◌, List, [], ◌∷◌, refl, sym, ap, ◌∙◌, true≢false, ◌⊎◌, inl, inr}, Math.Bool.{or-true}}
use Rattle.std.specs.{Cmp.Lexicographic.{bytes_decides, same_text}, List.{Contains}}
use Rattle.fb_tree.specs.Text.declared.name.NameUse.{NameUse}
use Rattle.fb_tree.proofs.{Text.OrderLemmas.{same_name}, Text.Members.{contains_cases, contains_here, contains_later, contains_nothing}}
use Rattle.fb_iface.specs.Names.{has_name, is_same}

pub same_exact : (a b : List ℕ) → is_same a b ≡ true → a ≡ b
same_exact a b e = same_text a b (sym (same_name a b ∙ e))

pub same_itself : (a b : List ℕ) → a ≡ b → is_same a b ≡ true
same_itself a b e = sym (same_name a b) ∙ (bytes_decides a b).1 e

pub named : (names : List NameUse) (q : List ℕ) (n : NameUse) → Contains names n → n.name ≡ q → has_name names q ≡ true
named [] q n c e = absurd (contains_nothing n c)
named (x ∷ xs) q n c e = by (contains_cases x xs n c) (λ d. named xs q n d e)
  where
    by : (x ≡ n) ⊎ Contains xs n → (Contains xs n → has_name xs q ≡ true) → (is_same x.name q || has_name xs q) ≡ true
    by (inl s) more = ap (λ b. b || has_name xs q) (same_itself x.name q (ap (λ (m : NameUse). m.name) s ∙ e))
    by (inr d) more = ap (λ b. is_same x.name q || b) (more d) ∙ or-true (is_same x.name q)

-- where a name is not among these, none of them is the name
pub not_named : (names : List NameUse) (q : List ℕ) → has_name names q ≡ false → (n : NameUse) → Contains names n → n.name ≢ q
not_named names q e n c s = true≢false (sym (named names q n c s) ∙ e)

-- and where none of them is the name, it is not among these
pub none_named : (names : List NameUse) (q : List ℕ) → ((n : NameUse) → Contains names n → n.name ≢ q) → has_name names q ≡ false
none_named [] q fails = refl
none_named (x ∷ xs) q fails = by (is_same x.name q) refl (none_named xs q (λ n c. fails n (contains_later x xs n c)))
  where
    by : (b : Bool) → is_same x.name q ≡ b → has_name xs q ≡ false → (b || has_name xs q) ≡ false
    by true e h = absurd (fails x (contains_here x xs) (same_exact x.name q e))
    by false e h = h
