-- The homes of blocks, and of the ends of links.
use Rattle.fb_laws.proofs.Common.{ℕ, ◌≡◌, ◌<◌, true, List, [], ◌∷◌, Option, Some, None, refl, sym, ◌∙◌, ap, subst, take, length, map, arith, option_map, find, cons_option, bytes_eq, take-append_seam, take_all, dec_lt, contains_cases, contains_nothing, is_nearest, NameUse, stands_for, same_exact, same_itself, Sources, tree_at, FlatBlock, home_at, first_at, IsPrefix, IsNearest, nearest, block_homes, mappings_in, resource_at, Home, StandsOn, Contains, block_home, passes_in_find, cases_order, inl, inr}
use Rattle.fb_laws.proofs.Lists.{by_option, given}
use Rattle.std.proofs.lemmas.Slice.Eq.{bytes_eq-Decides}
pub use Rattle.fb_placing.proofs.TableLemmas.{same_text as same_bytes}

-- ---- what is nearest is one only

pub bytes_same : (a b : List ℕ) → a ≡ b → bytes_eq a b ≡ true
bytes_same a b e = (bytes_eq-Decides a b).1 e

-- the item that is found under a text
pub record IsFound {X Y : Type 0} (key : X → List ℕ) (value : X → Y) (xs : List X) (name : List ℕ) (y : Y) : Type 0 where
  pub item : X
  pub among : Contains xs item
  pub named : key item ≡ name
  pub gives : value item ≡ y

pub found_in : {X Y : Type 0} (key : X → List ℕ) (value : X → Y) (xs : List X) (name : List ℕ) (y : Y) → first_at key value xs name ≡ Some y → IsFound key value xs name y
found_in key value xs name y e = grind (arith, by_option, find, bytes_eq, passes_in_find, same_bytes)

-- the same as what names mean
pub same_found : {X Y : Type 0} (key : X → NameUse) (value : X → Y) (xs : List X) (name : List ℕ) → first_at (λ (x : X). (key x).name) value xs name ≡ stands_for (map (λ (x : X). ((key x).name, value x)) xs) name
same_found key value [] name = refl
same_found {X = X} {Y = Y} key value (z ∷ xs) name = grind (arith, bytes_eq, option_map, find, same_itself, same_bytes, bytes_same, same_exact, same_found key value xs name)

prefix_begins : (prefix path : List ℕ) → IsPrefix prefix path → take (length prefix) path ≡ prefix
prefix_begins prefix path is = grind (arith, take_all, take-append_seam)

pub one_prefix : (a b path : List ℕ) → IsPrefix a path → IsPrefix b path → length a ≡ length b → a ≡ b
one_prefix a b path p q e = sym (prefix_begins a path p) ∙ ap (λ (n : ℕ). take n path) e ∙ prefix_begins b path q

pub one_nearest : {X : Type 0} (at : List ℕ → Option X) (path : List ℕ) (a b : Option X) → IsNearest at path a → IsNearest at path b → a ≡ b
one_nearest at path None None p q = refl
one_nearest at path None (Some y) p (g, prefix, has, longer) = absurd (let no = p g prefix in let yes = has in cc)
one_nearest at path (Some x) None (f, prefix, has, longer) q = absurd (let no = q f prefix in let yes = has in cc)
one_nearest {X = X} at path (Some x) (Some y) (f, prefix, has, longer) (g, prefix2, has2, longer2) =
    elim (cases_order (length f) (length g)) [
      | inl even ↦ sym has ∙ ap at (one_prefix f g path prefix prefix2 even) ∙ has2
      | inr (inl below) ↦ absurd (let no = longer g prefix2 below in let yes = has2 in cc)
      | inr (inr below) ↦ absurd (let no = longer2 f prefix below in let yes = has in cc)
    ]

pub nearest_of : {X : Type 0} (at : List ℕ → Option X) (path : List ℕ) (x : X) → IsNearest at path (Some x) → nearest at path ≡ Some x
nearest_of at path x p = one_nearest at path (nearest at path) (Some x) (is_nearest at path) p

pub of_nearest : {X : Type 0} (at : List ℕ → Option X) (path : List ℕ) (x : X) → nearest at path ≡ Some x → IsNearest at path (Some x)
of_nearest at path x e = subst (λ o. IsNearest at path o) e (is_nearest at path)

-- ---- homes of blocks

module _ (resources : List ℕ → Option (List ℕ)) where
  -- the home of a block of the list
  pub home_listed : (blocks : List FlatBlock) (b : FlatBlock) (r : List ℕ) → Contains blocks b → nearest resources b.path ≡ Some r → home_at (block_homes resources blocks) b.path ≡ Some r
  home_listed [] b r c e = absurd (contains_nothing b c)
  home_listed (z ∷ zs) b r c e = grind (arith, contains_cases, bytes_eq, option_map, find, same_bytes, cons_option, bytes_same, home_listed zs b r)

  -- a block with that home
  pub record IsHomed (blocks : List FlatBlock) (path r : List ℕ) : Type 0 where
    pub block : FlatBlock
    pub listed : Contains blocks block
    pub placed : block.path ≡ path
    pub home : nearest resources path ≡ Some r

  -- the block of a home
  pub of_home : (blocks : List FlatBlock) (home : Home) → Contains (block_homes resources blocks) home → IsHomed blocks home.path home.resource
  of_home blocks home c = let o = given (block_home resources) blocks home c in by o.origin o.among (nearest resources o.origin.path) refl o.gives
    where
      by : (b : FlatBlock) → Contains blocks b → (o : Option (List ℕ)) → nearest resources b.path ≡ o → option_map (λ (q : List ℕ). (let h : Home = record { path = b.path; resource = q } in h)) o ≡ Some home → IsHomed blocks home.path home.resource
      by b among o e g = grind arith

  pub homed : (blocks : List FlatBlock) (path r : List ℕ) → home_at (block_homes resources blocks) path ≡ Some r → IsHomed blocks path r
  homed blocks path r e =
      let f = found_in (λ (h : Home). h.path) (λ (h : Home). h.resource) (block_homes resources blocks) path r e in
      grind (arith, of_home)

  -- a block has a home
  pub record HasHome (b : FlatBlock) : Type 0 where
    pub on_resource : List ℕ
    pub home : nearest resources b.path ≡ Some on_resource

-- ---- homes of ends

-- the resources that a system maps to
abbrev pub mapped : Sources → List ℕ → List ℕ → Option (List ℕ)
mapped sources system = resource_at (mappings_in (tree_at sources system))

module _ (sources : Sources) (system : List ℕ) (blocks : List FlatBlock) (all : (b : FlatBlock) → Contains blocks b → HasHome (mapped sources system) b) where
  abbrev homes : List ℕ → Option (List ℕ)
  homes = home_at (block_homes (mapped sources system) blocks)

  nothing_at : (b : FlatBlock) → Contains blocks b → homes b.path ≡ None → ⊥
  nothing_at b c none = let h = all b c in let there = home_listed (mapped sources system) blocks b h.on_resource c h.home in cc

  made : (prefix end r : List ℕ) → IsPrefix prefix end → ((other : List ℕ) → IsPrefix other end → length prefix < length other → homes other ≡ None) → IsHomed (mapped sources system) blocks prefix r → StandsOn sources system blocks end r
  made prefix end r is longer o = grind (arith, dec_lt, nothing_at, of_nearest)

  pub end_home : (end r : List ℕ) → nearest homes end ≡ Some r → StandsOn sources system blocks end r
  end_home end r e = let n = of_nearest homes end r e in made n.0 end r n.1 n.3 (homed (mapped sources system) blocks n.0 r n.2)

  pub home_end : (end r : List ℕ) → StandsOn sources system blocks end r → nearest homes end ≡ Some r
  home_end end r o =
      nearest_of homes end r (
        o.block.path,
        o.is_at.prefix,
        home_listed (mapped sources system) blocks o.block r o.is_at.listed (nearest_of (mapped sources system) o.block.path r o.home),
        λ other prefix longer. by_option (homes other) (λ none. none) (λ q e.
            let w = homed (mapped sources system) blocks other q e in
            let short = o.is_at.longest w.block w.listed (subst (λ (p : List ℕ). IsPrefix p end) (sym w.placed) prefix) in
            absurd (omega (arith, short, longer, ap length w.placed))),
      )

  -- some block is before the end
  pub some_home : (end : List ℕ) (b : FlatBlock) → Contains blocks b → IsPrefix b.path end → (r : List ℕ) × StandsOn sources system blocks end r
  some_home end b c prefix =
      by_option (nearest homes end) (λ none. absurd (nothing_at b c (subst (λ (o : Option (List ℕ)). IsNearest homes end o) none (is_nearest homes end) b.path prefix))) (λ r e. (r, end_home end r e))
