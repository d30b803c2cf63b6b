-- One more type in the table of a scope.
use Rattle.std.proofs.Common.{◌≡◌, ℕ, Bool, true, false, cond, ◌||◌, List, [], ◌∷◌, ◌++◌, refl, sym, ap, ◌∙◌, Option, Some, None, map, nat_eq, option_map, is_some}
use Rattle.std.proofs.lemmas.List.Folds.{list_any-append}
use Rattle.std.specs.{Option.{option_or}, Cmp.Lexicographic.{pointwise}}
use Rattle.fb_tree.proofs.Text.OrderLemmas.{same_name}
use Rattle.fb_tree.specs.{Text.declared.name.NameUse.{NameUse}, Tree.{DeclTree, instance_tree}, declared.network.Instance.{Instance}}
use Rattle.fb_tree.specs.declared.network.Role.{Role}
use Rattle.fb_iface.proofs.TableLemmas.{is_it, none}
use Rattle.fb_iface.specs.{ScopeTypes.{kept_of, kept_ports, with_type}, Names.{has_name, is_same}, Scope.{usable}, declared.scope.TypePorts.{TypePorts}}

or-false : (b : Bool) → b || false ≡ b
or-false true = refl
or-false false = refl

has_name-more : (names : List NameUse) (x : NameUse) (q : List ℕ) → has_name (names ++ x ∷ []) q ≡ has_name names q || is_same x.name q
has_name-more names x q = list_any-append (λ (n : NameUse). is_same n.name q) names (x ∷ []) ∙ ap (λ b. has_name names q || b) (or-false (is_same x.name q))

twice : (o : Option TypePorts) → option_or o o ≡ o
twice None = refl
twice (Some kept) = refl

merged : (there new : Bool) (own other : Option DeclTree) → (new ≡ true → own ≡ other) → cond new (option_or (option_map kept_of (cond there own None)) (option_map kept_of other)) (option_map kept_of (cond there own None)) ≡ option_map kept_of (cond (there || new) own None)
merged true true own other same = ap (λ o. option_or (option_map kept_of own) (option_map kept_of o)) (sym (same refl)) ∙ twice (option_map kept_of own)
merged false true own other same = ap (option_map kept_of) (sym (same refl))
merged true false own other same = refl
merged false false own other same = refl

pub with_type-more : (type : List ℕ → Option DeclTree) (names : List NameUse) (x : NameUse) (old : List ℕ → Option TypePorts) (q : List ℕ) → old q ≡ option_map kept_of (cond (has_name names q) (type q) None) → with_type x.name (type x.name) old q ≡ option_map kept_of (cond (has_name (names ++ x ∷ []) q) (type q) None)
with_type-more type names x old q known =
    (λ i. cond (same_name x.name q i) (option_or (known i) (option_map kept_of (type x.name))) (known i))
    ∙ merged (has_name names q) (is_same x.name q) (type q) (type x.name) (λ e. ap type (is_it x.name q e))
    ∙ ap (λ b. option_map kept_of (cond b (type q) None)) (sym (has_name-more names x q))

-- a type that wasn't there yet
pub with_type-new : (name q : List ℕ) (decl : DeclTree) (tree : Option DeclTree) (kept : TypePorts) (old : List ℕ → Option TypePorts) (new : Option TypePorts) → tree ≡ Some decl → kept ≡ kept_of decl → is_some (old name) ≡ false → new ≡ cond (pointwise nat_eq name q) (Some kept) (old q) → new ≡ with_type name tree old q
with_type-new name q decl tree kept old new there is absent put =
    put
    ∙ (λ i. cond (pointwise nat_eq name q) (Some (is i)) (old q))
    ∙ by (pointwise nat_eq name q) (λ e. ap old (is_it name q (sym (same_name name q) ∙ e)) ∙ none (old name) absent)
    ∙ (λ i. cond (pointwise nat_eq name q) (option_or (old q) (option_map kept_of (sym there i))) (old q))
  where
    by : (b : Bool) → (b ≡ true → old q ≡ None) → cond b (Some (kept_of decl)) (old q) ≡ cond b (option_or (old q) (Some (kept_of decl))) (old q)
    by true e = ap (λ o. option_or o (Some (kept_of decl))) (sym (e refl))
    by false e = refl

abbrev pub type_names : List Instance → List NameUse
type_names instances = map (λ i. i.type_name) (map instance_tree instances)

pub type_names-more : (instances : List Instance) (x : Instance) → type_names (instances ++ x ∷ []) ≡ type_names instances ++ x.type_name ∷ []
type_names-more [] x = refl
type_names-more (y ∷ instances) x = ap (λ l. y.type_name ∷ l) (type_names-more instances x)

-- what is kept of a type gives its ports
pub kept_usable : (role : Role) (decl : Option DeclTree) → kept_ports role (option_map kept_of decl) ≡ usable role decl
kept_usable role None = refl
kept_usable role (Some decl) = refl
