-- The parts of a reference joined, one after the other.
use Rattle.std.proofs.{Common.{◌≡◌, ℕ, List, [], ◌∷◌, ◌++◌, length, map, refl, sym, ap, ◌∙◌, append_assoc}, lemmas.Grind.{flat_map-append}}
use Rattle.std.proofs.lemmas.List.{append-nil, length-map, map-append, map-id}
use Rattle.fb_tree.specs.{declared.expression.Expr.{Expr}, declared.reference.Member.{Member}}
use Rattle.fb_tree.specs.Expression.{Expression, ReferenceTree, expression_tree, expressions_of}
use Rattle.fb_structured_text.specs.{declared.references.Part.{Part}, Expression.{PartTree, last_end, member_in, reference_in, subscripts_in}, Part.{part_tree}}

-- the first part and those that were seen are joined
pub record IsJoined (first : Part) (seen : List Part) (members : List Member) (subscripts : List Expr) (end : ℕ) : Type 0 where
  pub names : members ≡ map member_in (map part_tree seen)
  pub expressions : map expression_tree subscripts ≡ map expression_tree first.subscripts.items ++ subscripts_in (map part_tree seen)
  pub ends : end ≡ last_end first.end (map part_tree seen)

last_end_push : (end : ℕ) (ps : List PartTree) (p : PartTree) → last_end end (ps ++ p ∷ []) ≡ p.end
last_end_push end [] p = refl
last_end_push end (q ∷ ps) p = last_end_push q.end ps p

subscripts_push : (before : List Expression) (ps : List PartTree) (p : PartTree) → (before ++ subscripts_in ps) ++ p.subscripts ≡ before ++ subscripts_in (ps ++ p ∷ [])
subscripts_push before ps p =
    append_assoc before (subscripts_in ps) p.subscripts
    ∙ ap (λ z. before ++ (subscripts_in ps ++ z)) (sym (append-nil p.subscripts))
    ∙ ap (λ z. before ++ z) (sym (flat_map-append (λ (q : PartTree). q.subscripts) ps (p ∷ [])))

pub joined_none : (first : Part) → IsJoined first [] [] first.subscripts.items first.end
joined_none first = record { names = refl; expressions = sym (append-nil (map expression_tree first.subscripts.items)); ends = refl }

pub joined_more : (first : Part) (seen : List Part) (members new_members : List Member) (subscripts new_subscripts : List Expr) (end : ℕ) (part : Part) (m : Member)
    → IsJoined first seen members subscripts end → new_members ≡ members ++ m ∷ [] → m ≡ record { name = part.name; subscripts = length part.subscripts.items }
    → new_subscripts ≡ subscripts ++ part.subscripts.items → IsJoined first (seen ++ part ∷ []) new_members new_subscripts part.end
joined_more first seen members new_members subscripts new_subscripts end part m j pushed is appended =
    let more = map-append part_tree seen (part ∷ []) in
    let same : m ≡ member_in (part_tree part) = is ∙ ap (λ (n : ℕ). record { name = part.name; subscripts = n }) (sym (length-map part.subscripts.items expression_tree)) in
    record {
      names = pushed ∙ ap (λ z. z ++ m ∷ []) j.names ∙ ap (λ z. map member_in (map part_tree seen) ++ z ∷ []) same
          ∙ sym (map-append member_in (map part_tree seen) (part_tree part ∷ [])) ∙ ap (map member_in) (sym more);
      expressions = ap (map expression_tree) appended ∙ map-append expression_tree subscripts part.subscripts.items
          ∙ ap (λ z. z ++ map expression_tree part.subscripts.items) j.expressions
          ∙ subscripts_push (map expression_tree first.subscripts.items) (map part_tree seen) (part_tree part)
          ∙ ap (λ z. map expression_tree first.subscripts.items ++ subscripts_in z) (sym more);
      ends = sym (last_end_push first.end (map part_tree seen) (part_tree part)) ∙ ap (last_end first.end) (sym more);
    }

pub joined_all : (first : Part) (seen others : List Part) (members : List Member) (subscripts : List Expr) (end count : ℕ) (r : ReferenceTree)
    → IsJoined first seen members subscripts end → map (λ (p : Part). p) seen ≡ others → count ≡ length first.subscripts.items
    → r ≡ record { name = first.name; subscripts = count; members = members; span = record { start = first.name.span.start; end = end } }
    → (r, expressions_of (map expression_tree subscripts)) ≡ reference_in (part_tree first, map part_tree others)
joined_all first seen others members subscripts end count r j all counted is =
    let same : seen ≡ others = sym (map-id seen) ∙ all in
    let counts : count ≡ length (map expression_tree first.subscripts.items) = counted ∙ sym (length-map first.subscripts.items expression_tree) in
    rw (is, j.names, j.expressions, j.ends, counts, same) refl
