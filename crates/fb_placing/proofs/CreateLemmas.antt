-- The blocks that are made, in order.
use Rattle.std.proofs.{Common.{ℕ, ◌≡◌, ◌<◌, List, [], ◌∷◌, ◌++◌, length, get_or, map, refl, sym, ap, ◌∙◌, codes}, lemmas.Option.{slice_get-get_or}}
use Rattle.std.specs.{Prelude.{slice_get}, declared.cmp.Ordering.{Ordering}, declared.cmp.Ordering.TheVariants.{Less, Equal, Greater}, Ordering.{ordering_then}}
use Rattle.std.specs.{Cmp.{tied_itself}, Cmp.Lexicographic.{nat_list_cmp_total}, FinMap.{nat_cmp-IsAntisymmetric, slice_cmp-IsAntisymmetric}}
use Rattle.fb_tree.specs.Text.Order.{in_order, name_cmp}
use Rattle.fb_tree.proofs.Text.OrderLemmas.{in_order-members, in_order-sorted}
use Rattle.fb_network.proofs.{Drafts.{once_ordered}, SameSorted.{same_sorted}, Texts.{by_parts}}
use Rattle.fb_network.specs.{Numbered.{block_or_nothing, link_or_nothing}, Once.{IsOnce}, declared.flat.FlatBlock.{FlatBlock}, declared.flat.Link.{Link}}
use Rattle.fb_placing.specs.{PlacedCommands.{create_text, command_cmp, command_cmp_total}, declared.plan.write_commands.PlacedCommand.{PlacedCommand}}
use Rattle.fb_placing.proofs.PlacedLemmas.{command_cmp-IsAntisymmetric}

-- the block of a number that there is
pub block_there : (blocks : List FlatBlock) (n : ℕ) (d : FlatBlock) → n < length blocks → block_or_nothing (slice_get blocks n) ≡ get_or blocks n d
block_there blocks n d lt = ap block_or_nothing (slice_get-get_or blocks n d lt)

pub link_there : (links : List Link) (n : ℕ) (d : Link) → n < length links → link_or_nothing (slice_get links n) ≡ get_or links n d
link_there links n d lt = ap link_or_nothing (slice_get-get_or links n d lt)

-- texts with the same start are told by what stands behind it
behind_start : (start xs ys : List ℕ) → name_cmp (start ++ xs) (start ++ ys) ≡ name_cmp xs ys
behind_start start xs ys =
    by_parts start start xs ys refl ∙ ap (λ (o : Ordering). ordering_then o (name_cmp xs ys)) (tied_itself nat_list_cmp_total start)

same_path : (p q s t : List ℕ) → p ≡ q → name_cmp (create_text p s) (create_text q t) ≡ name_cmp s t
same_path p q s t e =
    ap (λ (r : List ℕ). name_cmp (create_text p s) (create_text r t)) (sym e)
    ∙ behind_start (codes "CREATE FB ") (p ++ 32 ∷ s) (p ++ 32 ∷ t) ∙ behind_start p (32 ∷ s) (32 ∷ t) ∙ behind_start (32 ∷ []) s t

-- the commands of two blocks are in the order of their paths, and then of the names of their types
pub by_types : (p q s t : List ℕ) (rest : Ordering) → ordering_then (ordering_then (name_cmp p q) (name_cmp s t)) rest ≡ ordering_then (name_cmp p q) (ordering_then (name_cmp (create_text p s) (create_text q t)) rest)
by_types p q s t rest = by_case (name_cmp p q) refl
  where
    by_case : (o : Ordering) → name_cmp p q ≡ o → ordering_then (ordering_then o (name_cmp s t)) rest ≡ ordering_then o (ordering_then (name_cmp (create_text p s) (create_text q t)) rest)
    by_case Less e = refl
    by_case Equal e = ap (λ (o : Ordering). ordering_then o rest) (sym (same_path p q s t (slice_cmp-IsAntisymmetric nat_cmp-IsAntisymmetric p q e)))
    by_case Greater e = refl

-- what is left of commands, sorted and each once, are the commands in order
pub commands_in_order : {E : Type 0} (says : E → PlacedCommand) (old new : List E) → IsOnce says command_cmp old new → map says new ≡ in_order command_cmp (map says old)
commands_in_order says old new once =
    let xs = map says old in
    let ordered = once_ordered {says = says} {cmp = command_cmp} old new once in
    let members = in_order-members command_cmp command_cmp_total command_cmp-IsAntisymmetric xs in
    same_sorted command_cmp_total (map says new) (in_order command_cmp xs) once.sorted (in_order-sorted command_cmp command_cmp_total xs)
    (λ z m. (members z).1 (ordered.added z m)) (λ z m. once.kept z ((members z).0 m))
