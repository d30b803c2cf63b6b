-- A unit has one net only.
use Rattle.std.proofs.Common.{ℕ, ◌≡◌, List, [], ◌∷◌, refl, sym, ◌∙◌, ap, subst, arith, length}
use Rattle.std.specs.Cmp.Lexicographic.{nat_list_cmp_total}
use Rattle.fb_types.specs.{Tree.Tree.{DeclTree}, Library.View.{Sources}, Network.Plain.{PlainNetwork}, Network.PlainFlat.{PlainFlat}, Network.Network.{View}}
use Rattle.fb_types.specs.{Network.Instances.{Held, AreInstances}, Network.FlatNet.{IsFlat}, Network.SystemFlat.{IsSystemFlat}}
use Rattle.fb_types.specs.{Network.declared.flat.application.FlatApplication.{FlatApplication}, ByName.{declared}, declared.systems.Application.{Application}}
use Rattle.fb_types.specs.Units.{AreFlatApplications, NoApplication, ThenApplication, Holds, IsTooLarge, IsWithinLimit, IsUnitFlat, OfSubapplication, OfSystem, own_instances}
use Rattle.fb_types.proofs.{Network.BlockLemmas.{same_instances}, Network.OneFlat.{same_flat}, Network.SystemLemmas.{same_system}, Network.SameSorted.{same_sorted}}
use Rattle.fb_flatten.specs.{Blocking.{AreThose}, Net.{PlainNet, blocked, recursive, too_large, flat_net, IsNet}, Laws.{OneNet}}

same_names : {sources : Sources} {unit : List ℕ} {property : List ℕ → Type 0} (xs ys : List (List ℕ)) → AreThose sources unit property xs → AreThose sources unit property ys → xs ≡ ys
same_names xs ys p q = same_sorted nat_list_cmp_total xs ys p.sorted q.sorted (λ v c. (q.members v).1 ((p.members v).0 c)) (λ v c. (p.members v).1 ((q.members v).0 c))

same_held : {sources : Sources} {unit : List ℕ} {h k : List Held} → Holds sources unit h → Holds sources unit k → h ≡ k
same_held {sources = sources} {h = h} p q =
    let first = p.present in
    let second = q.present in
    let same : p.tree ≡ q.tree = cc in
    same_instances (subst (λ (t : DeclTree). AreInstances (declared sources) (own_instances t) h) same p.instances) q.instances

not_both_sizes : {sources : Sources} {unit : List ℕ} → IsTooLarge sources unit → IsWithinLimit sources unit → ⊥
not_both_sizes p q =
    let same = ap (λ (l : List Held). length l) (same_held p.holds q.holds) in
    let more = p.more in
    let within = q.within in
    omega (arith, same, more, within)

same_applications : {view : View} {applications : List Application} {fs gs : List FlatApplication} → AreFlatApplications view applications fs → AreFlatApplications view applications gs → fs ≡ gs
same_applications NoApplication NoApplication = refl
same_applications (ThenApplication a f p more) (ThenApplication b g q others) =
    let names = p.name ∙ sym q.name in
    let flats = same_flat f.flat g.flat p.net q.net in
    let rest = same_applications more others in
    λ i. record { name = names i; flat = flats i } ∷ rest i

same_unit_flat : {sources : Sources} {unit : List ℕ} (a b : PlainFlat) → IsUnitFlat sources unit a → IsUnitFlat sources unit b → a ≡ b
same_unit_flat {sources = sources} a b (OfSubapplication n k d f) (OfSubapplication m l e g) =
    let same : n ≡ m = cc in
    same_flat a b (subst (λ (x : PlainNetwork). IsFlat (declared sources) x a) same f) g
same_unit_flat a b (OfSubapplication n k d f) (OfSystem list fs l e each j) = absurd (let no : ⊥ = cc in no)
same_unit_flat a b (OfSystem list fs l e each j) (OfSubapplication n k d f) = absurd (let no : ⊥ = cc in no)
same_unit_flat {sources = sources} a b (OfSystem list fs k d each j) (OfSystem bs gs l e others m) =
    let same : list ≡ bs = cc in
    let flats : fs ≡ gs = same_applications (subst (λ (x : List Application). AreFlatApplications (declared sources) x fs) same each) others in
    same_system gs a b (subst (λ (x : List FlatApplication). IsSystemFlat x a) flats j) m

one : (sources : Sources) (unit : List ℕ) (a b : PlainNet) → IsNet sources unit a → IsNet sources unit b → a ≡ b
one sources unit (blocked xs) (blocked ys) p q = ap blocked (same_names xs ys p.0 q.0)
one sources unit (blocked xs) (recursive ys) p q = absurd (p.1 (same_names xs [] p.0 q.0))
one sources unit (blocked xs) too_large p q = absurd (p.1 (same_names xs [] p.0 q.0.whole))
one sources unit (blocked xs) (flat_net g) p q = absurd (p.1 (same_names xs [] p.0 q.0.whole))
one sources unit (recursive xs) (blocked ys) p q = absurd (q.1 (same_names ys [] q.0 p.0))
one sources unit (recursive xs) (recursive ys) p q = ap recursive (same_names xs ys p.1 q.1)
one sources unit (recursive xs) too_large p q = absurd (p.2 (same_names xs [] p.1 q.0.finite))
one sources unit (recursive xs) (flat_net g) p q = absurd (p.2 (same_names xs [] p.1 q.0.finite))
one sources unit too_large (blocked ys) p q = absurd (q.1 (same_names ys [] q.0 p.0.whole))
one sources unit too_large (recursive ys) p q = absurd (q.2 (same_names ys [] q.1 p.0.finite))
one sources unit too_large too_large p q = refl
one sources unit too_large (flat_net g) p q = absurd (not_both_sizes p.1 q.1)
one sources unit (flat_net f) (blocked ys) p q = absurd (q.1 (same_names ys [] q.0 p.0.whole))
one sources unit (flat_net f) (recursive ys) p q = absurd (q.2 (same_names ys [] q.1 p.0.finite))
one sources unit (flat_net f) too_large p q = absurd (not_both_sizes q.1 p.1)
one sources unit (flat_net f) (flat_net g) p q = ap flat_net (same_unit_flat f g p.2 q.2)

pub one_net_only : OneNet
one_net_only = one
