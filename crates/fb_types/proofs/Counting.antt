-- The count of more instances.
use Rattle.std.proofs.Common.{ℕ, ◌≡◌, ◌+◌, ◌<◌, List, [], ◌∷◌, ◌++◌, Option, Some, None, refl, sym, ◌∙◌, ap, subst, arith, length, min, take, get_or, append-nil, append_assoc, length-append}
use Rattle.std.proofs.{lemmas.List.{take_more, length-map, map_push}, lemmas.List.Elements.{Contains-append_left, Contains-append_right, filter_map-append}}
use Rattle.std.specs.{Prelude.{map, unwrap_or}, List.{cons_option}}
use Rattle.fb_network.specs.{declared.flat.count.TheConstants.{INSTANCE_LIMIT}, declared.network.InstanceKind.{InstanceKind}}
use Rattle.fb_network.specs.{declared.network.InstanceKind.TheVariants.{Block, Subapplication}, declared.network.Instance.{Instance}, Plain.{PlainNetwork}}
use Rattle.fb_network.specs.{Network.{View}, Instances.{Held, held_as, held_within, AreInstances, NoInstance, ThenBlock, ThenSubapplication}, Count.{IsCount}}
use Rattle.fb_tree.specs.Tree.{InstanceTree}
use Rattle.fb_tree.proofs.Text.Members.{contains_here}
use Rattle.fb_types.specs.{Counts.{IsCounted, AreCounted, CountsAll, CountsOn, count_of_kind, counted_with, plain_instances}, Networks.{plain_instance}}
use Rattle.fb_types.specs.{Units.{instances_in}, declared.systems.Application.{Application}}

pub instances-append : {view : View} {xs ys : List Instance} {xhs bs : List Held} → AreInstances view xs xhs → AreInstances view ys bs → AreInstances view (xs ++ ys) (xhs ++ bs)
instances-append NoInstance b = b
instances-append (ThenBlock i rest others k more) b = ThenBlock i _ _ k (instances-append more b)
instances-append {view = view} {ys = ys} {bs = bs} (ThenSubapplication i rest inner own others k d inside more) b =
    subst (λ (hs : List Held). AreInstances view (i ∷ (rest ++ ys)) (held_as i ∷ hs)) (sym (append_assoc (map (held_within i.name) own) others bs))
    (ThenSubapplication i (rest ++ ys) inner own (others ++ bs) k d inside (instances-append more b))

pub count_block : {view : View} (xs : List Instance) (i : Instance) (n m : ℕ) → IsCount view xs n → i.kind ≡ Block → m ≡ min (n + 1) (INSTANCE_LIMIT + 1) → IsCount view (xs ++ i ∷ []) m
count_block xs i n m c k e =
    record {
      held = c.held ++ held_as i ∷ [];
      instances = instances-append c.instances (ThenBlock i [] [] k NoInstance);
      count_is = let len = length-append c.held (held_as i ∷ []) in let was = c.count_is in omega (arith, e, len, was);
    }

pub count_subapplication : {view : View} (xs : List Instance) (i : Instance) (inner : PlainNetwork) (n j m : ℕ) → IsCount view xs n → i.kind ≡ Subapplication → view i.type_name ≡ Some inner → IsCount view inner.instances j → m ≡ min (n + 1 + j) (INSTANCE_LIMIT + 1) → IsCount view (xs ++ i ∷ []) m
count_subapplication xs i inner n j m c k d own e =
    record {
      held = c.held ++ (held_as i ∷ (map (held_within i.name) own.held ++ []));
      instances = instances-append c.instances (ThenSubapplication i [] inner own.held [] k d own.instances NoInstance);
      count_is =
          let len = length-append c.held (held_as i ∷ (map (held_within i.name) own.held ++ [])) in
          let more : length (map (held_within i.name) own.held ++ []) ≡ length (map (held_within i.name) own.held) + 0 = length-append (map (held_within i.name) own.held) [] in
          let inside = length-map own.held (held_within i.name) in
          let was = c.count_is in let inner_was = own.count_is in omega (arith, e, len, more, inside, was, inner_was);
    }

-- nothing is counted yet
pub count_nothing : {view : View} → IsCount view [] 0
count_nothing = record { held = []; instances = NoInstance; count_is = refl }

pub count_one : {view : View} {counts : List ℕ → Option ℕ} (xs : List Instance) (i : Instance) (n m : ℕ) → IsCount view xs n → (i.kind ≡ Subapplication → IsCounted view counts i.type_name) → (k : InstanceKind) → i.kind ≡ k → m ≡ min (n + 1 + count_of_kind k counts i.type_name) (INSTANCE_LIMIT + 1) → IsCount view (xs ++ i ∷ []) m
count_one xs i n m c ready Block g e = count_block xs i n m c g (omega (arith, e))
count_one {counts = counts} xs i n m c ready Subapplication g e =
    let r = ready g in
    let inside : unwrap_or (counts i.type_name) 0 ≡ r.count = ap (λ (o : Option ℕ). unwrap_or o 0) r.found in
    count_subapplication xs i r.inner n r.count m c g r.declared r.counted (omega (arith, e, inside))

-- ---- instances of a text

pub mapped_twice : {X Y Z : Type 0} (f : Y → Z) (g : X → Y) (xs : List X) → map f (map g xs) ≡ map (λ x. f (g x)) xs
mapped_twice f g [] = refl
mapped_twice f g (x ∷ xs) = ap (λ l. f (g x) ∷ l) (mapped_twice f g xs)

-- one item of a list further
pub mapped_further : {X Y : Type 0} (f : X → Y) (xs : List X) (i : ℕ) (x : X) → i < length xs → x ≡ get_or xs i x → map f (take i xs) ++ f x ∷ [] ≡ map f (take (i + 1) xs)
mapped_further f xs i x within here =
    sym (map_push f (take i xs) x) ∙ ap (map f) (ap (λ y. take i xs ++ y ∷ []) here ∙ sym (take_more xs i x within))

module _ (counts : List ℕ → Option ℕ) where
  further : (so_far : ℕ) (list : List Instance) (o : Option Instance) (n m : ℕ) → CountsOn counts so_far list n → m ≡ counted_with counts n o → CountsOn counts so_far (list ++ cons_option o []) m
  further so_far list None n m before e view prefix all c =
      let same = append-nil list in
      subst (λ (l : List Instance). IsCount view (prefix ++ l) m) (sym same)
      (subst (λ (k : ℕ). IsCount view (prefix ++ list) k) (sym e) (before view prefix (subst (λ (l : List Instance). AreCounted view l counts) same all) c))
  further so_far list (Some i) n m before e view prefix all c =
      let was = before view prefix (λ j h k. all j (Contains-append_left list (i ∷ []) j h) k) c in
      subst (λ (l : List Instance). IsCount view l m) (append_assoc prefix list (i ∷ []))
      (count_one (prefix ++ list) i n m was (λ k. all i (Contains-append_right list (i ∷ []) i (contains_here i [])) k) i.kind refl e)

  -- one instance of the text further
  pub instance_further : (so_far : ℕ) (list : List InstanceTree) (x : InstanceTree) (n m : ℕ) → CountsOn counts so_far (plain_instances list) n → m ≡ counted_with counts n (plain_instance x) → CountsOn counts so_far (plain_instances (list ++ x ∷ [])) m
  instance_further so_far list x n m before e =
      subst (λ (l : List Instance). CountsOn counts so_far l m) (sym (filter_map-append plain_instance list (x ∷ [])))
      (further so_far (plain_instances list) (plain_instance x) n m before e)

  -- the instances from nothing on
  pub from_nothing : (list : List Instance) (count : ℕ) → CountsOn counts 0 list count → CountsAll counts list count
  from_nothing list count on view all = on view [] all count_nothing

  -- one application further
  pub application_further : (list : List Application) (a : Application) (n m : ℕ) → CountsAll counts (instances_in list) n → CountsOn counts n a.network.instances m → CountsAll counts (instances_in (list ++ a ∷ [])) m
  application_further list a n m before on =
      subst (λ (l : List Instance). CountsAll counts l m) (sym (joined list))
      (λ view all.
      on view (instances_in list) (λ i h k. all i (Contains-append_right (instances_in list) a.network.instances i h) k)
      (before view (λ i h k. all i (Contains-append_left (instances_in list) a.network.instances i h) k)))
    where
      joined : (xs : List Application) → instances_in (xs ++ a ∷ []) ≡ instances_in xs ++ a.network.instances
      joined [] = append-nil a.network.instances
      joined (x ∷ xs) = ap (λ (l : List Instance). x.network.instances ++ l) (joined xs) ∙ sym (append_assoc x.network.instances (instances_in xs) a.network.instances)
