-- What is found of a unit.
use Rattle.std.proofs.Common.{ℕ, ◌≡◌, ◌<◌, ◌≤◌, ◌+◌, true, false, List, [], ◌∷◌, ◌++◌, Option, Some, Result, Ok, Err, sym, ◌∙◌, ap, subst, arith, length, is_some, take, get_or, add-one}
use Rattle.std.proofs.Math.Seq.{take-suc}
use Rattle.std.specs.Prelude.{Contains, IfOk, option_map}
use Rattle.fb_tree.specs.Tree.{DeclTree, system_configuration}
use Rattle.fb_iface.specs.Library.View.{Sources, tree_at}
use Rattle.fb_network.specs.{declared.flat.count.TheConstants.{INSTANCE_LIMIT}, declared.network.Instance.{Instance}, Network.{View}}
use Rattle.fb_network.specs.declared.flat.application.FlatApplication.{FlatApplication}
use Rattle.fb_tree.proofs.Text.Members.{contains_nothing, contains_flat_map}
use Rattle.fb_types.specs.{Applications.{applications_of}, Networks.{network_of}, ByName.{applications_at}, declared.systems.Application.{Application}}
use Rattle.fb_types.specs.Tables.{IsUnitCount, is_system_tree}
use Rattle.fb_types.specs.Units.{AreFlatApplications, NoApplication, ThenApplication, IsFlatApplication, IsTooLarge, IsWithinLimit, own_instances}

pub flats-push : {view : View} {applications : List Application} {flats : List FlatApplication} (application : Application) (flat : FlatApplication) → AreFlatApplications view applications flats → IsFlatApplication view application flat → AreFlatApplications view (applications ++ application ∷ []) (flats ++ flat ∷ [])
flats-push application flat NoApplication is = ThenApplication application flat is NoApplication
flats-push application flat (ThenApplication a f here more) is = ThenApplication a f here (flats-push application flat more is)

-- the applications of a system
pub system_applications : (sources : Sources) (unit : List ℕ) (tree : DeclTree) → tree_at sources unit ≡ Some tree → applications_at sources unit ≡ Some (applications_of tree)
system_applications sources unit tree present = ap (option_map applications_of) present

pub too_large : {sources : Sources} {unit : List ℕ} {count : ℕ} → IsUnitCount sources unit count → INSTANCE_LIMIT < count → IsTooLarge sources unit
too_large c lt = record { held = c.held; holds = c.holds; more = let e = c.count_is in omega (arith, e, lt) }

pub not_too_large : {sources : Sources} {unit : List ℕ} {count : ℕ} → IsUnitCount sources unit count → count ≤ INSTANCE_LIMIT → IsWithinLimit sources unit
not_too_large c le = record { held = c.held; holds = c.holds; within = let e = c.count_is in omega (arith, e, le) }

-- the instances of a unit that is no system are those of its network
pub own_of_type : (tree : DeclTree) → is_system_tree tree ≡ false → (network_of tree).instances ≡ own_instances tree
own_of_type tree e = grind arith

-- what a map gives something of is something
pub some_of_map : {X Y : Type 0} (f : X → Y) (o : Option X) (y : Y) → option_map f o ≡ Some y → is_some o ≡ true
some_of_map f o y e = grind arith

-- one application further
pub applications_further : {view : View} (applications : List Application) (i : ℕ) (a : Application) (flats : List FlatApplication) → i < length applications → a ≡ get_or applications i a → AreFlatApplications view (take i applications ++ a ∷ []) flats → AreFlatApplications view (take (i + 1) applications) flats
applications_further {view = view} applications i a flats lt e all =
    let step : take i applications ++ a ∷ [] ≡ take (i + 1) applications =
    ap (λ (x : Application). take i applications ++ x ∷ []) e ∙ sym (take-suc applications i a lt) ∙ ap (λ (n : ℕ). take n applications) (sym (add-one i)) in
    subst (λ (xs : List Application). AreFlatApplications view xs flats) step all

-- the value that is found
pub present_of : {X Y : Type 0} (f : X → Y) {o : Option X} {x : X} {t : Option Y} → option_map f o ≡ t → o ≡ Some x → t ≡ Some (f x)
present_of f e h = sym e ∙ ap (option_map f) h

-- what holds of a result by what is known of it
pub if_ok : {X E : Type 0} {P Q : X → Type 0} (r : Result X E) → ((x : X) → P x → Q x) → IfOk r P → IfOk r Q
if_ok (Ok x) f h = f x h
if_ok (Err e) f h = tt

-- the instances of an application are the unit's own
pub own_of_application : (tree : DeclTree) (a : Application) (i : Instance) → Contains (applications_of tree) a → Contains a.network.instances i → Contains (own_instances tree) i
own_of_application (system_configuration s) a i c h =
    contains_flat_map (λ (x : Application). x.network.instances) (applications_of (system_configuration s)) a i c h
own_of_application other a i c h = absurd (contains_nothing a c)
