-- Instances with their unit, and where names lead to from them.
use Rattle.std.proofs.Common.{ℕ, suc, ◌≡◌, ◌<◌, List, [], ◌∷◌, ◌++◌, Option, Some, None, refl, sym, ◌∙◌, ap, drop, get_or, length, map}
use Rattle.std.proofs.Math.Seq.{drop-cons}
use Rattle.std.specs.{Borrow.{Bor}, Prelude.{find, option_and_then, option_map}, Option.{option_map_or}, Str.{bytes_eq}}
use Rattle.fb_tree.specs.Tree.{ApplicationTree, InstanceTree}
use Rattle.fb_library.specs.View.{Sources}
use Rattle.fb_placing.specs.Resolved.{PlainResolved, application_called, instance_called, path_names, resolved_among, resolved_at, resolved_beyond, resolved_from, resolved_in, resolved_inside}
use Rattle.fb_placing.specs.Tables.{Instances, instance_at, instances_called}
use Rattle.fb_placing.proofs.InstanceLemmas.{among_called}

pub beyond_nothing : (sources : Sources) (names : List (List ℕ)) → resolved_beyond sources None names ≡ None
beyond_nothing sources [] = refl
beyond_nothing sources (name ∷ names) = beyond_nothing sources names

-- no instance stands at an empty path
pub nothing_at : (sources : Sources) (system : List ℕ) (applications : List ApplicationTree) (path : List ℕ) → path ≡ [] → resolved_at sources system applications (path_names path) ≡ None
unfolding path_names
nothing_at sources system applications path e = ap (λ (p : List ℕ). resolved_at sources system applications (path_names p)) e ∙ by (application_called applications [])
  where
    by : (o : Option ApplicationTree) → option_and_then (λ (it : ApplicationTree). resolved_from sources system it.network.instances []) o ≡ None
    by None = refl
    by (Some it) = refl

-- nothing stands under the next name
pub beyond_stops : (sources : Sources) (names : List (Bor (List ℕ))) (i : ℕ) (d : Bor (List ℕ)) (s : PlainResolved) → i < length names → resolved_inside sources (get_or names i d).now s ≡ None → resolved_beyond sources (Some s) (map (λ n. n.now) (drop i names)) ≡ None
beyond_stops sources names i d s lt e =
    ap (λ (ns : List (Bor (List ℕ))). resolved_beyond sources (Some s) (map (λ n. n.now) ns)) (drop-cons names i d lt)
    ∙ ap (λ (o : Option PlainResolved). resolved_beyond sources o (map (λ n. n.now) (drop (suc i) names))) e
    ∙ beyond_nothing sources (map (λ n. n.now) (drop (suc i) names))

beyond_more : (sources : Sources) (o : Option PlainResolved) (names : List (List ℕ)) (name : List ℕ) → resolved_beyond sources o (names ++ name ∷ []) ≡ option_and_then (resolved_inside sources name) (resolved_beyond sources o names)
beyond_more sources o [] name = refl
beyond_more sources o (n ∷ ns) name = beyond_more sources (option_and_then (resolved_inside sources n) o) ns name

-- what stands at one name further
pub at_more : (sources : Sources) (system : List ℕ) (applications : List ApplicationTree) (names : List (List ℕ)) (name : List ℕ) (s : PlainResolved) → resolved_at sources system applications names ≡ Some s → resolved_at sources system applications (names ++ name ∷ []) ≡ resolved_inside sources name s
at_more sources system applications [] name s e = absurd (let no : ⊥ = cc in no)
at_more sources system applications (a ∷ names) name s e = by_application (application_called applications a) e
  where
    from_more : (instances : List InstanceTree) (ns : List (List ℕ)) → resolved_from sources system instances ns ≡ Some s → resolved_from sources system instances (ns ++ name ∷ []) ≡ resolved_inside sources name s
    from_more instances [] f = absurd (let no : ⊥ = cc in no)
    from_more instances (n ∷ ns) f =
        beyond_more sources (resolved_among system instances n) ns name ∙ ap (option_and_then (resolved_inside sources name)) f

    by_application : (o : Option ApplicationTree) → option_and_then (λ (it : ApplicationTree). resolved_from sources system it.network.instances names) o ≡ Some s → option_and_then (λ (it : ApplicationTree). resolved_from sources system it.network.instances (names ++ name ∷ [])) o ≡ resolved_inside sources name s
    by_application None f = absurd (let no : ⊥ = cc in no)
    by_application (Some it) f = from_more it.network.instances names f

-- the first two names lead to an instance, and the others on from there
pub at_begins : (sources : Sources) (system : List ℕ) (applications : List ApplicationTree) (a name : List ℕ) (names : List (List ℕ)) → resolved_at sources system applications (a ∷ (name ∷ names)) ≡ resolved_beyond sources (resolved_at sources system applications (a ∷ (name ∷ []))) names
at_begins sources system applications a name names = by (application_called applications a)
  where
    by : (o : Option ApplicationTree) → option_and_then (λ (it : ApplicationTree). resolved_from sources system it.network.instances (name ∷ names)) o ≡ resolved_beyond sources (option_and_then (λ (it : ApplicationTree). resolved_from sources system it.network.instances (name ∷ [])) o) names
    by None = sym (beyond_nothing sources names)
    by (Some it) = refl

-- an instance of an application, by the table of its instances
pub begin_at : (sources : Sources) (system : List ℕ) (applications : List ApplicationTree) (a name : List ℕ) (o : Option Instances) → option_map instance_at o ≡ instances_called applications a → option_and_then (λ (table : Instances). option_map (resolved_in system) (instance_at table name)) o ≡ resolved_at sources system applications (a ∷ (name ∷ []))
begin_at sources system applications a name o e = by (find (λ (it : ApplicationTree). bytes_eq it.name.name a) applications) o e
  where
    by : (p : Option ApplicationTree) (o : Option Instances) → option_map instance_at o ≡ option_map (λ (it : ApplicationTree). instance_called it.network.instances) p → option_and_then (λ (table : Instances). option_map (resolved_in system) (instance_at table name)) o ≡ option_and_then (λ (it : ApplicationTree). resolved_from sources system it.network.instances (name ∷ [])) (option_map (λ (it : ApplicationTree). it) p)
    by None None f = refl
    by (Some it) None f = absurd (cc)
    by None (Some table) f = absurd (cc)
    by (Some it) (Some table) f =
        ap (λ (q : Option (List ℕ → Option InstanceTree)). option_map_or (λ (at : List ℕ → Option InstanceTree). option_map (resolved_in system) (at name)) q None) f
        ∙ sym (among_called system it.network.instances name)
