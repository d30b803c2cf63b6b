-- What a job has read: under each name a text with its revision, or nothing.
use Rattle.std.specs.Prelude.{◌≡◌, ℕ, Bool, true, false, ◌&&◌, not, List, [], ◌∷◌, map, Option, Some, None, nat_eq, ◌==◌, find, All, Any}
use Rattle.std.specs.{Cmp.Lexicographic.{pointwise}, Option.{option_map}, List.{list_any}, Ordering.{is_gt}, BTreeMap.{is_at}}
use Rattle.fb_text.specs.Order.{name_cmp}
use Rattle.fb_deploy.specs.Library.Texts.{Texts, Held, held, text_at}
use Rattle.fb_jobs.specs.{declared.keys.key.Key.{Key}, Keys.{has_key, needs}}

pub record Seen : Type 0 where
  pub name : List ℕ
  pub found : Option Held

abbrev pub read_names : List Seen → List (List ℕ)
read_names reads = map (λ (it : Seen). it.name) reads

abbrev pub put_found : List ℕ → Option Held → Texts → Texts
put_found name None texts = texts
put_found name (Some it) texts = (name, it) ∷ texts

-- the texts that the reads hold
abbrev pub read_texts : List Seen → Texts
read_texts [] = []
read_texts (it ∷ reads) = put_found it.name it.found (read_texts reads)

-- what is read under the names
abbrev pub reads_under : Texts → List (List ℕ) → List Seen
reads_under texts names = map (λ name. record { name = name; found = held texts name }) names

-- what a job for the key reads of the texts
abbrev pub reads_for : Texts → Key → List Seen
reads_for texts key = reads_under texts (needs texts key)

-- it was read of these texts
abbrev pub IsOf : Texts → Seen → Type 0
IsOf texts it = held texts it.name ≡ it.found

-- whether a name is one of the names
abbrev pub is_among : List ℕ → List (List ℕ) → Bool
is_among name names = list_any (is_at (name_cmp name)) names

-- under each of the names both have the same text, or none; revisions may differ
abbrev pub Agree : Texts → Texts → List (List ℕ) → Type 0
Agree texts others names = (name : List ℕ) → is_among name names ≡ true → text_at texts name ≡ text_at others name

abbrev pub same_held : Held → Held → Bool
same_held a b = (a.revision == b.revision) && pointwise nat_eq a.text b.text

abbrev pub same_found : Option Held → Option Held → Bool
same_found None None = true
same_found None (Some b) = false
same_found (Some a) None = false
same_found (Some a) (Some b) = same_held a b

-- absent now as then, or present with the same revision and the same text
abbrev pub is_current : Texts → Seen → Bool
is_current texts it = same_found (held texts it.name) it.found

-- the first read that is not current; the least one, if the reads are by rising name
abbrev pub stale : Texts → List Seen → Option (List ℕ)
stale texts reads = option_map (λ (it : Seen). it.name) (find (λ it. not (is_current texts it)) reads)

-- a key with what was read for it
pub record PlainJob : Type 0 where
  pub key : Key
  pub reads : List Seen

-- the texts that were read have the key, and the reads are under exactly the names that it needs there
pub record IsRight (it : PlainJob) : Type 0 where
  pub has : has_key (read_texts it.reads) it.key ≡ true
  pub names : read_names it.reads ≡ needs (read_texts it.reads) it.key

-- some read is not current, and this is the least such name
pub record IsLeastStale (texts : Texts) (reads : List Seen) (name : List ℕ) : Type 0 where
  pub stale : Any (λ (it : Seen). (it.name ≡ name) × (is_current texts it ≡ false)) reads
  pub least : All (λ (it : Seen). is_current texts it ≡ false → is_gt (name_cmp name it.name) ≡ false) reads
