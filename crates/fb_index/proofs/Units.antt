-- Whoever mentions a name is an indexed unit.
use Rattle.std.proofs.Common.{◌≡◌, ◌||◌, ◌↔◌, Bool, true, false, ℕ, List, Result, Ok, Err, OnOk, OnErr, is_some, refl, sym, ap, subst, ◌∙◌}
use Rattle.std.proofs.lemmas.Bool.{false≢true}
use Rattle.std.specs.{BTreeMap.{is_at}, declared.alloc.AllocError.{AllocError}}
use Rattle.fb_text.specs.Order.{name_cmp}
use Rattle.fb_tree.specs.Mentions.{Mentioned}
use Rattle.fb_library.specs.Seen.{has_name}
use Rattle.fb_library.proofs.SeenLemmas.{same_is}
use Rattle.fb_index.specs.Indexed.{Indexed, is_indexed, nothing_indexed, IsRemoved, IsReplaced, SameUnit}
use Rattle.fb_index.specs.Near.{AreUnits, Carries, directly, onward, IsNear, own, part, carried, carried_by_part, mentions, Reaches, itself, mention, through, NearSome, ReachesSome}

or_first : (a b : Bool) → a ≡ true → (a || b) ≡ true
or_first true b is = refl
or_first false b is = absurd (let never : ⊥ = cc in never)

or_second : (a b : Bool) → b ≡ true → (a || b) ≡ true
or_second true b is = refl
or_second false b is = is

pub no_units : AreUnits nothing_indexed
no_units unit name is = absurd (let never : ⊥ = cc in never)

same_mentions : {old new : Indexed} {unit : List ℕ} → SameUnit old new unit → (name : List ℕ) → mentions new unit name ≡ mentions old unit name
same_mentions same name = λ i. same.parts name i || same.of_values name i

-- all that mention a name are units, if the one that changed is one as soon as it mentions a name
changed_units : (old new : Indexed) (unit : List ℕ) → ((name : List ℕ) → mentions new unit name ≡ true → is_indexed new unit ≡ true) → ((other : List ℕ) → is_at (name_cmp unit) other ≡ false → SameUnit old new other) → AreUnits old → AreUnits new
changed_units old new unit mine others are u name is = by (is_at (name_cmp unit) u) refl
  where
    by : (b : Bool) → is_at (name_cmp unit) u ≡ b → is_indexed new u ≡ true
    by true at =
        let same = same_is unit u at in
        subst (λ (v : List ℕ). is_indexed new v ≡ true) same (mine name (ap (λ (v : List ℕ). mentions new v name) same ∙ is))
    by false apart =
        let same = others u apart in
        ap is_some same.mark ∙ are u name (sym (same_mentions same name) ∙ is)

replaced_units : (old new : Indexed) (unit : List ℕ) (m : Mentioned) → IsReplaced old unit m new → AreUnits old → AreUnits new
replaced_units old new unit m now = changed_units old new unit (λ name is. now.there) now.others

removed_units : (old new : Indexed) (unit : List ℕ) → IsRemoved old unit new → AreUnits old → AreUnits new
removed_units old new unit now =
    changed_units old new unit
    (λ name is. absurd (false≢true (sym (λ i. now.own.parts name i || now.own.of_values name i) ∙ is)))
    now.others

pub kept_units : {T : Type 0} (result : Result T AllocError) (old new : Indexed) (unit : List ℕ) (m : Mentioned) → OnOk result (IsReplaced old unit m new) → OnErr result (new ≡ old) → AreUnits old → AreUnits new
kept_units (Ok done) old new unit m ok err are = replaced_units old new unit m ok are
kept_units (Err error) old new unit m ok err are = subst AreUnits (sym err) are

pub left_units : {T : Type 0} (result : Result T AllocError) (old new : Indexed) (unit : List ℕ) → OnOk result (IsRemoved old unit new) → OnErr result (new ≡ old) → AreUnits old → AreUnits new
left_units (Ok done) old new unit ok err are = removed_units old new unit ok are
left_units (Err error) old new unit ok err are = subst AreUnits (sym err) are

module _ (it : Indexed) (are : AreUnits it) where
  carries_units : {u v : List ℕ} → Carries it u v → is_indexed it u ≡ true
  carries_units {u} {v} (directly used) = are u v (or_second _ _ used)
  carries_units (onward carries is used) = carries_units carries

  near_units : {u v : List ℕ} → IsNear it u v → is_indexed it u ≡ true
  near_units (own is) = is
  near_units {u} (part {p = p} used) = are u p (or_first _ _ used)
  near_units (carried carries) = carries_units carries
  near_units {u} (carried_by_part {p = p} used carries) = are u p (or_first _ _ used)

  reaches_units : {u v : List ℕ} → Reaches it u v → is_indexed it u ≡ true
  reaches_units (itself is) = is
  reaches_units {u} {v} (mention is) = are u v is
  reaches_units {u} (through {w = w} is reaches) = are u w is

  pub near_indexed : (names units : List (List ℕ)) → ((unit : List ℕ) → (has_name units unit ≡ true) ↔ NearSome it unit names) → (unit : List ℕ) → has_name units unit ≡ true → is_indexed it unit ≡ true
  near_indexed names units exact unit has = near_units ((exact unit).0 has).is

  pub far_indexed : (names units : List (List ℕ)) → ((unit : List ℕ) → (has_name units unit ≡ true) ↔ ReachesSome it unit names) → (unit : List ℕ) → has_name units unit ≡ true → is_indexed it unit ≡ true
  far_indexed names units exact unit has = reaches_units ((exact unit).0 has).is
