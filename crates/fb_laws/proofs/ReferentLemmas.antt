-- What references mean by the check: what they begin at, what their further names lead to, and which of these are no fields.
use Rattle.fb_laws.proofs.Common.{◌≡◌, ℕ, Bool, true, false, true≢false, cond, not, List, [], ◌∷◌, ◌++◌, Option, Some, None, ◌⊎◌, refl, sym, ap, subst, ◌∙◌, append-nil, arith, option_and_then, ltb-false, or_parts, is_elementary, ReferenceTree, TypeTree, adapter_type, block_type, Section, TypeForm, TypeUse, Role, Plug, Socket, Member, Sources, tree_at, class_of_name, is_free, Fields, NoFields, fields_of_tree, stands_for, Meanings, meanings_in_type, instance_ports, ports_of, usable, DeclaredInstance, DeclaredVariable, stands_for-first_ones, is_known, referent_through, Names, names_of_type, data_referent, fields_behind, fields_named, is_before_port, is_data, is_some_count, member_among, own_referent, port_named, port_referent, referent_of, step, unless_judged, variable_named, walk, Referent, Variable, Unjudged, NoMember, IsAdapter, IsUsable, as_plug, as_socket, IsData, IsAtPort, Begins, own, IsOfNoAdapter, Shows, plain, element, IsOpen, generic, unknown, HasField, GoesOn, at_end, through, NamesType, append_assoc, false_from_ne_true, Expressions, reference_expression, IsWrittenIn, HasUnknownMember, is_field, is_met, names_field, DeclTree, structure_type, ◌||◌, not-false}
use Rattle.fb_laws.proofs.{CarriedTypes.{IsKnown, data_known, field_known, known_fields, own_known}, UsableTypes.{known_type, own_type}}
use Rattle.fb_deploy.specs.Iface.Fields.{NotChecked}
use Rattle.fb_expr.specs.declared.references.Referent.TheVariants.{Unknown}
use Rattle.fb_tree.specs.declared.interface.TypeForm.TheVariants as forms
use Rattle.fb_expr.proofs.MemberLemmas.{walk-append}
use Rattle.fb_laws.specs.Variables.{of_adapter}

-- a type that has to be declared is none of class Free

not_free : (name : List ℕ) → is_elementary name ≡ false → is_free (class_of_name name) ≡ false
unfolding is_elementary
not_free name e = grind arith

-- whether a subscript is on a plain type
abbrev shown : Bool → Fields → Fields
shown false fields = fields
shown true fields = unless_judged fields

data_section : (s : Section) → IsData s → is_data s ≡ true
data_section s is = grind arith

-- an adapter type with these ports
record HasAdapter (sources : Sources) (name : List ℕ) (ports : Meanings) : Type 0 where
  type : TypeTree
  is : tree_at sources name ≡ Some (adapter_type type)
  has : meanings_in_type type ≡ ports

module _ (sources : Sources) where
  adapter_used : (i : DeclaredInstance) → IsAdapter i → (a : TypeTree) → tree_at sources i.type_name.name ≡ Some (adapter_type a) → usable i.role (tree_at sources i.type_name.name) ≡ Some (meanings_in_type a)
  adapter_used i is a e = grind arith

  adapter_found : (name : List ℕ) (role : Role) (ports : Meanings) → role ≡ Plug ⊎ role ≡ Socket → IsUsable sources name role ports → HasAdapter sources name ports
  adapter_found name role ports adapter used = grind (arith, as_plug, as_socket)

module _ (sources : Sources) (unit : List ℕ) (d : TypeTree) (declared : tree_at sources unit ≡ Some (block_type d)) where
  abbrev names : Names
  names = names_of_type sources unit d

  abbrev Known : TypeUse → Type 0
  Known used = IsKnown sources unit used.name.name

  -- One further name

  -- what may be named after a type that needs a declaration, by this
  abbrev declared_fields : List ℕ → Fields
  declared_fields name = cond (is_elementary name) NoFields (fields_of_tree (tree_at sources name))

  named_known : (name : List ℕ) → IsKnown sources unit name → fields_named names.fields name ≡ fields_named declared_fields name
  named_known name known = ap (λ fields. cond (is_free (class_of_name name)) NotChecked fields) (known_fields sources unit name known)

  behind_shown : (used : TypeUse) (s on : Bool) → Shows used s on → fields_behind names.fields used.form used.name.name s ≡ shown on (fields_named names.fields used.name.name)
  behind_shown used s on shows = grind arith

  told_open : (used : TypeUse) (s : Bool) (m : Member) → Known used → IsOpen sources used s → step names (Variable used s) m ≡ Unjudged
  told_open used s m known open_there = grind (arith, generic, behind_shown, unknown, named_known, not_free)

  told_field : (used : TypeUse) (s : Bool) (m : Member) (v : DeclaredVariable) → Known used → HasField sources used s m.name.name v → step names (Variable used s) m ≡ Variable v.type_use (is_some_count m.subscripts)
  told_field used s m v known h = grind (arith, behind_shown, named_known, not_free, stands_for-first_ones)

  -- what a further name means
  data Looks (used : TypeUse) (s : Bool) (m : Member) : Referent → Type 0 where
    is_open : IsOpen sources used s → Looks used s m Unjudged
    is_none : Looks used s m (NoMember m.name.span)
    is_found : (v : DeclaredVariable) → HasField sources used s m.name.name v → Looks used s m (Variable v.type_use (is_some_count m.subscripts))

  module _ (used : TypeUse) (m : Member) (known : Known used) where
    abbrev name : List ℕ
    name = used.name.name

    -- by whether a subscript is there, whether the type is generic, whether it is elementary, and its declaration
    by_type : (s on free elementary : Bool) (o : Option DeclTree) → Shows used s on → is_free (class_of_name name) ≡ free → is_elementary name ≡ elementary → tree_at sources name ≡ o → Looks used s m (member_among (shown on (cond free NotChecked (cond elementary NoFields (fields_of_tree o)))) m)
    by_type s false true elementary o shows f e t = is_open (generic false shows f)
    by_type s true true elementary o shows f e t = is_open (generic true shows f)
    by_type s false false false None shows f e t = is_open (unknown false shows e t)
    by_type s true false false None shows f e t = is_open (unknown true shows e t)
    by_type s false false false (Some (structure_type structure)) shows f e t = grind (arith, is_none, is_found, stands_for-first_ones)
    by_type s true false false (Some (structure_type structure)) shows f e t = is_none
    by_type s on false elementary o shows f e t = is_none

    by_shown : (s on : Bool) → Shows used s on → Looks used s m (member_among (shown on (fields_named names.fields name)) m)
    by_shown s on shows = grind (arith, named_known, by_type)

    by_form : (form : TypeForm) → used.form ≡ form → (s : Bool) → Looks used s m (member_among (fields_behind names.fields form name s) m)
    by_form forms.Plain is false = by_shown false false (plain is)
    by_form forms.Plain is true = by_shown true true (plain is)
    by_form forms.Sized is s = is_none
    by_form forms.Array is false = is_none
    by_form forms.Array is true = by_shown true false (element is)

    looks : (s : Bool) → Looks used s m (step names (Variable used s) m)
    looks s = by_form used.form refl s

  -- All further names

  stays : (t : Referent) (ms : List Member) → ((m : Member) → step names t m ≡ t) → walk names t ms ≡ t
  stays t [] same = refl
  stays t (m ∷ ms) same = ap (λ u. walk names u ms) (same m) ∙ stays t ms same

  step_known : (t : Referent) (m : Member) → is_known (step names t m) ≡ is_known t
  step_known t m = grind arith

  walk_known : (t : Referent) (ms : List Member) → is_known (walk names t ms) ≡ is_known t
  walk_known t [] = refl
  walk_known t (m ∷ ms) = walk_known (step names t m) ms ∙ step_known t m

  next_known : {used : TypeUse} {s : Bool} {v : DeclaredVariable} (m : Member) → Known used → HasField sources used s m.name.name v → Known v.type_use
  next_known {used = used} {v = v} m known h = field_known sources unit used.name.name h.structure m.name.name v known h.declared h.is_structure h.found

  told_goes : {used : TypeUse} {s : Bool} {ms : List Member} {last : TypeUse} {t : Bool} → Known used → GoesOn sources used s ms last t → walk names (Variable used s) ms ≡ Variable last t
  told_goes known at_end = refl
  told_goes {used = used} {s = s} known (through {m = m} {others = others} v has more) =
      ap (λ r. walk names r others) (told_field used s m v known has) ∙ told_goes (next_known m known has) more

  last_known : {used : TypeUse} {s : Bool} {ms : List Member} {last : TypeUse} {t : Bool} → Known used → GoesOn sources used s ms last t → Known last
  last_known known at_end = known
  last_known known (through {m = m} v has more) = last_known (next_known m known has) more

  goes : (used : TypeUse) (s : Bool) (ms : List Member) (last : TypeUse) (t : Bool) → Known used → walk names (Variable used s) ms ≡ Variable last t → GoesOn sources used s ms last t
  goes used s [] last t known e = grind (arith, at_end)
  goes used s (m ∷ ms) last t known e = by (looks used m known s) e (λ v has. goes v.type_use (is_some_count m.subscripts) ms last t (next_known m known has))
    where
      by : {r : Referent} → Looks used s m r → walk names r ms ≡ Variable last t → ((v : DeclaredVariable) → HasField sources used s m.name.name v → (walk names (Variable v.type_use (is_some_count m.subscripts)) ms ≡ Variable last t → GoesOn sources v.type_use (is_some_count m.subscripts) ms last t)) → GoesOn sources used s (m ∷ ms) last t
      by (is_open o) e more = cc (stays Unjudged ms (λ n. refl))
      by is_none e more = cc (stays (NoMember m.name.span) ms (λ n. refl))
      by (is_found v has) e more = through v has (more v has e)

  -- Where a reference begins

  port_told : (r : ReferenceTree) (i : DeclaredInstance) (m : Member) (behind : List Member) → IsAtPort d r i m behind → is_before_port names.scope r.name.name r.subscripts ≡ true
  port_told r i m behind at = grind arith

  -- a reference at a plug or a socket
  port_found : (r : ReferenceTree) (m : Member) (behind : List Member) → r.members ≡ m ∷ behind → is_before_port names.scope r.name.name r.subscripts ≡ true → (i : DeclaredInstance) × IsAtPort d r i m behind
  port_found r m behind second e = grind (arith, ltb-false)

  -- what a reference begins at, the names of that after the first one, and the further ones
  data Starts (r : ReferenceTree) : Referent → List Member → List Member → Type 0 where
    at_first : ((i : DeclaredInstance) (m : Member) (behind : List Member) → ¬ IsAtPort d r i m behind) → Starts r (variable_named names.scope r.name.name (is_some_count r.subscripts)) [] r.members
    at_second : (i : DeclaredInstance) (m : Member) (behind : List Member) → IsAtPort d r i m behind → Starts r (port_named names.scope r.name.name m) (m ∷ []) behind

  abbrev Start : ReferenceTree → Type 0
  Start r = (base : Referent) × (skipped : List Member) × (behind : List Member) × Starts r base skipped behind

  start : (r : ReferenceTree) → Start r
  start r = by r.members refl (is_before_port names.scope r.name.name r.subscripts) refl
    where
      by : (members : List Member) → r.members ≡ members → (b : Bool) → is_before_port names.scope r.name.name r.subscripts ≡ b → Start r
      by (m ∷ behind) second true e = let at = port_found r m behind second e in (_, _, behind, at_second at.0 m behind at.1)
      by members second b e = (_, _, _, at_first (λ i n others at. let p = port_told r i n others at in let q = at.second in cc))

  parts : {r : ReferenceTree} {base : Referent} {skipped behind : List Member} → Starts r base skipped behind → r.members ≡ skipped ++ behind
  parts {r} {base} {skipped} {behind} starts = grind arith

  -- after what it begins at a reference is walked through
  walked : {r : ReferenceTree} {base : Referent} {skipped behind : List Member} → Starts r base skipped behind → (before others : List Member) → behind ≡ before ++ others → referent_through names r (skipped ++ before) ≡ walk names base before
  walked (at_first none) [] others parted = refl
  walked {r = r} (at_first none) (m ∷ ms) others parted =
      ap (λ b. cond b (walk names (port_named names.scope r.name.name m) ms) (walk names (variable_named names.scope r.name.name (is_some_count r.subscripts)) (m ∷ ms)))
      (false_from_ne_true _ (λ e. let at = port_found r m (ms ++ others) parted e in none at.0 m (ms ++ others) at.1))
  walked {r = r} (at_second i m rest at) before others parted = grind (arith, port_told)

  whole : {r : ReferenceTree} {base : Referent} {skipped behind : List Member} → Starts r base skipped behind → referent_of names r ≡ walk names base behind
  whole {r = r} {behind = behind} starts = ap (referent_through names r) (parts starts) ∙ walked starts behind [] (sym (append-nil behind))

  base_known : {r : ReferenceTree} {base : Referent} {skipped behind : List Member} → Starts r base skipped behind → is_known (referent_of names r) ≡ is_known base
  base_known {base = base} {behind = behind} starts = ap is_known (whole starts) ∙ walk_known base behind

  -- the ports of an own plug or socket
  port_ports : (r : ReferenceTree) (i : DeclaredInstance) (m : Member) (behind : List Member) → IsAtPort d r i m behind → ports_of names.scope r.name.name ≡ usable i.role (tree_at sources i.type_name.name)
  port_ports r i m behind at = ap (option_and_then (instance_ports names.scope)) at.stands ∙ own_type sources d r.name.name i at.stands

  -- what a reference begins at
  data Base (r : ReferenceTree) (behind : List Member) : Referent → Type 0 where
    variable : {used : TypeUse} {s : Bool} → Begins sources d r used s behind → Base r behind (Variable used s)
    not_judged_port : IsOfNoAdapter sources d r → Base r behind Unjudged
    nothing : Base r behind Unknown

  module _ (r : ReferenceTree) (i : DeclaredInstance) (m : Member) (behind : List Member) (at : IsAtPort d r i m behind) where
    abbrev on : Bool
    on = is_some_count m.subscripts

    is_variable : (a : TypeTree) (v : DeclaredVariable) → tree_at sources i.type_name.name ≡ Some (adapter_type a) → stands_for (meanings_in_type a).variables m.name.name ≡ Some v → IsData v.section → port_named names.scope r.name.name m ≡ Variable v.type_use on
    is_variable a v is e data_port =
        ap (λ o. port_referent o m.name.name on) (port_ports r i m behind at ∙ adapter_used sources i at.adapter a is)
        ∙ ap (λ o. data_referent o on) e
        ∙ ap (λ b. cond b (Variable v.type_use on) Unknown) (data_section v.section data_port)

  base_of : {r : ReferenceTree} {base : Referent} {skipped behind : List Member} → Starts r base skipped behind → Base r behind base
  base_of {r = r} (at_first none) = grind (arith, variable, nothing, own)
  base_of {r = r} (at_second i m others at) =
      subst (λ (o : Option Meanings). Base r others (port_referent o m.name.name (is_some_count m.subscripts))) (sym (port_ports r i m others at)) (grind (arith, not_judged_port, adapter_used, adapter_found, known_type, variable, nothing, of_adapter))

  -- a reference that begins at a variable
  begun : {r : ReferenceTree} {used : TypeUse} {s : Bool} {behind : List Member} → Begins sources d r used s behind → (skipped : List Member) × Starts r (Variable used s) skipped behind
  begun {r = r} (own v e none) = ([], subst (λ (base : Referent). Starts r base [] r.members) (ap (λ o. own_referent o (is_some_count r.subscripts)) e) (at_first none))
  begun {r = r} (of_adapter {behind = behind} i m a v at is e data_port) =
      (m ∷ [], subst (λ (base : Referent). Starts r base (m ∷ []) behind) (is_variable r i m behind at a v is e data_port) (at_second i m behind at))

  begins_known : {r : ReferenceTree} {used : TypeUse} {s : Bool} {behind : List Member} → Begins sources d r used s behind → Known used
  begins_known {r} {used} {s} {behind} begins = grind (arith, own_known, of_adapter, data_known)

  -- References that begin at no variable

  pub none_begins : (r : ReferenceTree) → is_known (referent_of names r) ≡ false → (used : TypeUse) (s : Bool) (behind : List Member) → ¬ Begins sources d r used s behind
  none_begins r e used s behind n = true≢false (sym (base_known (begun n).1) ∙ e)

  pub is_judged : (r : ReferenceTree) → is_known (referent_of names r) ≡ false → ¬ IsOfNoAdapter sources d r
  is_judged r e n = grind (arith, port_ports, walk_known, adapter_found, known_type)

  pub is_unknown : (r : ReferenceTree) → ((used : TypeUse) (s : Bool) (behind : List Member) → ¬ Begins sources d r used s behind) → ¬ IsOfNoAdapter sources d r → is_known (referent_of names r) ≡ false
  is_unknown r none judged = base_known (start r).3 ∙ by (base_of (start r).3)
    where
      by : {base : Referent} {behind : List Member} → Base r behind base → is_known base ≡ false
      by (variable {used = used} {s = s} n) = absurd (none used s _ n)
      by (not_judged_port n) = absurd (judged n)
      by nothing = refl

  -- The type of a whole reference

  pub told_type_of : (r : ReferenceTree) (last : TypeUse) (t : Bool) → NamesType sources d r last t → referent_of names r ≡ Variable last t
  told_type_of r last t n = whole (begun n.begins).1 ∙ told_goes (begins_known n.begins) n.leads

  pub names_type : (r : ReferenceTree) (last : TypeUse) (t : Bool) → referent_of names r ≡ Variable last t → NamesType sources d r last t
  names_type r last t e = by (base_of (start r).3) (sym (whole (start r).3) ∙ e)
    where
      by : {base : Referent} {behind : List Member} → Base r behind base → walk names base behind ≡ Variable last t → NamesType sources d r last t
      by {behind = behind} (variable {used = used} {s = s} n) w =
          record { first = used; at_first = s; behind = behind; begins = n; leads = goes used s behind last t (begins_known n) w }
      by {behind = behind} (not_judged_port n) w = cc (stays Unjudged behind (λ m. refl))
      by {behind = behind} nothing w = cc (stays Unknown behind (λ m. refl))

  -- Further names that are no fields

  -- one further name after those before it
  next_name : {r : ReferenceTree} {base : Referent} {skipped behind : List Member} → Starts r base skipped behind → (before : List Member) (m : Member) (others : List Member) → behind ≡ before ++ m ∷ others → referent_through names r ((skipped ++ before) ++ m ∷ []) ≡ step names (walk names base before) m
  next_name {r = r} {base = base} {skipped = skipped} starts before m others parted =
      ap (referent_through names r) (append_assoc skipped before (m ∷ []))
      ∙ walked starts (before ++ m ∷ []) others (parted ∙ sym (append_assoc before (m ∷ []) others))
      ∙ walk-append names base before (m ∷ [])

  module _ (r : ReferenceTree) (subscripts : Expressions) (written : IsWrittenIn d (reference_expression r subscripts)) (m : Member) (others : List Member) where
    -- the type that the names before it lead to, where these are fields
    lost_behind : {base : Referent} {behind : List Member} → Base r behind base → (before : List Member) → behind ≡ before ++ m ∷ others → is_field (walk names base before) ≡ true → is_field (step names (walk names base before) m) ≡ false → HasUnknownMember sources unit m.name.span
    lost_behind (not_judged_port n) before parted is fails = absurd (true≢false (sym (ap (λ t. is_field (step names t m)) (stays Unjudged before (λ k. refl))) ∙ fails))
    lost_behind nothing before parted is fails = absurd (true≢false (sym (ap (λ t. is_field (step names t m)) (stays Unknown before (λ k. refl))) ∙ fails))
    lost_behind {behind = behind} (variable {used = first} {s = at_begin} n) before parted is fails = by (walk names (Variable first at_begin) before) refl is fails
      where
        by : (t : Referent) → walk names (Variable first at_begin) before ≡ t → is_field t ≡ true → is_field (step names t m) ≡ false → HasUnknownMember sources unit m.name.span
        by (Variable used on) w is fails =
            let leads = goes first at_begin before used on (begins_known n) w in
            let known = last_known (begins_known n) leads in
            let judged : ¬ IsOpen sources used on = λ o. true≢false (sym (ap is_field (told_open used on m known o)) ∙ fails) in
            let none : (v : DeclaredVariable) → ¬ HasField sources used on m.name.name v = λ v has. true≢false (sym (ap is_field (told_field used on m v known has)) ∙ fails) in
            search
        by t w is fails = cc

    lost_in : {base : Referent} {skipped behind : List Member} → Starts r base skipped behind → (before : List Member) → behind ≡ before ++ m ∷ others → is_field (referent_through names r (skipped ++ before)) ≡ true → is_field (referent_through names r ((skipped ++ before) ++ m ∷ [])) ≡ false → HasUnknownMember sources unit m.name.span
    lost_in {base} {skipped} {behind} starts before parted is fails = grind (arith, lost_behind, base_of, walked, next_name)

    pub lost : (before : List Member) → r.members ≡ before ++ m ∷ others → is_met names (names_field r before m) ≡ false → HasUnknownMember sources unit m.name.span
    lost before parted unmet =
        let told = or_parts (is_field (referent_through names r (before ++ m ∷ []))) (not (is_field (referent_through names r before))) unmet in
        by (start r).3 before parted (not-false _ told.1) told.0
      where
        by : {base : Referent} {skipped behind : List Member} → Starts r base skipped behind → (before : List Member) → r.members ≡ before ++ m ∷ others → is_field (referent_through names r before) ≡ true → is_field (referent_through names r (before ++ m ∷ [])) ≡ false → HasUnknownMember sources unit m.name.span
        by (at_first none) before parted is fails = lost_in (at_first none) before parted is fails
        by (at_second i p rest at) [] parted is fails =
            let starts : Starts r (port_named names.scope r.name.name m) (m ∷ []) others = at_second i m others (record { stands = at.stands; adapter = at.adapter; plain = at.plain; second = parted }) in
            absurd (true≢false (sym (grind arith) ∙ sym (ap is_field (walked starts [] others refl)) ∙ fails))
        by (at_second i p rest at) (b ∷ bs) parted is fails =
            lost_in (at_second i b (bs ++ m ∷ others) (record { stands = at.stands; adapter = at.adapter; plain = at.plain; second = parted })) bs refl is fails

  -- a name that is no field, if it is checked
  no_field : {used : TypeUse} {on : Bool} {m : Member} {t : Referent} → Looks used on m t → ¬ IsOpen sources used on → ((v : DeclaredVariable) → ¬ HasField sources used on m.name.name v) → is_field t ≡ false
  no_field (is_open o) judged none = absurd (judged o)
  no_field is_none judged none = refl
  no_field (is_found v has) judged none = absurd (none v has)

  -- the demand of that name is not met
  pub failing : (r : ReferenceTree) (before : List Member) (m : Member) (others : List Member) (used : TypeUse) (on : Bool) {first : TypeUse} {at_begin : Bool} {behind : List Member} → Begins sources d r first at_begin behind → behind ≡ before ++ m ∷ others → GoesOn sources first at_begin before used on → ¬ IsOpen sources used on → ((v : DeclaredVariable) → ¬ HasField sources used on m.name.name v) → (skipped : List Member) × (r.members ≡ (skipped ++ before) ++ m ∷ others) × (is_met names (names_field r (skipped ++ before) m) ≡ false)
  failing r before m others used on begins parted leads judged none =
      let starts = (begun begins).1 in
      let goes_there = told_goes (begins_known begins) leads in
      let at_before = walked starts before (m ∷ others) parted ∙ goes_there in
      let at_name = next_name starts before m others parted ∙ ap (λ t. step names t m) goes_there in
      let fails = ap is_field at_name ∙ no_field (looks used m (last_known (begins_known begins) leads) on) judged none in (
        (begun begins).0,
        parts starts ∙ ap (λ l. (begun begins).0 ++ l) parted ∙ sym (append_assoc (begun begins).0 before (m ∷ others)),
        (λ k. fails k || not (is_field (at_before k))),
      )
