-- What references stand for with more and more further names, and which of their names is no field.
use Rattle.std.proofs.Common.{◌≡◌, ℕ, Bool, true, false, true≢false, cond, List, [], ◌∷◌, ◌++◌, Option, Some, None, refl, sym, ap, subst, ◌∙◌}
use Rattle.fb_tree.specs.{Text.declared.token.Span.{Span}, Expression.{ReferenceTree}, declared.reference.Member.{Member}}
use Rattle.fb_iface.specs.{Fields.{Fields, NotChecked, NoFields, HasFields}, Names.{stands_for}, Ports.{Meanings}, Scope.{ports_of}}
use Rattle.fb_iface.specs.Ports.{DeclaredVariable}
use Rattle.fb_expr.specs.{Demands.{is_field, referent_through}, Names.{Names}}
use Rattle.fb_expr.specs.References.{data_referent, field_referent, fields_behind, is_before_port, is_data, is_some_count, member_among, own_referent, port_named, port_referent, step, variable_named, walk}
use Rattle.fb_expr.specs.{declared.references.Referent.{Referent}, declared.references.Referent.TheVariants.{Variable, Unjudged, Unknown, NoMember}}

-- whether these end at a name that is no field, and the one before did
pub data Next (before through : Referent) (m : Member) : Type 0 where
  goes_on : is_field before ≡ true → is_field through ≡ true → Next before through m
  fails : is_field before ≡ true → through ≡ NoMember m.name.span → Next before through m
  failed : is_field before ≡ false → is_field through ≡ false → Next before through m

pub own_field : (o : Option DeclaredVariable) (subscripted : Bool) → is_field (own_referent o subscripted) ≡ true
own_field None subscripted = refl
own_field (Some variable) subscripted = refl

data_field : (o : Option DeclaredVariable) (subscripted : Bool) → is_field (data_referent o subscripted) ≡ true
data_field None subscripted = refl
data_field (Some variable) subscripted = by (is_data variable.section)
  where
    by : (data_port : Bool) → is_field (cond data_port (Variable variable.type_use subscripted) Unknown) ≡ true
    by true = refl
    by false = refl

port_field : (o : Option Meanings) (name : List ℕ) (subscripted : Bool) → is_field (port_referent o name subscripted) ≡ true
port_field None name subscripted = refl
port_field (Some ports) name subscripted = data_field (stands_for ports.variables name) subscripted

found_next : (used : Referent) → is_field used ≡ true → (o : Option DeclaredVariable) (m : Member) → Next used (field_referent o m) m
found_next used is None m = fails is refl
found_next used is (Some field) m = goes_on is refl

among_next : (used : Referent) → is_field used ≡ true → (fields : Fields) (m : Member) → Next used (member_among fields m) m
among_next used is NotChecked m = goes_on is refl
among_next used is NoFields m = fails is refl
among_next used is (HasFields found) m = found_next used is (stands_for found m.name.name) m

module _ (names : Names) where
  step_next : (t : Referent) (m : Member) → Next t (step names t m) m
  step_next (Variable used subscripted) m = among_next (Variable used subscripted) refl (fields_behind names.fields used.form used.name.name subscripted) m
  step_next Unjudged m = goes_on refl refl
  step_next Unknown m = goes_on refl refl
  step_next (NoMember at) m = failed refl refl

  pub walk-append : (base : Referent) (xs ys : List Member) → walk names base (xs ++ ys) ≡ walk names (walk names base xs) ys
  walk-append base [] ys = refl
  walk-append base (x ∷ xs) ys = walk-append (step names base x) xs ys

  walk_stays : (at : Span) (ms : List Member) → walk names (NoMember at) ms ≡ NoMember at
  walk_stays at [] = refl
  walk_stays at (m ∷ ms) = walk_stays at ms

  module _ (r : ReferenceTree) where
    abbrev through : List Member → Referent
    through members = referent_through names r members

    abbrev port : Member → Referent
    port m = port_named names.scope r.name.name m

    abbrev variable : Referent
    variable = variable_named names.scope r.name.name (is_some_count r.subscripts)

    -- behind at least one further name all others are walked through
    pub onward : (b : Member) (bs ms : List Member) → through ((b ∷ bs) ++ ms) ≡ walk names (through (b ∷ bs)) ms
    onward b bs ms = by (is_before_port names.scope r.name.name r.subscripts)
      where
        by : (at_port : Bool) → cond at_port (walk names (port b) (bs ++ ms)) (walk names variable (b ∷ (bs ++ ms))) ≡ walk names (cond at_port (walk names (port b) bs) (walk names variable (b ∷ bs))) ms
        by true = walk-append (port b) bs ms
        by false = walk-append (step names variable b) bs ms

    pub next : (before : List Member) (m : Member) → Next (through before) (through (before ++ m ∷ [])) m
    next [] m = by (is_before_port names.scope r.name.name r.subscripts)
      where
        first : is_field variable ≡ true
        first = own_field (stands_for names.scope.own.variables r.name.name) (is_some_count r.subscripts)

        by : (at_port : Bool) → Next variable (cond at_port (port m) (step names variable m)) m
        by true = goes_on first (port_field (ports_of names.scope r.name.name) m.name.name (is_some_count m.subscripts))
        by false = step_next variable m
    next (b ∷ bs) m = subst (λ (t : Referent). Next (through (b ∷ bs)) t m) (sym (onward b bs (m ∷ []))) (step_next (through (b ∷ bs)) m)

    pub stays : (before : List Member) (ms : List Member) (at : Span) → through before ≡ NoMember at → through (before ++ ms) ≡ NoMember at
    stays [] ms at is = absurd (true≢false (sym (own_field (stands_for names.scope.own.variables r.name.name) (is_some_count r.subscripts)) ∙ ap is_field is))
    stays (b ∷ bs) ms at is = onward b bs ms ∙ ap (λ t. walk names t ms) is ∙ walk_stays at ms
