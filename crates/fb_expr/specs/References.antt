-- What references mean (IEC 61499-1, 5.2.2: algorithms; 5.5: adapters).
use Rattle.std.specs.Prelude.{ℕ, nat_lt, Bool, true, false, not, ◌&&◌, List, [], ◌∷◌, Option, Some, None, if◌then◌else◌}
use Rattle.fb_tree.specs.{Text.declared.token.Span.{Span}, declared.interface.Section.{Section}, declared.interface.TypeForm.{TypeForm}}
use Rattle.fb_tree.specs.{declared.interface.TypeUse.{TypeUse}, declared.network.Role.{Role}, declared.reference.Member.{Member}, Expression.{ReferenceTree}}
use Rattle.fb_tree.specs.declared.interface.Section.TheVariants as sections
use Rattle.fb_tree.specs.declared.interface.TypeForm.TheVariants as forms
use Rattle.fb_tree.specs.declared.network.Role.TheVariants as roles
use Rattle.fb_iface.specs.{Class.{class_of_name, class_of_type, is_free}, Fields.{Fields, NotChecked, NoFields, HasFields}, Names.{stands_for}, Ports.{Meanings}}
use Rattle.fb_iface.specs.{Scope.{Scope, ports_of}, declared.classes.Class.{Class}, declared.classes.Class.TheVariants.{O, Free}}
use Rattle.fb_iface.specs.{declared.code.Code.TheVariants.{MemberUnknown, VariableUnknown}, declared.fault.Fault.{Fault}}
use Rattle.fb_iface.specs.Ports.{DeclaredInstance, DeclaredVariable}
use Rattle.fb_expr.specs.{Names.{Names}, declared.references.Referent.{Referent}}
use Rattle.fb_expr.specs.declared.references.Referent.TheVariants.{Variable, Unjudged, Unknown, NoMember}

-- whether there are subscripts
abbrev pub is_some_count : ℕ → Bool
is_some_count count = nat_lt 0 count

-- a variable of the unit: input, output or internal
abbrev pub own_referent : Option DeclaredVariable → Bool → Referent
own_referent None subscripted = Unknown
own_referent (Some variable) subscripted = Variable variable.type_use subscripted

-- whether it is a data input or a data output
abbrev pub is_data : Section → Bool
is_data sections.Input = true
is_data sections.Output = true
is_data sections.Internal = false
is_data sections.Field = false

-- a data input or a data output of an adapter type
abbrev pub data_referent : Option DeclaredVariable → Bool → Referent
data_referent None subscripted = Unknown
data_referent (Some variable) subscripted = if is_data variable.section then Variable variable.type_use subscripted else Unknown

-- what a name means at a plug or a socket, by the ports of its type; it is not checked if the type is not usable
abbrev pub port_referent : Option Meanings → List ℕ → Bool → Referent
port_referent None name subscripted = Unjudged
port_referent (Some ports) name subscripted = data_referent (stands_for ports.variables name) subscripted

abbrev pub is_adapter : Role → Bool
is_adapter roles.Plug = true
is_adapter roles.Socket = true
is_adapter roles.Block = false
is_adapter roles.Subapplication = false

-- whether a name means a plug or a socket
abbrev pub is_at_adapter : Option DeclaredInstance → Bool
is_at_adapter None = false
is_at_adapter (Some instance) = is_adapter instance.role

-- `X` is a variable of the unit
abbrev pub variable_named : Scope → List ℕ → Bool → Referent
variable_named scope name subscripted = own_referent (stands_for scope.own.variables name) subscripted

-- `p.X` is data of the type of a plug or socket p of the unit
abbrev pub port_named : Scope → List ℕ → Member → Referent
port_named scope name m = port_referent (ports_of scope name) m.name.name (is_some_count m.subscripts)

-- the fields after a plain type of this name; after a type of class Free no name is checked
abbrev pub fields_named : (List ℕ → Fields) → List ℕ → Fields
fields_named fields name = if is_free (class_of_name name) then NotChecked else fields name

-- the fields after a subscript on what is no array: none, if names are checked there
abbrev pub unless_judged : Fields → Fields
unless_judged NotChecked = NotChecked
unless_judged NoFields = NoFields
unless_judged (HasFields found) = NoFields

-- the fields after a type of this form and name, without or with a subscript
abbrev pub fields_behind : (List ℕ → Fields) → TypeForm → List ℕ → Bool → Fields
fields_behind fields forms.Plain name false = fields_named fields name
fields_behind fields forms.Plain name true = unless_judged (fields_named fields name)
fields_behind fields forms.Sized name subscripted = NoFields
fields_behind fields forms.Array name false = NoFields
fields_behind fields forms.Array name true = fields_named fields name

-- a field of a structure
abbrev pub field_referent : Option DeclaredVariable → Member → Referent
field_referent None m = NoMember m.name.span
field_referent (Some field) m = Variable field.type_use (is_some_count m.subscripts)

abbrev pub member_among : Fields → Member → Referent
member_among NotChecked m = Unjudged
member_among NoFields m = NoMember m.name.span
member_among (HasFields found) m = field_referent (stands_for found m.name.name) m

-- one further name; after one that is unknown or not checked none is checked
abbrev pub step : Names → Referent → Member → Referent
step names (Variable used subscripted) m = member_among (fields_behind names.fields used.form used.name.name subscripted) m
step names Unjudged m = Unjudged
step names Unknown m = Unknown
step names (NoMember span) m = NoMember span

-- all further names
abbrev pub walk : Names → Referent → List Member → Referent
walk names base [] = base
walk names base (m ∷ ms) = walk names (step names base m) ms

-- whether a name, with this number of subscripts after it and a further name after these, is that of a plug or socket of the unit
abbrev pub is_before_port : Scope → List ℕ → ℕ → Bool
is_before_port scope name count = not (is_some_count count) && is_at_adapter (stands_for scope.own.instances name)

-- What a name means with this number of subscripts and these further names after it. If the second name directly follows that of a plug or socket, both
-- name data of its type; otherwise the first name means a variable of the unit.
abbrev pub referent_from : Names → List ℕ → ℕ → List Member → Referent
referent_from names name count [] = variable_named names.scope name (is_some_count count)
referent_from names name count (m ∷ ms) =
    if is_before_port names.scope name count
    then walk names (port_named names.scope name m) ms
    else walk names (variable_named names.scope name (is_some_count count)) (m ∷ ms)

-- what a reference means
abbrev pub referent_of : Names → ReferenceTree → Referent
referent_of names r = referent_from names r.name.name r.subscripts r.members

-- the class with a subscript: that of the elements of an array; a type that is no array has the class O
abbrev pub class_of_element : TypeForm → List ℕ → Class
class_of_element forms.Plain name = O
class_of_element forms.Sized name = O
class_of_element forms.Array name = class_of_name name

-- the class of a variable of this type, without or with subscripts
abbrev pub class_with : TypeUse → Bool → Class
class_with used false = class_of_type used
class_with used true = class_of_element used.form used.name.name

-- the class of a reference; one that is unknown or not checked meets every rule
abbrev pub class_of_referent : Referent → Class
class_of_referent (Variable used subscripted) = class_with used subscripted
class_of_referent Unjudged = Free
class_of_referent Unknown = Free
class_of_referent (NoMember span) = Free

-- the fault of a name that is no variable, or of a further name that is no field
abbrev pub reference_faults : Referent → Span → List Fault
reference_faults (Variable used subscripted) span = []
reference_faults Unjudged span = []
reference_faults Unknown span = record { code = VariableUnknown; span = span } ∷ []
reference_faults (NoMember at) span = record { code = MemberUnknown; span = at } ∷ []
