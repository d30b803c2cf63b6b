-- Each code of expressions and statements in other words: where the list of faults has it.
use Rattle.fb_laws.specs.Common.{NameUse, Span, ReferenceTree, alone_tree, Expression, reference_expression, unary_expression, row_expression, Expressions, Operands, Statement, assignment, count, Statements, TypeTree, BinaryUse, UnaryUse, TypeUse, Member, Sources, class_of_type, stands_for, meanings_in_type, Class, MemberUnknown, VariableUnknown, DeclaredVariable, ClassPlace, Condition, Count, Counter}
use Rattle.std.specs.Prelude.{◌≡◌, ℕ, Bool, List, ◌∷◌, ◌++◌, Option, Some}
use Rattle.fb_laws.specs.{Classes.{Changes, Combines, Fits, HasClass, IsPairIn, Joins}, Occurrences.{Asks, IsOneOf, IsRunIn, IsTestedIn, IsWrittenIn}, Declared.{IsBlockAt}}
use Rattle.fb_laws.specs.{Places.{BeginsAt, StandsAt}, UnitParts.{IsReportedWhere}, Variables.{Begins, GoesOn, HasField, IsOfNoAdapter, IsOpen}}
use Rattle.fb_deploy.specs.Iface.declared.classes.Class.{Class as ValueClass}
use Rattle.fb_laws.specs.UnitParts as parts

-- a reference in the guards and the algorithms of a type, or the name after FOR in an algorithm
pub data IsNamedIn (d : TypeTree) : ReferenceTree → Type 0 where
  in_reference : (r : ReferenceTree) (subscripts : Expressions)
      → IsWrittenIn d (reference_expression r subscripts) → IsNamedIn d r
  behind_for : (name : NameUse) (from to : Expression) (by : Option Expression) (body : Statements)
      → IsRunIn d (count name from to by body) → IsNamedIn d (alone_tree name)

-- a reference, or a name after FOR, that begins at no variable; data of own plugs and sockets whose type is not usable are not checked
pub record HasUnknownVariable (sources : Sources) (unit : List ℕ) (span : Span) : Type 0 where
  pub block : TypeTree
  pub declared : IsBlockAt sources unit block
  pub reference : ReferenceTree
  pub named : IsNamedIn block reference
  pub unknown : (used : TypeUse) (subscripted : Bool) (behind : List Member)
      → ¬ Begins sources block reference used subscripted behind
  pub judged : ¬ IsOfNoAdapter sources block reference
  pub place : BeginsAt reference span

-- A further name of a reference that is no field of the type before it, unless `IsOpen` leaves it unchecked. The further names before it are fields, so
-- no name after it is reported.
pub record HasUnknownMember (sources : Sources) (unit : List ℕ) (span : Span) : Type 0 where
  pub block : TypeTree
  pub declared : IsBlockAt sources unit block
  pub reference : ReferenceTree
  pub subscripts : Expressions
  pub written : IsWrittenIn block (reference_expression reference subscripts)
  pub first : TypeUse
  pub at_first : Bool
  pub behind : List Member
  pub begins : Begins sources block reference first at_first behind
  pub before : List Member
  pub member : Member
  pub others : List Member
  pub parted : behind ≡ before ++ member ∷ others
  pub used : TypeUse
  pub subscripted : Bool
  pub leads : GoesOn sources first at_first before used subscripted
  pub judged : ¬ IsOpen sources used subscripted
  pub none : (v : DeclaredVariable) → ¬ HasField sources used subscripted member.name.name v
  pub place : span ≡ member.name.span

-- A rule of classes that is broken in the type, with the place of its fault: at an operator before an operand that it has no rule for; at one
-- between operands that don't join, or whose join it has no rule for; at a subscript, a guard, or an expression in a statement that doesn't fit its
-- place; at the variable of a FOR that is no whole number; and at the `:=` of an assignment whose sides don't join.
pub data BreaksRule (sources : Sources) (d : TypeTree) : Span → Type 0 where
  at_operator : (used : UnaryUse) (x : Expression) (c : ValueClass)
      → IsWrittenIn d (unary_expression used x) → HasClass sources d x c
      → ((g : ValueClass) → ¬ Changes used.operator c g) → BreaksRule sources d used.span
  between_operands : (first : Expression) (row : Operands) (start : ValueClass) (used : BinaryUse)
      (before : ValueClass) (x : Expression) (c : ValueClass)
      → IsWrittenIn d (row_expression first row) → HasClass sources d first start
      → IsPairIn sources d used before x start row → HasClass sources d x c
      → ((g : ValueClass) → ¬ Combines used.operator before c g) → BreaksRule sources d used.span
  at_subscript : {span : Span} (r : ReferenceTree) (subscripts : Expressions) (x : Expression) (c : ValueClass)
      → IsWrittenIn d (reference_expression r subscripts) → IsOneOf x subscripts
      → HasClass sources d x c → ¬ Fits Count c → StandsAt x span → BreaksRule sources d span
  at_guard : {span : Span} (x : Expression) (c : ValueClass) → IsTestedIn d x
      → HasClass sources d x c → ¬ Fits Condition c → StandsAt x span → BreaksRule sources d span
  in_statement : {span : Span} (s : Statement) (place : ClassPlace) (x : Expression) (c : ValueClass)
      → IsRunIn d s → Asks s place x → HasClass sources d x c → ¬ Fits place c → StandsAt x span
      → BreaksRule sources d span
  at_counter : (name : NameUse) (from to : Expression) (by : Option Expression) (body : Statements) (v : DeclaredVariable)
      → IsRunIn d (count name from to by body) → stands_for (meanings_in_type d).variables name.name ≡ Some v
      → ¬ Fits Counter (class_of_type v.type_use) → BreaksRule sources d name.span
  at_assignment : (r : ReferenceTree) (subscripts : Expressions) (place : Span) (e : Expression) (a b : ValueClass)
      → IsRunIn d (assignment r subscripts place e)
      → HasClass sources d (reference_expression r subscripts) a → HasClass sources d e b
      → ((c : ValueClass) → ¬ Joins a b c) → BreaksRule sources d place

-- a rule of classes that is broken
pub record HasBrokenRule (sources : Sources) (unit : List ℕ) (span : Span) : Type 0 where
  pub block : TypeTree
  pub declared : IsBlockAt sources unit block
  pub breaks : BreaksRule sources block span

abbrev pub VariablesAreKnown : Type 0
VariablesAreKnown = IsReportedWhere parts.Expressions VariableUnknown HasUnknownVariable

abbrev pub MembersAreKnown : Type 0
MembersAreKnown = IsReportedWhere parts.Expressions MemberUnknown HasUnknownMember

abbrev pub ClassesAreRight : Type 0
ClassesAreRight = IsReportedWhere parts.Expressions Class HasBrokenRule

-- each expression has exactly one class in a block type
abbrev pub ExpressionsHaveOneClass : Type 0
ExpressionsHaveOneClass = (sources : Sources) (unit : List ℕ) (d : TypeTree) → IsBlockAt sources unit d → (e : Expression)
    → (c : ValueClass) × HasClass sources d e c × ((other : ValueClass) → HasClass sources d e other → other ≡ c)
