-- The forms of events and variables.
use Rattle.std.specs.Prelude.{List, Option}
use Rattle.fb_tree.specs.{Text.declared.name.NameUse.{NameUse}, Tree.{EventTree, VariablesTree, ConstantTree}, declared.interface.Side.{Side}}
use Rattle.fb_tree.specs.declared.interface.Section.{Section}
use Rattle.fb_grammar.specs.declared.kind.Kind.TheVariants.{EventInput, EventOutput, EndEvent, VarInput, VarOutput, Var, EndVar, Struct, EndStruct, With, Colon, Semicolon, Assign}
use Rattle.fb_grammar.specs.{Form.{Form, both, either, option, as_value}, Words.{key, before, behind, optional_list, name, names}}
use Rattle.fb_tree.specs.declared.interface.Side.TheVariants as side
use Rattle.fb_tree.specs.declared.interface.Section.TheVariants as where_declared
use Rattle.fb_sections.specs.{Constants.{type_use, constant}, Sections.{optional_name, section}}

-- ['WITH' name {',' name}]
unfoldable pub with_names : Form (List NameUse)
with_names = optional_list (behind (key With) names)

-- name [':' name] ['WITH' name {',' name}] ';'
unfoldable pub event : Side → Form EventTree
event s =
    as_value (λ v. record { side = s; name = v.0; type_name = v.1.0; with = v.1.1 })
    (both name (both (optional_name Colon) (before with_names (key Semicolon))))

-- ('EVENT_INPUT' | 'EVENT_OUTPUT') {event} 'END_EVENT'
unfoldable pub events : Form (List EventTree)
events = either (section EventInput (event side.Input) EndEvent) (section EventOutput (event side.Output) EndEvent)

-- [':=' constant]
unfoldable pub initial : Form (Option ConstantTree)
initial = option (behind (key Assign) constant)

-- name {',' name} ':' type [':=' constant] ';'
unfoldable pub variables : Section → Form VariablesTree
variables s =
    as_value (λ v. record { section = s; names = v.0; type_use = v.1.0; initial = v.1.1 })
    (both names (behind (key Colon) (both type_use (before initial (key Semicolon)))))

-- ('VAR_INPUT' | 'VAR_OUTPUT') {vardecl} 'END_VAR'
unfoldable pub data_variables : Form (List VariablesTree)
data_variables = either (section VarInput (variables where_declared.Input) EndVar) (section VarOutput (variables where_declared.Output) EndVar)

-- 'VAR' {vardecl} 'END_VAR'
unfoldable pub internal_variables : Form (List VariablesTree)
internal_variables = section Var (variables where_declared.Internal) EndVar

-- 'STRUCT' {vardecl} 'END_STRUCT'
unfoldable pub fields : Form (List VariablesTree)
fields = section Struct (variables where_declared.Field) EndStruct
