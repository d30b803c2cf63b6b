-- The forms of instances and connections.
use Rattle.std.specs.Prelude.{List, []}
use Rattle.fb_grammar.specs.declared.kind.Kind.TheVariants.{Plugs, EndPlugs, Sockets, EndSockets, Fbs, EndFbs, Subapps, EndSubapps, EventConnections, DataConnections, AdapterConnections, EndConnections, To, Colon, Semicolon, Point, Assign, OpenParenthesis, CloseParenthesis}
use Rattle.fb_grammar.specs.{Form.{Form, both, either, as_value}, Words.{key, before, behind, optional_list, list, name}}
use Rattle.fb_tree.specs.{Tree.{ParameterTree, InstanceTree}, declared.network.Connection.{Connection}, declared.network.End.{End}}
use Rattle.fb_tree.specs.{declared.network.Role.{Role}, declared.network.Sort.{Sort}}
use Rattle.fb_tree.specs.declared.network.Role.TheVariants as role
use Rattle.fb_tree.specs.declared.network.Sort.TheVariants as sort
use Rattle.fb_sections.specs.{Constants.{constant}, Sections.{optional_name, section}}

-- name ':=' constant
unfoldable pub parameter : Form ParameterTree
parameter = as_value (λ v. record { name = v.0; value = v.1 }) (both name (behind (key Assign) constant))

-- [param {',' param}]
unfoldable pub listed_parameters : Form (List ParameterTree)
listed_parameters = optional_list (list parameter)

-- '(' [param {',' param}] ')'
unfoldable pub parameters : Form (List ParameterTree)
parameters = behind (key OpenParenthesis) (before listed_parameters (key CloseParenthesis))

-- ['(' [param {',' param}] ')']
unfoldable pub optional_parameters : Form (List ParameterTree)
optional_parameters = optional_list parameters

-- name ':' name [params] ';'
unfoldable pub instance : Role → Form InstanceTree
instance r =
    as_value (λ v. record { role = r; name = v.0; type_name = v.1.0; parameters = v.1.1 })
    (both name (behind (key Colon) (both name (before optional_parameters (key Semicolon)))))

-- 'PLUGS' {inst} 'END_PLUGS'
unfoldable pub plugs : Form (List InstanceTree)
plugs = section Plugs (instance role.Plug) EndPlugs

-- 'SOCKETS' {inst} 'END_SOCKETS'
unfoldable pub sockets : Form (List InstanceTree)
sockets = section Sockets (instance role.Socket) EndSockets

-- 'FBS' {inst} 'END_FBS'
unfoldable pub blocks : Form (List InstanceTree)
blocks = section Fbs (instance role.Block) EndFbs

-- name ':' name ';'
unfoldable pub inner_subapplication : Form InstanceTree
inner_subapplication =
    as_value (λ v. record { role = role.Subapplication; name = v.0; type_name = v.1; parameters = [] })
    (both name (behind (key Colon) (before name (key Semicolon))))

-- 'SUBAPPS' {name ':' name ';'} 'END_SUBAPPS'
unfoldable pub subapplications : Form (List InstanceTree)
subapplications = section Subapps inner_subapplication EndSubapps

-- name ['.' name]
unfoldable pub end : Form End
end = as_value (λ v. record { name = v.0; port = v.1 }) (both name (optional_name Point))

-- end 'TO' end ';'
unfoldable pub connection : Sort → Form Connection
connection s = as_value (λ v. record { sort = s; source = v.0; destination = v.1 }) (both end (behind (key To) (before end (key Semicolon))))

-- ('EVENT_CONNECTIONS' | 'DATA_CONNECTIONS' | 'ADAPTER_CONNECTIONS') {end 'TO' end ';'} 'END_CONNECTIONS'
unfoldable pub connections : Form (List Connection)
connections =
    either (section EventConnections (connection sort.Event) EndConnections)
    (either (section DataConnections (connection sort.Data) EndConnections)
    (section AdapterConnections (connection sort.Adapter) EndConnections))
