-- The forms of states and their actions.
use Rattle.std.specs.Prelude.{List, Some, None}
use Rattle.fb_grammar.specs.{declared.kind.Kind.TheVariants.{EcStates, EndStates, Arrow, Colon, Semicolon}, Form.{Form, both, either, option, as_value}}
use Rattle.fb_grammar.specs.Words.{key, before, behind, optional_list, list, name}
use Rattle.fb_tree.specs.{Tree.{StateTree}, declared.chart.Action.{Action}, declared.network.End.{End}}
use Rattle.fb_sections.specs.{Network.{end}, Sections.{section}}

-- '->' end
unfoldable pub sent_event : Form End
sent_event = behind (key Arrow) end

-- name ['->' end] | '->' end
unfoldable pub action : Form Action
action =
    either (as_value (λ v. record { algorithm = Some v.0; event = v.1 }) (both name (option sent_event)))
    (as_value (λ e. record { algorithm = None; event = Some e }) sent_event)

-- [':' action {',' action}]
unfoldable pub actions : Form (List Action)
actions = optional_list (behind (key Colon) (list action))

-- name [':' action {',' action}] ';'
unfoldable pub state : Form StateTree
state = as_value (λ v. record { name = v.0; actions = v.1 }) (both name (before actions (key Semicolon)))

-- 'EC_STATES' {name [':' action {',' action}] ';'} 'END_STATES'
unfoldable pub states : Form (List StateTree)
states = section EcStates state EndStates
