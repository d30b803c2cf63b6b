-- What the sections of a declaration hold, joined in the order of the text.
use Rattle.std.specs.Prelude.{Bool, true, false, ◌||◌, List, [], ◌∷◌, ◌++◌}
use Rattle.fb_tree.specs.Tree.{EventTree, VariablesTree, InterfaceTree, InstanceTree, NetworkTree, StateTree, TransitionTree, AlgorithmTree, ChartTree, interface_tree, network_tree, chart_tree}
use Rattle.fb_tree.specs.declared.network.Connection.{Connection}
use Rattle.fb_parse.specs.declared.contents.Contents.{Contents}

pub record ContentsTree : Type 0 where
  pub interface : InterfaceTree
  pub network : NetworkTree
  pub chart : ChartTree

abbrev pub contents_tree : Contents → ContentsTree
contents_tree c = record { interface = interface_tree c.interface; network = network_tree c.network; chart = chart_tree c.chart }

abbrev pub no_interface : InterfaceTree
no_interface = record { events = []; variables = [] }

abbrev pub no_network : NetworkTree
no_network = record { instances = []; connections = []; is_written = false }

abbrev pub no_chart : ChartTree
no_chart = record { states = []; transitions = []; algorithms = []; is_written = false }

abbrev pub nothing : ContentsTree
nothing = record { interface = no_interface; network = no_network; chart = no_chart }

abbrev pub with_interface : List EventTree → List VariablesTree → ContentsTree
with_interface events variables = record { interface = record { events = events; variables = variables }; network = no_network; chart = no_chart }

abbrev pub with_network : List InstanceTree → List Connection → Bool → ContentsTree
with_network instances connections is_written = record { interface = no_interface; network = record { instances = instances; connections = connections; is_written = is_written }; chart = no_chart }

abbrev pub with_chart : List StateTree → List TransitionTree → List AlgorithmTree → Bool → ContentsTree
with_chart states transitions algorithms is_written = record { interface = no_interface; network = no_network; chart = record { states = states; transitions = transitions; algorithms = algorithms; is_written = is_written } }

-- what each kind of section holds

abbrev pub of_events : List EventTree → ContentsTree
of_events events = with_interface events []

abbrev pub of_variables : List VariablesTree → ContentsTree
of_variables variables = with_interface [] variables

-- plugs or sockets
abbrev pub of_adapters : List InstanceTree → ContentsTree
of_adapters instances = with_network instances [] false

-- block or subapplication instances
abbrev pub of_instances : List InstanceTree → ContentsTree
of_instances instances = with_network instances [] true

abbrev pub of_connections : List Connection → ContentsTree
of_connections connections = with_network [] connections true

abbrev pub of_states : List StateTree → ContentsTree
of_states states = with_chart states [] [] true

abbrev pub of_transitions : List TransitionTree → ContentsTree
of_transitions transitions = with_chart [] transitions [] false

abbrev pub of_algorithm : AlgorithmTree → ContentsTree
of_algorithm algorithm = with_chart [] [] (algorithm ∷ []) false

-- what one section holds, and then what others hold

abbrev pub interfaces_merged : InterfaceTree → InterfaceTree → InterfaceTree
interfaces_merged a b = record { events = a.events ++ b.events; variables = a.variables ++ b.variables }

abbrev pub networks_merged : NetworkTree → NetworkTree → NetworkTree
networks_merged a b = record { instances = a.instances ++ b.instances; connections = a.connections ++ b.connections; is_written = a.is_written || b.is_written }

abbrev pub charts_merged : ChartTree → ChartTree → ChartTree
charts_merged a b = record { states = a.states ++ b.states; transitions = a.transitions ++ b.transitions; algorithms = a.algorithms ++ b.algorithms; is_written = a.is_written || b.is_written }

abbrev pub merged : ContentsTree → ContentsTree → ContentsTree
merged a b = record { interface = interfaces_merged a.interface b.interface; network = networks_merged a.network b.network; chart = charts_merged a.chart b.chart }

-- what all sections hold, in the order of the text
abbrev pub joined : List ContentsTree → ContentsTree
joined [] = nothing
joined (section ∷ others) = merged section (joined others)
