-- The replies, as JSON. Members are in the order of their names' bytes.
use Rattle.std.specs.Prelude.{ℕ, [], ◌∷◌, ◌++◌, Bool, List, codes, map, true}
use Rattle.serde_json.specs.{Data.{Data, array, boolean, item, member, no_items, no_members, number, object, string, unsigned}, View.{items_of}, Written.{compact_text}}
use Rattle.fb_tree.specs.{declared.network.Sort.{Sort}, declared.network.Sort.TheVariants.{Adapter, Data as DataSort, Event as EventSort}}
use Rattle.fb_network.specs.{declared.flat.FlatBlock.{FlatBlock}, declared.flat.Link.{Link}, declared.flat.Border.{Border}, PlainFlat.{PlainFlat}}
use Rattle.fb_jobs.specs.{Iface.declared.fault.Fault.{Fault}, Iface.Code.{code_word}, Flatten.Net.{PlainNet, blocked, flat_net, recursive, too_large}}
use Rattle.fb_jobs.specs.{Placing.declared.homes.Misplaced.{Misplaced}, Placing.declared.homes.Misplaced.TheVariants.{NoSuchBlock, Unmapped}}
use Rattle.fb_jobs.specs.{Placing.PlainResource.{PlainResource}, Deploy.Deploy.{PlainDeploy, faulty, planned, stopped}, declared.keys.key.Key.{Key}, declared.keys.key.Kind.{Kind}}
use Rattle.fb_jobs.specs.{declared.keys.key.Kind.TheVariants.{Deploy, Faults, Net}, Keys.{DeployFound, FaultsFound, Finding, NetFound, NothingFound}}
use Rattle.fb_history.specs.{Machine.{Shown, Finds, Waits, Unknown}, declared.reading.Counts.{Counts}, declared.reading.Revision.{Revision}, Events.{Event, CommitMade, ValueCame}}
use Rattle.fb_history.specs.Reads.{Showing, StatusShown, UnitsShown, TextShown, NoUnit, EntryShown, EventsShown, EventsMissed}

abbrev pub count : ℕ → Data
count n = number (unsigned n)

abbrev pub one_member : List ℕ → Data → Data
one_member name d = object (member name d no_members)

abbrev pub two_members : List ℕ → Data → List ℕ → Data → Data
two_members name d other e = object (member name d (member other e no_members))

-- two texts
abbrev pub two : List ℕ → List ℕ → Data
two a b = array (item (string a) (item (string b) no_items))

-- three texts
abbrev pub three : List ℕ → List ℕ → List ℕ → Data
three a b c = array (item (string a) (item (string b) (item (string c) no_items)))

abbrev pub list_of : {X : Type 0} → (X → Data) → List X → Data
list_of said xs = array (items_of (map said xs))

abbrev pub refused : List ℕ → Data
refused reason = one_member (codes "refused") (string reason)

abbrev pub refused_unit : List ℕ → List ℕ → Data
refused_unit reason unit = two_members (codes "refused") (string reason) (codes "unit") (string unit)

abbrev pub committed : ℕ → Data
committed n = one_member (codes "commit") (count n)

abbrev pub refused_base : List ℕ → ℕ → Data
refused_base unit current =
    object (member (codes "current") (count current) (member (codes "refused") (string (codes "StaleBase")) (member (codes "unit") (string unit) no_members)))

abbrev pub kind_text : Kind → List ℕ
kind_text Faults = codes "faults"
kind_text Net = codes "net"
kind_text Deploy = codes "deploy"

abbrev pub job_given : ℕ → Key → Data
job_given place key =
    object (member (codes "job") (count place) (member (codes "kind") (string (kind_text key.kind)) (member (codes "unit") (string key.unit) no_members)))

abbrev pub no_job : Data
no_job = one_member (codes "job") (count 0)

abbrev pub delivered : Data
delivered = one_member (codes "delivered") (string (codes "accepted"))

-- of a give_back
abbrev pub returned : Bool → Data
returned was_out = one_member (codes "returned") (boolean was_out)

abbrev pub fault_item : Fault → Data
fault_item f = array (item (string (code_word f.code)) (item (count f.span.start) (item (count f.span.end) no_items)))

abbrev pub sort_text : Sort → List ℕ
sort_text EventSort = codes "event"
sort_text DataSort = codes "data"
sort_text Adapter = codes "adapter"

abbrev pub block_item : FlatBlock → Data
block_item block = two block.path block.type_name

abbrev pub border_item : Border → Data
border_item border = three (sort_text border.sort) border.port border.place

abbrev pub link_item : Link → Data
link_item link = three (sort_text link.sort) link.from link.to

abbrev pub flat_said : PlainFlat → Data
flat_said flat =
    object
    (member (codes "blocks") (list_of block_item flat.blocks)
    (member (codes "borders") (list_of border_item flat.borders) (member (codes "links") (list_of link_item flat.links) no_members)))

abbrev pub net_said : PlainNet → Data
net_said (blocked names) = one_member (codes "blocked") (list_of string names)
net_said (recursive names) = one_member (codes "recursive") (list_of string names)
net_said too_large = string (codes "too_large")
net_said (flat_net flat) = flat_said flat

abbrev pub misplaced_item : Misplaced → Data
misplaced_item (Unmapped path) = two (codes "UNMAPPED") path
misplaced_item (NoSuchBlock path) = two (codes "NO_SUCH_BLOCK") path

abbrev pub resource_item : PlainResource → Data
resource_item resource = array (item (string resource.name) (item (list_of string resource.commands) no_items))

abbrev pub plan_said : List Link → List PlainResource → Data
plan_said cuts resources = two_members (codes "cuts") (list_of link_item cuts) (codes "resources") (list_of resource_item resources)

abbrev pub deploy_said : PlainDeploy → Data
deploy_said (stopped net) = one_member (codes "stopped") (net_said net)
deploy_said (faulty found) = one_member (codes "faulty") (list_of misplaced_item found)
deploy_said (planned cuts resources) = plan_said cuts resources

abbrev pub value_said : Finding → Data
value_said (FaultsFound faults) = one_member (codes "faults") (list_of fault_item faults)
value_said (NetFound net) = one_member (codes "net") (net_said net)
value_said (DeployFound plan) = one_member (codes "deploy") (deploy_said plan)
-- no entry holds this
value_said NothingFound = refused (codes "NoSuchKey")

abbrev pub pending_said : Data
pending_said = one_member (codes "answer") (string (codes "pending"))

abbrev pub work_done : ℕ → Data
work_done so_far = one_member (codes "accepted") (count so_far)

abbrev pub work_refused : ℕ → List ℕ → Data
work_refused so_far reason = two_members (codes "accepted") (count so_far) (codes "refused") (string reason)

-- with the number of all calls so far
abbrev pub checkpointed : ℕ → Data
checkpointed n = one_member (codes "checkpoint") (count n)

abbrev pub status_said : Counts → List ℕ → Data
status_said it workbench =
    one_member (codes "status")
    (object
    (member (codes "calls") (count it.calls)
    (member (codes "commits") (count it.commits)
    (member (codes "keys") (count it.keys)
    (member (codes "pending") (count it.pending)
    (member (codes "session") (count it.session) (member (codes "units") (count it.units) (member (codes "workbench") (string workbench) no_members))))))))

abbrev pub revision_said : Revision → Data
revision_said it = array (item (string it.unit) (item (count it.number) no_items))

-- a list, with the number of a call
abbrev pub page : ℕ → List ℕ → Data → Data
page at name items = two_members (codes "at") (count at) name items

abbrev pub text_said : ℕ → ℕ → List ℕ → Data
text_said at base text = object (member (codes "at") (count at) (member (codes "base") (count base) (member (codes "text") (string text) no_members)))

abbrev pub commit_told : ℕ → ℕ → List (List ℕ) → List (List ℕ) → Data
commit_told commit caller put removed =
    array (item (string (codes "commit")) (item (count commit) (item (count caller) (item (list_of string put) (item (list_of string removed) no_items)))))

abbrev pub event_said : Event → Data
event_said (CommitMade commit caller put removed) = commit_told commit caller put removed
event_said (ValueCame key) = three (codes "value") (kind_text key.kind) key.unit

abbrev pub missed_said : ℕ → Data
missed_said at = two_members (codes "at") (count at) (codes "missed") (boolean true)

-- as the reply to a recorded question
abbrev pub entry_said : Shown → Data
entry_said (Finds finding) = value_said finding
entry_said Waits = pending_said
entry_said Unknown = refused (codes "NoSuchKey")

abbrev pub showing_said : Showing → Data
showing_said (StatusShown counts workbench) = status_said counts workbench
showing_said (UnitsShown at units) = page at (codes "units") (list_of revision_said units)
showing_said (TextShown at base text) = text_said at base text
showing_said (NoUnit unit) = refused_unit (codes "NoSuchUnit") unit
showing_said (EntryShown shown) = entry_said shown
showing_said (EventsShown at events) = page at (codes "events") (list_of event_said events)
showing_said (EventsMissed at) = missed_said at

-- the line of a reply, with its line feed
abbrev pub reply_line : Data → List ℕ
reply_line d = compact_text d ++ 10 ∷ []
