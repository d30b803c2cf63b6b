-- Which types of a workbench may cross threads, each from those inside it, so that no search is long.
use denote.Param.Send.{IsSend, IsSync, sendable}
use Rattle.std.proofs.Crossing.{crosses}
use Rattle.std.proofs.MapsCrossing as maps
use Rattle.fb_tree.proofs.expression.Expr.TheLaws.TheKnot as expressions
use Rattle.fb_tree.proofs.statement.Stmt.TheLaws.TheKnot as statements
use Rattle.fb_tree.specs.contracts.interface.Interface as Interface
use Rattle.fb_tree.specs.contracts.network.Parameter as Parameter
use Rattle.fb_tree.specs.contracts.network.Network as Network
use Rattle.fb_tree.specs.contracts.system.Device as Device
use Rattle.fb_tree.specs.contracts.system.System as System
use Rattle.fb_tree.specs.contracts.expression.Expr as Expr
use Rattle.fb_tree.specs.contracts.statement.Stmt as Stmt
use Rattle.fb_tree.specs.contracts.chart.Algorithm as Algorithm
use Rattle.fb_tree.specs.contracts.chart.Chart as Chart
use Rattle.fb_tree.specs.contracts.structure.Structure as Structure
use Rattle.fb_tree.specs.contracts.declaration.TypeDeclaration as TypeDeclaration
use Rattle.fb_tree.specs.contracts.declaration.Decl as Decl
use Rattle.fb_locked.specs.Parse.contracts.body.Body as Body
use Rattle.fb_locked.specs.Parse.contracts.source.Source as Source
use Rattle.fb_locked.specs.Parse.contracts.source.TextWithMentions as TextWithMentions
use Rattle.fb_types.specs.Network.contracts.flat.Flat as Flat
use Rattle.fb_types.specs.contracts.nets.Net as Net
use Rattle.fb_locked.specs.Deploy.contracts.planning.Deploy as Deploy
use Rattle.fb_locked.specs.Jobs.contracts.values.value.Value as Value
use Rattle.fb_locked.specs.Jobs.contracts.keys.read.Read as Read
use Rattle.fb_locked.specs.Jobs.contracts.keys.inputs.Inputs as Inputs
use Rattle.fb_locked.specs.Jobs.contracts.values.derivation.Derivation as Derivation
use Rattle.fb_locked.specs.History.contracts.record.Reply as Reply
use Rattle.fb_locked.specs.History.contracts.record.Record as Record
use Rattle.fb_locked.specs.contracts.seat.Receipt as Receipt
use Rattle.fb_locked.specs.contracts.seat.Seat as Seat
use Rattle.fb_locked.specs.Library.contracts.filed.Filed as Filed
use Rattle.fb_locked.specs.Library.contracts.filed.Version as Version
use Rattle.fb_locked.specs.Library.contracts.library.Library as Library
use Rattle.fb_locked.specs.Index.contracts.name_set.NameSet as NameSet
use Rattle.fb_locked.specs.Index.contracts.users.Users as Users
use Rattle.fb_locked.specs.Index.contracts.tables.Tables as Tables
use Rattle.fb_locked.specs.Index.contracts.index.Index as Index
use Rattle.fb_locked.specs.History.contracts.start.Start as Start
use Rattle.fb_locked.specs.Bench.contracts.bench.Bench as Bench
use Rattle.fb_locked.specs.contracts.locked.Locked as Locked
use Rattle.fb_shared.specs.contracts.shared.Shared as Shared

ruleset below = (crosses, maps.crosses, sendable)

interface_field_send : IsSend (Interface.the_field).row
interface_field_send = search below depth 60 fits 20000

interface_field_sync : IsSync (Interface.the_field).row
interface_field_sync = search below depth 60 fits 20000

parameter_field_send : IsSend (Parameter.the_field).row
parameter_field_send = search below depth 60 fits 20000

parameter_field_sync : IsSync (Parameter.the_field).row
parameter_field_sync = search below depth 60 fits 20000

network_field_send : IsSend (Network.the_field).row
network_field_send = search (parameter_field_send, below) depth 60 fits 20000

network_field_sync : IsSync (Network.the_field).row
network_field_sync = search (parameter_field_sync, below) depth 60 fits 20000

device_field_send : IsSend (Device.the_field).row
device_field_send = search (parameter_field_send, below) depth 60 fits 20000

device_field_sync : IsSync (Device.the_field).row
device_field_sync = search (parameter_field_sync, below) depth 60 fits 20000

system_field_send : IsSend (System.the_field).row
system_field_send = search (network_field_send, device_field_send, below) depth 60 fits 20000

system_field_sync : IsSync (System.the_field).row
system_field_sync = search (network_field_sync, device_field_sync, below) depth 60 fits 20000

expr_field_send : IsSend (Expr.the_field).row
expr_field_send = search (expressions.crosses, below) depth 60 fits 20000

expr_field_sync : IsSync (Expr.the_field).row
expr_field_sync = search (expressions.crosses, below) depth 60 fits 20000

stmt_field_send : IsSend (Stmt.the_field).row
stmt_field_send = search (expr_field_send, expressions.crosses, statements.crosses, below) depth 60 fits 20000

stmt_field_sync : IsSync (Stmt.the_field).row
stmt_field_sync = search (expr_field_sync, expressions.crosses, statements.crosses, below) depth 60 fits 20000

algorithm_field_send : IsSend (Algorithm.the_field).row
algorithm_field_send = search (stmt_field_send, below) depth 60 fits 20000

algorithm_field_sync : IsSync (Algorithm.the_field).row
algorithm_field_sync = search (stmt_field_sync, below) depth 60 fits 20000

chart_field_send : IsSend (Chart.the_field).row
chart_field_send = search (expr_field_send, algorithm_field_send, below) depth 60 fits 20000

chart_field_sync : IsSync (Chart.the_field).row
chart_field_sync = search (expr_field_sync, algorithm_field_sync, below) depth 60 fits 20000

typedeclaration_field_send : IsSend (TypeDeclaration.the_field).row
typedeclaration_field_send = search (interface_field_send, network_field_send, chart_field_send, below) depth 60 fits 20000

typedeclaration_field_sync : IsSync (TypeDeclaration.the_field).row
typedeclaration_field_sync = search (interface_field_sync, network_field_sync, chart_field_sync, below) depth 60 fits 20000

structure_field_send : IsSend (Structure.the_field).row
structure_field_send = search below depth 60 fits 20000

structure_field_sync : IsSync (Structure.the_field).row
structure_field_sync = search below depth 60 fits 20000

decl_field_send : IsSend (Decl.the_field).row
decl_field_send = search (typedeclaration_field_send, system_field_send, structure_field_send, below) depth 60 fits 20000

decl_field_sync : IsSync (Decl.the_field).row
decl_field_sync = search (typedeclaration_field_sync, system_field_sync, structure_field_sync, below) depth 60 fits 20000

body_field_send : IsSend (Body.the_field).row
body_field_send = search (decl_field_send, below) depth 60 fits 20000

body_field_sync : IsSync (Body.the_field).row
body_field_sync = search (decl_field_sync, below) depth 60 fits 20000

text_field_send : IsSend (TextWithMentions.the_field).row
text_field_send = search below depth 60 fits 20000

text_field_sync : IsSync (TextWithMentions.the_field).row
text_field_sync = search below depth 60 fits 20000

version_field_send : IsSend (Version.the_field).row
version_field_send = search (text_field_send, text_field_sync, below) depth 60 fits 20000

version_field_sync : IsSync (Version.the_field).row
version_field_sync = search (text_field_send, text_field_sync, below) depth 60 fits 20000

source_field_send : IsSend (Source.the_field).row
source_field_send = search (body_field_send, text_field_send, text_field_sync, below) depth 60 fits 20000

source_field_sync : IsSync (Source.the_field).row
source_field_sync = search (body_field_sync, text_field_send, text_field_sync, below) depth 60 fits 20000

flat_field_send : IsSend (Flat.the_field).row
flat_field_send = search below depth 60 fits 20000

flat_field_sync : IsSync (Flat.the_field).row
flat_field_sync = search below depth 60 fits 20000

net_field_send : IsSend (Net.the_field).row
net_field_send = search (flat_field_send, below) depth 60 fits 20000

net_field_sync : IsSync (Net.the_field).row
net_field_sync = search (flat_field_sync, below) depth 60 fits 20000

deploy_field_send : IsSend (Deploy.the_field).row
deploy_field_send = search (net_field_send, below) depth 60 fits 20000

deploy_field_sync : IsSync (Deploy.the_field).row
deploy_field_sync = search (net_field_sync, below) depth 60 fits 20000

value_field_send : IsSend (Value.the_field).row
value_field_send = search (net_field_send, deploy_field_send, below) depth 60 fits 20000

value_field_sync : IsSync (Value.the_field).row
value_field_sync = search (net_field_sync, deploy_field_sync, below) depth 60 fits 20000

read_field_send : IsSend (Read.the_field).row
read_field_send = search (source_field_send, source_field_sync, below) depth 60 fits 20000

read_field_sync : IsSync (Read.the_field).row
read_field_sync = search (source_field_send, source_field_sync, below) depth 60 fits 20000

inputs_field_send : IsSend (Inputs.the_field).row
inputs_field_send = search (read_field_send, version_field_send, version_field_sync, below) depth 60 fits 20000

inputs_field_sync : IsSync (Inputs.the_field).row
inputs_field_sync = search (read_field_sync, version_field_send, version_field_sync, below) depth 60 fits 20000

derivation_field_send : IsSend (Derivation.the_field).row
derivation_field_send = search (value_field_send, value_field_sync, version_field_send, version_field_sync, inputs_field_send, inputs_field_sync, below) depth 60 fits 20000

reply_field_send : IsSend (Reply.the_field).row
reply_field_send = search (value_field_send, value_field_sync, version_field_send, version_field_sync, below) depth 60 fits 20000

reply_field_sync : IsSync (Reply.the_field).row
reply_field_sync = search (value_field_send, value_field_sync, version_field_send, version_field_sync, below) depth 60 fits 20000

record_field_send : IsSend (Record.the_field).row
record_field_send = search (reply_field_send, version_field_send, version_field_sync, below) depth 60 fits 20000

record_field_sync : IsSync (Record.the_field).row
record_field_sync = search (reply_field_sync, version_field_send, version_field_sync, below) depth 60 fits 20000

receipt_field_send : IsSend (Receipt.the_field).row
receipt_field_send = search (record_field_send, record_field_sync, below) depth 60 fits 20000

pub receipt_send : IsSend Receipt.the_row
receipt_send = search (receipt_field_send, below) depth 60 fits 20000

pub seat_send : IsSend Seat.the_row
seat_send = search below depth 60 fits 20000

filed_field_send : IsSend (Filed.the_field).row
filed_field_send = search (source_field_send, source_field_sync, version_field_send, version_field_sync, below) depth 60 fits 20000

filed_field_sync : IsSync (Filed.the_field).row
filed_field_sync = search (source_field_send, source_field_sync, version_field_send, version_field_sync, below) depth 60 fits 20000

library_field_send : IsSend (Library.the_field).row
library_field_send = search (filed_field_send, filed_field_sync, below) depth 60 fits 20000

name_set_field_send : IsSend (NameSet.the_field).row
name_set_field_send = search below depth 60 fits 20000

name_set_field_sync : IsSync (NameSet.the_field).row
name_set_field_sync = search below depth 60 fits 20000

users_field_send : IsSend (Users.the_field).row
users_field_send = search (name_set_field_send, name_set_field_sync, below) depth 60 fits 20000

tables_field_send : IsSend (Tables.the_field).row
tables_field_send = search (users_field_send, below) depth 60 fits 20000

index_field_send : IsSend (Index.the_field).row
index_field_send = search (tables_field_send, below) depth 60 fits 20000

start_field_send : IsSend (Start.the_field).row
start_field_send = search (library_field_send, below) depth 60 fits 20000

bench_field_send : IsSend (Bench.the_field).row
bench_field_send = search (start_field_send, index_field_send, library_field_send, record_field_send, record_field_sync, value_field_send, value_field_sync, derivation_field_send, below) depth 60 fits 20000

locked_field_send : IsSend (Locked.the_field).row
locked_field_send = search (bench_field_send, record_field_send, record_field_sync, below) depth 60 fits 20000

pub shared_field_sync : IsSync (Shared.the_field).row
shared_field_sync = search (locked_field_send, below) depth 60 fits 20000

pub shared_sync : IsSync Shared.the_row
shared_sync = search (shared_field_sync, below) depth 60 fits 20000
