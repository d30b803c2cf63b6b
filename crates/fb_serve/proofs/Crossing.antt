-- What threads of a server are given and leave may cross threads.
use denote.Param.Send.{IsSend, IsSync, sendable}
use Rattle.std.proofs.Crossing.{crosses}
use Rattle.fb_shared.proofs.Crossing.{receipt_send, seat_send}
use Rattle.crossbeam_channel.specs.contracts.channel.Sender as Sender
use Rattle.std.specs.contracts.net.tcp.TcpListener as TcpListener
use Rattle.std.specs.contracts.net.tcp.TcpStream as TcpStream
use Rattle.std.specs.contracts.alloc.Global as Heap
use Rattle.std.specs.contracts.impls.GlobalAllocator.TheImpl.{ghosts}
use Rattle.fb_serve.specs.contracts.callers.NewSeat as NewSeat
use Rattle.fb_serve.specs.contracts.callers.ThreadResult as ThreadResult
use Rattle.fb_serve.specs.contracts.callers.Results as Results
use Rattle.fb_serve.specs.contracts.callers.SessionError as SessionError
use Rattle.fb_serve.specs.contracts.caller_state.Held as Held
use Rattle.fb_serve.specs.contracts.caller_state.CallerState as CallerState
use Rattle.fb_wire.specs.contracts.run_error.RunError as RunError

pub new_seat_field_send : IsSend (NewSeat.the_field).row
new_seat_field_send = search (seat_send, crosses, sendable) depth 60 fits 20000

pub new_seat_send : IsSend NewSeat.the_row
new_seat_send = search (new_seat_field_send, crosses, sendable) depth 60 fits 20000

pub left_field_send : IsSend (ThreadResult.the_field).row
left_field_send = search (seat_send, receipt_send, crosses, sendable) depth 60 fits 20000

pub left_send : IsSend ThreadResult.the_row
left_send = search (left_field_send, crosses, sendable) depth 60 fits 20000

results_field_send : IsSend (Results.the_field).row
results_field_send = search (seat_send, receipt_send, crosses, sendable) depth 60 fits 20000

pub results_send : IsSend Results.the_row
results_send = search (results_field_send, crosses, sendable) depth 60 fits 20000

held_field_send : IsSend (Held.the_field).row
held_field_send = search (crosses, sendable) depth 60 fits 20000

held_send : IsSend Held.the_row
held_send = search (held_field_send, crosses, sendable) depth 60 fits 20000

caller_state_field_send : IsSend (CallerState.the_field).row
caller_state_field_send = search (seat_send, receipt_send, held_send, crosses, sendable) depth 60 fits 20000

pub caller_state_send : IsSend CallerState.the_row
caller_state_send = search (caller_state_field_send, crosses, sendable) depth 60 fits 20000

fault_field_send : IsSend (RunError.the_field).row
fault_field_send = search (crosses, sendable) depth 60 fits 20000

pub session_fault_field_send : IsSend (SessionError.the_field).row
session_fault_field_send = search (fault_field_send, crosses, sendable) depth 60 fits 20000

pub session_fault_send : IsSend SessionError.the_row
session_fault_send = search (session_fault_field_send, crosses, sendable) depth 60 fits 20000

pub sender_sync : IsSync (Sender.the_row SessionError.the_row Heap.the_row ghosts)
sender_sync = search (session_fault_send, crosses, sendable) depth 60 fits 20000

pub sender_send : IsSend (Sender.the_row SessionError.the_row Heap.the_row ghosts)
sender_send = search (session_fault_send, crosses, sendable) depth 60 fits 20000

pub listener_sync : IsSync TcpListener.the_row
listener_sync = search (crosses, sendable) depth 60 fits 20000

pub stream_send : IsSend TcpStream.the_row
stream_send = search (crosses, sendable) depth 60 fits 20000
