-- What threads share at the entrance of a host may cross threads.
use denote.Param.Send.{IsSend, IsSync, sendable}
use Rattle.std.proofs.Crossing.{crosses}
use Rattle.fb_wire.specs.contracts.run_error.RunError as RunError
use Rattle.fb_admission.specs.contracts.connection.Connection as Connection
use Rattle.fb_admission.specs.contracts.connection_queue.QueueState as QueueState
use Rattle.fb_admission.specs.contracts.connection_queue.ConnectionQueue as ConnectionQueue
use Rattle.fb_admission.specs.contracts.notices.Counts as Counts
use Rattle.fb_admission.specs.contracts.notices.Notice as Notice
use Rattle.fb_admission.specs.contracts.notices.NoticeState as NoticeState
use Rattle.fb_admission.specs.contracts.notices.Notices as Notices
use Rattle.fb_admission.specs.contracts.admission.EntranceConfig as EntranceConfig
use Rattle.fb_admission.specs.contracts.admission.Entrance as Entrance

connection_field_send : IsSend (Connection.the_field).row
connection_field_send = search (crosses, sendable) depth 60 fits 20000

connection_send : IsSend Connection.the_row
connection_send = search (connection_field_send, crosses, sendable) depth 60 fits 20000

queue_state_field_send : IsSend (QueueState.the_field).row
queue_state_field_send = search (connection_send, crosses, sendable) depth 60 fits 20000

queue_state_send : IsSend QueueState.the_row
queue_state_send = search (queue_state_field_send, crosses, sendable) depth 60 fits 20000

queue_field_sync : IsSync (ConnectionQueue.the_field).row
queue_field_sync = search (queue_state_send, crosses, sendable) depth 60 fits 20000

error_field_send : IsSend (RunError.the_field).row
error_field_send = search (crosses, sendable) depth 60 fits 20000

counts_field_send : IsSend (Counts.the_field).row
counts_field_send = search (crosses, sendable) depth 60 fits 20000

counts_send : IsSend Counts.the_row
counts_send = search (counts_field_send, crosses, sendable) depth 60 fits 20000

notice_field_send : IsSend (Notice.the_field).row
notice_field_send = search (error_field_send, counts_send, crosses, sendable) depth 60 fits 20000

notice_send : IsSend Notice.the_row
notice_send = search (notice_field_send, crosses, sendable) depth 60 fits 20000

notice_state_field_send : IsSend (NoticeState.the_field).row
notice_state_field_send = search (notice_send, counts_send, crosses, sendable) depth 60 fits 20000

notice_state_send : IsSend NoticeState.the_row
notice_state_send = search (notice_state_field_send, crosses, sendable) depth 60 fits 20000

notices_field_sync : IsSync (Notices.the_field).row
notices_field_sync = search (notice_state_send, crosses, sendable) depth 60 fits 20000

config_field_sync : IsSync (EntranceConfig.the_field).row
config_field_sync = search (crosses, sendable) depth 60 fits 20000

pub entrance_field_sync : IsSync (Entrance.the_field).row
entrance_field_sync = search (queue_field_sync, notices_field_sync, config_field_sync, crosses, sendable) depth 60 fits 20000
