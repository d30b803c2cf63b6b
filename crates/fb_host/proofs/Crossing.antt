-- What threads of a host share and leave may cross threads.
use denote.Param.Send.{IsSend, IsSync, sendable}
use Rattle.std.proofs.Crossing.{crosses}
use Rattle.fb_shared.proofs.Crossing.{receipt_send, shared_field_sync}
use Rattle.fb_admission.proofs.Crossing.{entrance_field_sync}
use Rattle.fb_serve.specs.contracts.caller_state.Held as Held
use Rattle.fb_host.specs.contracts.leases.Lease as Lease
use Rattle.fb_host.specs.contracts.leases.LeaseState as LeaseState
use Rattle.fb_host.specs.contracts.leases.Leases as Leases
use Rattle.fb_host.specs.contracts.receipt_store.EpochReceipts as EpochReceipts
use Rattle.fb_host.specs.contracts.receipt_store.ReceiptStore as ReceiptStore
use Rattle.fb_host.specs.contracts.pace.RecentCommits as RecentCommits
use Rattle.fb_host.specs.contracts.pace.CommitTable as CommitTable
use Rattle.fb_host.specs.contracts.pace.LastRelease as LastRelease
use Rattle.fb_host.specs.contracts.pace.Pace as Pace
use Rattle.fb_host.specs.contracts.hosting.HostConfig as HostConfig
use Rattle.fb_host.specs.contracts.threads.HostState as HostState

epoch_receipts_field_send : IsSend (EpochReceipts.the_field).row
epoch_receipts_field_send = search (receipt_send, crosses, sendable) depth 60 fits 20000

epoch_receipts_send : IsSend EpochReceipts.the_row
epoch_receipts_send = search (epoch_receipts_field_send, crosses, sendable) depth 60 fits 20000

receipt_store_field_sync : IsSync (ReceiptStore.the_field).row
receipt_store_field_sync = search (epoch_receipts_send, crosses, sendable) depth 60 fits 20000

held_field_send : IsSend (Held.the_field).row
held_field_send = search (crosses, sendable) depth 60 fits 20000

held_send : IsSend Held.the_row
held_send = search (held_field_send, crosses, sendable) depth 60 fits 20000

lease_field_send : IsSend (Lease.the_field).row
lease_field_send = search (held_send, crosses, sendable) depth 60 fits 20000

lease_send : IsSend Lease.the_row
lease_send = search (lease_field_send, crosses, sendable) depth 60 fits 20000

lease_state_field_send : IsSend (LeaseState.the_field).row
lease_state_field_send = search (lease_send, crosses, sendable) depth 60 fits 20000

lease_state_send : IsSend LeaseState.the_row
lease_state_send = search (lease_state_field_send, crosses, sendable) depth 60 fits 20000

leases_field_sync : IsSync (Leases.the_field).row
leases_field_sync = search (lease_state_send, crosses, sendable) depth 60 fits 20000

recent_commits_field_send : IsSend (RecentCommits.the_field).row
recent_commits_field_send = search (crosses, sendable) depth 60 fits 20000

recent_commits_send : IsSend RecentCommits.the_row
recent_commits_send = search (recent_commits_field_send, crosses, sendable) depth 60 fits 20000

commit_table_field_send : IsSend (CommitTable.the_field).row
commit_table_field_send = search (recent_commits_send, crosses, sendable) depth 60 fits 20000

commit_table_send : IsSend CommitTable.the_row
commit_table_send = search (commit_table_field_send, crosses, sendable) depth 60 fits 20000

last_release_field_send : IsSend (LastRelease.the_field).row
last_release_field_send = search (crosses, sendable) depth 60 fits 20000

last_release_send : IsSend LastRelease.the_row
last_release_send = search (last_release_field_send, crosses, sendable) depth 60 fits 20000

pace_field_sync : IsSync (Pace.the_field).row
pace_field_sync = search (commit_table_send, last_release_send, crosses, sendable) depth 60 fits 20000

pub receipt_store_sync : IsSync ReceiptStore.the_row
receipt_store_sync = search (receipt_store_field_sync, crosses, sendable) depth 60 fits 20000

pub pace_sync : IsSync Pace.the_row
pace_sync = search (pace_field_sync, crosses, sendable) depth 60 fits 20000

config_field_sync : IsSync (HostConfig.the_field).row
config_field_sync = search (crosses, sendable) depth 60 fits 20000

host_state_field_sync : IsSync (HostState.the_field).row
host_state_field_sync = search (shared_field_sync, receipt_store_field_sync, leases_field_sync, entrance_field_sync, pace_field_sync, config_field_sync, crosses, sendable) depth 60 fits 20000

pub host_state_sync : IsSync HostState.the_row
host_state_sync = search (host_state_field_sync, crosses, sendable) depth 60 fits 20000
