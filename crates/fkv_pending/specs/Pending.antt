-- What changes of a request that waits, and what stands for one where there is none.
use Rattle.std.specs.Prelude.{Bool, false, Option, None, ◌==◌, ◌&&◌, not}
use Rattle.fkv_base.specs.declared.numbers.Addr.{Addr}
use Rattle.fkv_base.specs.declared.numbers.Version.{Version}
use Rattle.fkv_ops.specs.declared.answers.DiskRecord.{DiskRecord}
use Rattle.fkv_ops.specs.declared.requests.HeldRecord.{HeldRecord}
use Rattle.fkv_ops.specs.Resting.{no_request}
use Rattle.fkv_ops.specs.Requests.{is_read}
use Rattle.fkv_pending.specs.declared.pending_requests.PendingRequest.{PendingRequest}
use Rattle.fkv_pending.specs.declared.pending_requests.RequestName.TheVariants.{Read}

-- what a machine at rest has in place of a request that waits
abbrev pub no_pending : PendingRequest
no_pending = record { name = Read (record { 0 = 1 }); request = no_request; sought = None; has_asked = false }

-- it awaits another record of the device
unfoldable pub with_sought : PendingRequest → Option DiskRecord → PendingRequest
with_sought pending sought = record pending { sought = sought }

-- it holds another record
unfoldable pub with_held : PendingRequest → Option HeldRecord → PendingRequest
with_held pending held = record pending { request = record pending.request { held = held } }

-- What it sought lay below this begin of the log, and is gone. It drops what it held too, goes by that begin from then on, and is tried from its entry again.
unfoldable pub without_gone : PendingRequest → Addr → PendingRequest
without_gone pending begin = record pending { request = record pending.request { held = None; floor = begin }; sought = None }

-- it shares the latch of its bucket, or no more
unfoldable pub with_latch : PendingRequest → Bool → PendingRequest
with_latch pending has_latch = record pending { request = record pending.request { has_latch = has_latch } }

-- its address is in the mailbox, or no more
unfoldable pub with_asked : PendingRequest → Bool → PendingRequest
with_asked pending has_asked = record pending { has_asked = has_asked }

-- an update that doesn't share the latch of its bucket
abbrev pub is_unlatched : PendingRequest → Bool
is_unlatched pending = not (is_read pending.request.op) && not pending.request.has_latch

-- an update of this version
abbrev pub is_update_of : Version → PendingRequest → Bool
is_update_of version pending = not (is_read pending.request.op) && pending.request.version.0 == version.0
