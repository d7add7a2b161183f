-- A read that has asked seeks a record of the device.
use Rattle.std.specs.Prelude.{◌≡◌, ⊤, true}
use Rattle.std.specs.Option.{is_some}
use Rattle.law_commit.specs.Below.fkv_ops.Requests.{is_read}
use Rattle.law_commit.specs.Below.fkv_pending.TheAttempting.{Attempting}
use Rattle.law_commit.specs.Below.fkv_pending.TheAttempting.TheVariants.{Puts}
use Rattle.law_commit.specs.Below.fkv_pending.PendingRequest.{PendingRequest}
use Rattle.law_commit.specs.Below.fkv_pending.Attempting.{AttemptState}
use Rattle.law_commit.specs.Below.fkv_session.Sessions.{SessionState}
use Rattle.law_commit.specs.Below.law_local.Sessions.Known.{KnowsRequests}

-- a request that waits does
abbrev pub SeeksWhereAsked : PendingRequest → Type 0
SeeksWhereAsked pending = is_read pending.request.op ≡ true → pending.has_asked ≡ true → is_some pending.sought ≡ true

-- while an attempt puts an address into the mailbox, its request seeks a record, whether it is a read's or an update's
abbrev pub SeeksAt : AttemptState → Attempting → Type 0
SeeksAt a Puts = is_some a.pending.sought ≡ true
SeeksAt a step = ⊤

pub record AttemptSeeks (a : AttemptState) : Type 0 where
  pub pending : SeeksWhereAsked a.pending
  pub step : SeeksAt a a.step

-- so it is with all requests of a session
abbrev pub AllSeek : SessionState → Type 0
AllSeek s = KnowsRequests SeeksWhereAsked AttemptSeeks s
