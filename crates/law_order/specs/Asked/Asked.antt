-- What a session's requests have asked for in its mailbox, by what has come to pass there.
use Rattle.std.specs.Prelude.{◌≡◌, ⊤, true, List, [], ◌∷◌, Option, Some, None}
use Rattle.fkv_base.specs.declared.numbers.Addr.{Addr}
use Rattle.law_commit.specs.Below.fkv_ops.DiskRecord.{DiskRecord}
use Rattle.law_commit.specs.Below.fkv_pending.TheAttempting.{Attempting}
use Rattle.law_commit.specs.Below.fkv_pending.TheAttempting.TheVariants.{Looks, Puts}
use Rattle.law_commit.specs.Below.fkv_pending.MailTask.{MailTask}
use Rattle.law_commit.specs.Below.fkv_pending.MailTask.TheVariants.{Put}
use Rattle.law_commit.specs.Below.fkv_pending.TheMailing.TheVariants.{StoresAsked}
use Rattle.law_commit.specs.Below.fkv_pending.PendingRequest.{PendingRequest}
use Rattle.law_commit.specs.Below.fkv_pending.Attempting.{AttemptState}
use Rattle.law_commit.specs.Below.fkv_pending.Mailbox.{MailNote, HasAskedFor, WasServed, HasTaken, HasLetGo}
use Rattle.law_commit.specs.Below.fkv_session.Sessions.{SessionState}
use Rattle.law_commit.specs.Below.law_local.Sessions.Known.{KnowsRequests}

-- the address of the record that is asked for, unless it was taken or let go since
unfoldable pub outstanding : List MailNote → Option Addr
outstanding [] = None
outstanding (HasAskedFor addr ∷ before) = Some addr
outstanding (WasServed addr its ∷ before) = outstanding before
outstanding (HasTaken its ∷ before) = None
outstanding (HasLetGo ∷ before) = None

-- an attempt that looks into the mailbox looks for what was asked for
abbrev pub LooksForAsked : List MailNote → AttemptState → Attempting → Type 0
LooksForAsked notes a Looks = (it : DiskRecord) → a.pending.sought ≡ Some it → outstanding notes ≡ Some it.addr
LooksForAsked notes a step = ⊤

-- one that is about to say that it asks has put the address there that it seeks
abbrev pub AsksForSought : Option MailTask → AttemptState → Attempting → Type 0
AsksForSought task a Puts = a.mailing ≡ StoresAsked → (it : DiskRecord) → a.pending.sought ≡ Some it → task ≡ Some (Put it.addr)
AsksForSought task a step = ⊤

-- the record that is sought is the one that is asked for
pub record IsSoughtAsked (asked : Option Addr) (sought : Option DiskRecord) : Type 0 where
  pub it : DiskRecord
  pub seeks : sought ≡ Some it
  pub asks : asked ≡ Some it.addr

-- so it is of a request that has asked
abbrev pub HasAskedSought : Option Addr → PendingRequest → Type 0
HasAskedSought asked pending = pending.has_asked ≡ true → IsSoughtAsked asked pending.sought

-- of each that waits, and of the one that is attempted
abbrev pub HaveAskedSought : List MailNote → SessionState → Type 0
HaveAskedSought notes s = KnowsRequests (HasAskedSought (outstanding notes)) (λ a. HasAskedSought (outstanding notes) a.pending) s
