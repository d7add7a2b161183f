-- Each session of a life has its mailbox.
use Rattle.std.proofs.Common.{◌≡◌, ℕ, List}
use Rattle.std.specs.Prelude.{Some, slice_get}
use Rattle.law_commit.specs.Below.fkv_session.Sessions.{SessionState}
use Rattle.law_commit.specs.Below.fkv_world.Runs.{run}
use Rattle.law_commit.specs.Below.fkv_world.World.{Event}
use Rattle.law_opening.proofs.OfChanges.OfMails.Life.{its_seat}
use Rattle.law_order.specs.Known.Begins.{BegunLife}
use Rattle.law_commit.specs.Below.law_refine.Mail.Shows as mail

pub its_mailbox : (life : BegunLife) (events : List Event) (session : ℕ) (s : SessionState)
    → slice_get (run life.opening events).now.sessions session ≡ Some s → mail.IsOpened life.opening.now session
its_mailbox life events session s found = life.begins.mailboxes session (its_seat life.opening life.start events session s life.begins.store.now found)
