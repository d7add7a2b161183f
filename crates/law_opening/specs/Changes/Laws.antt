-- What the laws say.
use Rattle.std.specs.Prelude.{◌≡◌, ◌<◌, ℕ, List, [], Some, slice_get}
use Rattle.law_refine.specs.Below.fkv_flush.GuardFlushed.{stands}
use Rattle.law_refine.specs.Below.fkv_world.Opened.{IsOpenedWorld}
use Rattle.law_refine.specs.Below.fkv_world.Runs.{World}
use Rattle.law_refine.specs.Below.fkv_session.Sessions.{SessionState}
use Rattle.law_refine.specs.Below.fkv_world.World.{Event, Now}
use Rattle.law_opening.specs.Changes.Fits.{CallsFit, CellsFit}
use Rattle.law_opening.specs.Changes.Images.{IsInImage}
use Rattle.law_opening.specs.Changes.Linked.{ChainsFall, IsLinkedLog}
use Rattle.law_refine.specs.Below.law_world.Guarded.GuardEvents as guarded
use Rattle.law_refine.specs.Below.law_world.Guarded.OpenedStore.{IsOpenedStore}
use Rattle.law_refine.specs.Below.law_world.Guarded.Shows as guard
use Rattle.law_refine.specs.Below.law_world.Guarded.Shows.{guard_opening}
use Rattle.law_log.specs.Chains.{Cell, Published}
use Rattle.law_log.specs.Ghosts.{Ghosts}
use Rattle.law_refine.specs.Index.Shows as index
use Rattle.law_refine.specs.Events.GhostEvents.{home_in, life_ghosts}
use Rattle.law_refine.specs.Mail.Shows as mail
use Rattle.law_refine.specs.Events.Reserved.{IsUnbornFrom, ReservesNothing, tail_at}
use Rattle.law_refine.specs.Heads.Heads.{LeadToHeads}
use Rattle.law_refine.specs.Records.Changes.{AreChangesPublished}
use Rattle.law_refine.specs.Records.Headers.{HeadersShowLog}
use Rattle.law_refine.specs.Records.Warm.{MemoryShowsLog}

-- what a life begins with here: a world that was opened, and beside it a log whose chains and records lead to published records alone, and which shows in memory
pub record BeginsLinked (opening : World) (start : ℕ) (lists : ℕ → List ℕ) (ghosts : Ghosts) : Type 0 where
  pub world : IsOpenedWorld opening
  pub now : guard.IsOpened opening.now start
  pub some : 0 < start
  pub index : index.IsOpened opening lists
  pub unborn : IsUnbornFrom (tail_at opening.now) ghosts
  pub reserves : ReservesNothing ghosts
  pub heads : LeadToHeads opening.now lists ghosts.log
  pub linked : IsLinkedLog ghosts.log
  pub warm : MemoryShowsLog opening start ghosts.log

-- where the log of an opened store begins, as its keeper has it
abbrev pub begin_at : Now → ℕ
begin_at n = n.keeper.last.begin.0

-- It begins so beside a log with numbers that fit in words: the device has each of its records, and nothing has taken effect.
-- Each session has its mailbox, and the log's begin as its floor.
pub record BeginsFitting (opening : World) (start : ℕ) (lists : ℕ → List ℕ) (ghosts : Ghosts) : Type 0 where
  pub linked : BeginsLinked opening start lists ghosts
  pub store : IsOpenedStore opening start
  pub mailboxes : (session : ℕ) → session < opening.now.places.sessions → mail.IsOpened opening.now session
  pub floors : (session : ℕ) (s : SessionState) → slice_get opening.now.sessions session ≡ Some s → s.floor ≡ opening.now.keeper.last.begin
  pub device : (a : ℕ) (cell : Cell) → ghosts.log.cells a ≡ Published cell → IsInImage (begin_at opening.now) opening.now.shape opening.past.opened a cell
  pub fits : CellsFit ghosts.log
  pub no_history : ghosts.log.history ≡ []

-- the record that a session changes in place is published
abbrev pub ChangesArePublished : Type 0
ChangesArePublished =
    (opening : World) (start : ℕ) (lists : ℕ → List ℕ) (ghosts : Ghosts) (events : List Event) → BeginsLinked opening start lists ghosts → AreChangesPublished opening ghosts events

-- chains and records lead to published records alone
abbrev pub LogStaysLinked : Type 0
LogStaysLinked =
    (opening : World) (start : ℕ) (lists : ℕ → List ℕ) (ghosts : Ghosts) (events : List Event) → BeginsLinked opening start lists ghosts → IsLinkedLog (life_ghosts opening ghosts events).log

-- addresses fall down each chain, if they did as the life began
abbrev pub ChainsAlwaysFall : Type 0
ChainsAlwaysFall =
    (opening : World) (start : ℕ) (lists : ℕ → List ℕ) (ghosts : Ghosts) (events : List Event) → BeginsLinked opening start lists ghosts → ChainsFall (home_in opening.now.shape.bucket_bits) ghosts.log
    → ChainsFall (home_in opening.now.shape.bucket_bits) (life_ghosts opening ghosts events).log

-- the header of a decided record says what became of it
abbrev pub HeadersAlwaysShow : Type 0
HeadersAlwaysShow =
    (opening : World) (start : ℕ) (lists : ℕ → List ℕ) (ghosts : Ghosts) (events : List Event) → BeginsLinked opening start lists ghosts
    → HeadersShowLog start (stands (guard_opening opening.now start) (guarded.mapped opening events)) (life_ghosts opening ghosts events).log

-- what the store was opened with stays
abbrev pub OldRecordsStay : Type 0
OldRecordsStay =
    (opening : World) (start : ℕ) (lists : ℕ → List ℕ) (ghosts : Ghosts) (events : List Event) (a : ℕ) → BeginsLinked opening start lists ghosts → a < start
    → (life_ghosts opening ghosts events).log.cells a ≡ ghosts.log.cells a

-- the records of the log keep numbers that fit in words, if those of all that is called do
abbrev pub LogStaysFitting : Type 0
LogStaysFitting =
    (opening : World) (start : ℕ) (lists : ℕ → List ℕ) (ghosts : Ghosts) (events : List Event) → BeginsFitting opening start lists ghosts → CallsFit events
    → CellsFit (life_ghosts opening ghosts events).log
