-- How a mailbox's world shows the engine's, and when its steps are permitted.
use Rattle.std.specs.Prelude.{◌≡◌, ℕ, ◌<◌, false, List, [], ◌∷◌, slice_get, Option, Some, None, ⊤}
use Rattle.law_world.specs.Below.fkv_pending.MailWorld.{MailWorld, mail_run}
use Rattle.law_world.specs.Below.fkv_pending.Mailbox as mailbox
use Rattle.law_world.specs.Below.fkv_pending.Mailbox.{IsMailOpened}
use Rattle.law_world.specs.Below.fkv_keeper.KeeperRun as keeper
use Rattle.law_world.specs.Below.fkv_keeper.Keeping.{keeper_ask}
use Rattle.law_world.specs.Below.fkv_session.Sessions as sessions
use Rattle.law_world.specs.Below.fkv_session.Sessions.{SessionState, session_ask}
use Rattle.law_world.specs.Below.fkv_world.World.{Event, Moves, KeeperMoves, Now, seat_at}
use Rattle.law_world.specs.Below.fkv_world.Runs.{World, run}
use Rattle.law_refine.specs.Footprint.{Spares, TheMailbox}
use Rattle.law_refine.specs.Mail.MailEvents.{mapped}
use Rattle.law_refine.specs.Mail.Mailers.{session_mailing, IsAsFar}
use Rattle.law_refine.specs.Mail.Servers.{serving_of, is_serving, KeepsUp}

-- Each ask of another session spares the mailbox, and so does the session's own where no task with it is under way.
abbrev pub SessionSpares : Now → ℕ → ℕ → Option SessionState → Type 0
SessionSpares n session number None = ⊤
SessionSpares n session number (Some s) = (number ≡ session → session_mailing s ≡ None) → Spares (TheMailbox session) n.places (session_ask (seat_at n number) s)

-- and with each of the keeper where it isn't at the mailbox
abbrev pub IsPermitted : Now → ℕ → Event → Type 0
IsPermitted n session (Moves number) = SessionSpares n session number (slice_get n.sessions number)
IsPermitted n session (KeeperMoves granted done) = is_serving session (serving_of n.keeper) ≡ false → Spares (TheMailbox session) n.places (keeper_ask n.shape n.places n.keeper)
IsPermitted n session event = ⊤

-- each step of a life is permitted
abbrev pub ArePermitted : World → ℕ → List Event → Type 0
ArePermitted opening session [] = ⊤
ArePermitted opening session (event ∷ before) = IsPermitted (run opening before).now session event × ArePermitted opening session before

-- As a life begins the session is one of the store's, its mailbox is there and empty, and each session and the keeper are as their store was opened.
pub record IsOpened (n : Now) (session : ℕ) : Type 0 where
  pub mail : IsMailOpened session n.words
  pub its_seat : session < n.places.sessions
  pub sessions : (number : ℕ) (s : SessionState) → slice_get n.sessions number ≡ Some s → sessions.IsOpened s
  pub keeper : keeper.IsOpened n.keeper

-- The same words; the session's mail machine is as far, and so is the keeper so far as it serves this session, up to where the device fails.
pub record Shows (n : Now) (session : ℕ) (w : MailWorld) : Type 0 where
  pub session_same : w.session ≡ session
  pub words : w.words ≡ n.words
  pub mailing : (s : SessionState) → slice_get n.sessions session ≡ Some s → IsAsFar (session_mailing s) w.mailing
  pub keeping : n.keeper.is_broken ≡ false → KeepsUp session (serving_of n.keeper) w.keeping

-- what the mailbox sees of a life: a run of its world
abbrev pub mail_opening : World → ℕ → MailWorld
mail_opening opening session = mailbox.opening session opening.now.words

abbrev pub seen_by_mailbox : World → ℕ → List Event → MailWorld
seen_by_mailbox opening session events = mail_run (mail_opening opening session) (mapped opening session events)
