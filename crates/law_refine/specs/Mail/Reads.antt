-- What a session takes from its mailbox, and what was given for it.
use Rattle.std.specs.Prelude.{◌≡◌, ◌⊎◌, ◌<◌, ◌≤◌, ℕ, false, true, List, ◌∷◌, ◌++◌, slice_get, Some}
use Rattle.fkv_base.specs.declared.numbers.Addr.{Addr}
use Rattle.fkv_record.specs.Places.{record_place}
use Rattle.fkv_disk.specs.Bytes.{bytes_at}
use Rattle.fkv_disk.specs.Calls.{reads_as}
use Rattle.fkv_plane.specs.declared.asks.Ask.TheVariants.{Done}
use Rattle.fkv_plane.specs.Asked.{reply_to}
use Rattle.law_world.specs.Below.fkv_flush.TheServing.TheVariants as serve
use Rattle.law_world.specs.Below.fkv_pending.MailAnswer.TheVariants.{Taken}
use Rattle.law_world.specs.Below.fkv_pending.MailRecord.{MailRecord}
use Rattle.law_world.specs.Below.fkv_pending.TheMailing.{Mailing}
use Rattle.law_world.specs.Below.fkv_pending.Mailing.{mail_ask, mail_next, is_gone}
use Rattle.law_world.specs.Below.fkv_pending.MailWorld.{Mailbox, mailbox_of}
use Rattle.law_world.specs.Below.fkv_pending.Mailbox.{MailNote, HasAskedFor, WasServed, HasTaken, MailPast, past_of, SessionChanges, KeeperChanges}
use Rattle.law_world.specs.Below.fkv_session.Sessions.{SessionState}
use Rattle.law_world.specs.Below.fkv_world.Opened.{IsOpenedWorld}
use Rattle.law_world.specs.Below.fkv_world.World.{Event, Moves, KeeperMoves, Now}
use Rattle.law_world.specs.Below.fkv_world.Runs.{World, run}
use Rattle.law_refine.specs.Mail.MailEvents.{mapped, record_gone, record_read}
use Rattle.law_refine.specs.Mail.Mailers.{session_mailing}
use Rattle.law_refine.specs.Mail.Servers.{serving_of, begin_of}
use Rattle.law_refine.specs.Mail.Shows.{IsOpened, mail_opening}

-- what has come to pass in a life, the newest first
abbrev pub mail_past : World → ℕ → List Event → MailPast
mail_past opening session events = past_of (mail_opening opening session) (mapped opening session events)

abbrev pub mail_notes : World → ℕ → List Event → List MailNote
mail_notes opening session events = (mail_past opening session events).notes

-- the three words at the place of an address, as the device reads now
abbrev pub record_there : World → ℕ → MailRecord
record_there w addr = record_read (bytes_at (reads_as w.past.opened w.past.calls) (record_place w.now.shape addr) 24)

-- The keeper read for the session at this address, at a moment of the life when this had come to pass in the mailbox, and this is what the device gave.
pub record ReadSince (opening : World) (session : ℕ) (events : List Event) (addr : Addr) (its : MailRecord) (asked : List MailNote) : Type 0 where
  pub earlier : List Event
  pub later : List Event
  pub event : Event
  pub cut : events ≡ later ++ (event ∷ earlier)
  pub reads : serving_of (run opening earlier).now.keeper ≡ serve.Reads session addr.0
  pub gives : its ≡ record_there (run opening earlier) addr.0
  pub since : mail_notes opening session earlier ≡ asked

-- The keeper found for the session at such a moment that this address lies below the log's begin, and this is what it tells where a record is gone.
pub record GoneSince (opening : World) (session : ℕ) (events : List Event) (addr : Addr) (its : MailRecord) (asked : List MailNote) : Type 0 where
  pub earlier : List Event
  pub later : List Event
  pub event : Event
  pub cut : events ≡ later ++ (event ∷ earlier)
  pub loads : serving_of (run opening earlier).now.keeper ≡ serve.LoadsAddress session
  pub below : addr.0 < begin_of (run opening earlier).now.keeper
  pub gives : its ≡ record_gone (begin_of (run opening earlier).now.keeper)
  pub since : mail_notes opening session earlier ≡ asked

-- what was given for the session: what was read there, or that it is gone
abbrev pub GivenSince : World → ℕ → List Event → Addr → MailRecord → List MailNote → Type 0
GivenSince opening session events addr its asked = ReadSince opening session events addr its asked ⊎ GoneSince opening session events addr its asked

-- the session is at the step with which it takes a record
pub record IsTaking (n : Now) (session : ℕ) (its : MailRecord) : Type 0 where
  pub taker : SessionState
  pub there : slice_get n.sessions session ≡ Some taker
  pub step : Mailing
  pub under_way : session_mailing taker ≡ Some step
  pub takes : mail_ask session (mail_next step (reply_to n.words (mail_ask session step))) ≡ Done (Taken its)

-- The record that it takes was asked for last, at this address, and served once since then; and it is what was given for that address since then.
pub record HasTakenRead (opening : World) (session : ℕ) (events : List Event) (its : MailRecord) : Type 0 where
  pub addr : Addr
  pub before : List MailNote
  pub notes : mail_notes opening session (Moves session ∷ events) ≡ HasTaken its ∷ WasServed addr its ∷ HasAskedFor addr ∷ before
  pub given : GivenSince opening session events addr its (HasAskedFor addr ∷ before)

abbrev pub TakesWhatWasRead : Type 0
TakesWhatWasRead = (opening : World) (session : ℕ) (events : List Event) (its : MailRecord) → IsOpened opening.now session → (run opening events).now.crashed ≡ false
    → IsTaking (run opening events).now session its → HasTakenRead opening session events its

-- That a record is gone is told by a begin of the log, above the address that was asked for. It is no lower than where the log began at first, and no higher than
-- where it begins now.
pub record TellsBegin (first begin : ℕ) (addr : Addr) (its : MailRecord) : Type 0 where
  pub gone : is_gone its ≡ true
  pub from : first ≤ its.key.0
  pub key : its.key.0 ≤ begin
  pub above : addr.0 < its.key.0

-- Over a life these are the begins of the newest finished commits, of the opening and of now.
abbrev pub GoneTellsBegin : Type 0
GoneTellsBegin =
    (opening : World) (session : ℕ) (events : List Event) (addr : Addr) (its : MailRecord) (asked : List MailNote) → IsOpenedWorld opening
    → GoneSince opening session events addr its asked → TellsBegin opening.now.keeper.last.begin.0 (run opening events).now.keeper.last.begin.0 addr its

-- What an event does to the mailbox: its session alone leaves the states empty and ready, and the keeper alone the one between.
abbrev pub ChangesBy : ℕ → Event → Mailbox → Mailbox → Type 0
ChangesBy session (Moves number) before after = (after ≡ before) ⊎ ((number ≡ session) × SessionChanges before after)
ChangesBy session (KeeperMoves granted done) before after = KeeperChanges before after
ChangesBy session event before after = after ≡ before

abbrev pub EachChangesBy : Type 0
EachChangesBy = (opening : World) (session : ℕ) (events : List Event) (event : Event) → IsOpened opening.now session
    → ChangesBy session event (mailbox_of (run opening events).now.words session) (mailbox_of (run opening (event ∷ events)).now.words session)
