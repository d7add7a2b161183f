-- What goes through a mailbox, by the words of the mailbox, by the tasks of the session and by the records that the keeper was given.
use Rattle.std.specs.Prelude.{◌≡◌, ◌≢◌, ◌⊎◌, ℕ, ◌<◌, ◌==◌, ◌&&◌, not, if◌then◌else◌, Bool, true, false, List, [], ◌∷◌, length, Option, Some, None, ⊤}
use Rattle.fkv_base.specs.declared.numbers.Addr.{Addr}
use Rattle.fkv_plane.specs.declared.asks.Ask.{Ask}
use Rattle.fkv_plane.specs.declared.asks.Ask.TheVariants.{Done}
use Rattle.fkv_plane.specs.declared.places.SessionWord.TheVariants as own
use Rattle.fkv_plane.specs.Places.{session_place}
use Rattle.fkv_plane.specs.Asked.{word_at}
use Rattle.fkv_plane.specs.Passing.{is_done}
use Rattle.fkv_pending.specs.declared.mailing.MailAnswer.{MailAnswer}
use Rattle.fkv_pending.specs.declared.mailing.MailAnswer.TheVariants.{Cleared, NotReady, Taken, Asked, Occupied}
use Rattle.fkv_pending.specs.declared.mailing.MailRecord.{MailRecord}
use Rattle.fkv_pending.specs.declared.mailing.MailTask.{MailTask}
use Rattle.fkv_pending.specs.declared.mailing.MailTask.TheVariants.{Clear, Take, Put}
use Rattle.fkv_pending.specs.declared.mailing.Mailing.TheVariants.{Ended}
use Rattle.fkv_pending.specs.Mailing.{mail_empty, mail_asked, mail_ready, mail_ask}
use Rattle.fkv_pending.specs.MailWorld.{Mailbox, mailbox_of, is_mail_place, Keeping, FindsState, GivesReady, MailWorld, MailEvent, Begins, BeginsPut, Moves, Serves, Changes, is_at_end, has_emptied, mail_happens, mail_run}

-- What has come to pass: the session has asked for the record at an address, the keeper has served it with a record that it read at an
-- address, and the session has taken a record, or let it go.
pub data MailNote : Type 0 where
  HasAskedFor : Addr → MailNote
  WasServed : Addr → MailRecord → MailNote
  HasTaken : MailRecord → MailNote
  HasLetGo : MailNote

pub record MailPast : Type 0 where
  -- the task that the session has under way
  pub task : Option MailTask
  -- what has come to pass, the newest first
  pub notes : List MailNote

-- what the session's machine asks behind its next step
abbrev pub asked_then : MailWorld → Ask MailAnswer
asked_then w = let after = mail_happens w Moves in mail_ask after.session after.mailing

-- a record is asked for by the step that lets the state come to 1: the one that the task names
abbrev pub asked_notes : Bool → MailTask → List MailNote → List MailNote
asked_notes true (Put addr) notes = HasAskedFor addr ∷ notes
asked_notes came task notes = notes

abbrev pub answered_notes : Ask MailAnswer → List MailNote → List MailNote
answered_notes (Done (Taken its)) notes = HasTaken its ∷ notes
answered_notes (Done Cleared) notes = HasLetGo ∷ notes
answered_notes ask notes = notes

-- a task ends with its answer
abbrev pub past_moved : Mailbox → Mailbox → Ask MailAnswer → MailPast → Option MailTask → MailPast
past_moved before after ask past None = past
past_moved before after ask past (Some task) = record {
  task = if is_done ask then None else Some task;
  notes = answered_notes ask (asked_notes (not (before.state == mail_asked) && after.state == mail_asked) task past.notes);
}

-- a record is served by the step that lets it be ready
abbrev pub served_notes : Keeping → List MailNote → List MailNote
served_notes (GivesReady addr its) notes = WasServed addr its ∷ notes
served_notes step notes = notes

abbrev pub past_after : MailWorld → MailEvent → MailPast → MailPast
past_after w (Begins task) past = if is_at_end w.mailing then record past { task = Some task } else past
past_after w (BeginsPut addr) past = if has_emptied w.mailing then record past { task = Some (Put addr) } else past
past_after w Moves past = past_moved (mailbox_of w.words w.session) (mailbox_of (mail_happens w Moves).words w.session) (asked_then w) past past.task
past_after w (Serves given) past = record past { notes = served_notes w.keeping past.notes }
past_after w (Changes place word) past = past

-- what a run tells
unfoldable pub past_of : MailWorld → List MailEvent → MailPast
past_of opening [] = record { task = None; notes = [] }
past_of opening (event ∷ before) = past_after (mail_run opening before) event (past_of opening before)

-- what was asked for last has been taken or let go, if anything was
abbrev pub IsOver : List MailNote → Type 0
IsOver [] = ⊤
IsOver (HasTaken its ∷ before) = ⊤
IsOver (HasLetGo ∷ before) = ⊤
IsOver notes = ⊥

-- last the record at this address was asked for
abbrev pub IsAskedFor : Addr → List MailNote → Type 0
IsAskedFor addr (HasAskedFor its ∷ before) = its ≡ addr
IsAskedFor addr notes = ⊥

-- last this record was served
abbrev pub IsServed : MailRecord → List MailNote → Type 0
IsServed given (WasServed addr its ∷ before) = its ≡ given
IsServed given notes = ⊥

-- last some record was served
abbrev pub IsSomeServed : List MailNote → Type 0
IsSomeServed (WasServed addr its ∷ before) = ⊤
IsSomeServed notes = ⊥

-- A record is asked for when nothing is asked for any more; it is served once, as the device gave it at the address that was asked for; and
-- what is taken is the record that was served.
abbrev pub FollowsOn : MailNote → List MailNote → Type 0
FollowsOn (HasAskedFor addr) before = IsOver before
FollowsOn (WasServed addr its) before = IsAskedFor addr before
FollowsOn (HasTaken its) before = IsServed its before
FollowsOn HasLetGo before = IsSomeServed before

abbrev pub AreInTurn : List MailNote → Type 0
AreInTurn [] = ⊤
AreInTurn (note ∷ before) = FollowsOn note before × AreInTurn before

-- The session alone leaves the states empty and ready: it stores an address while the mailbox is empty, then that it asks, and where a
-- record is ready it empties the mailbox.
abbrev pub SessionChanges : Mailbox → Mailbox → Type 0
SessionChanges before after =
    (after ≡ before)
    ⊎ (((before.state ≡ mail_empty) × (after ≡ record before { addr = after.addr }))
    ⊎ (((before.state ≡ mail_empty) × (after ≡ record before { state = mail_asked }))
    ⊎ ((before.state ≡ mail_ready) × (after ≡ record before { state = mail_empty }))))

-- The keeper alone leaves the state between: it stores the words of a record, and then that they are ready.
abbrev pub KeeperChanges : Mailbox → Mailbox → Type 0
KeeperChanges before after =
    (after ≡ before)
    ⊎ (((before.state ≡ mail_asked) × (after ≡ record after { state = before.state; addr = before.addr }))
    ⊎ ((before.state ≡ mail_asked) × (after ≡ record before { state = mail_ready })))

abbrev pub ChangesBy : MailEvent → Mailbox → Mailbox → Type 0
ChangesBy Moves before after = SessionChanges before after
ChangesBy (Serves given) before after = KeeperChanges before after
ChangesBy event before after = after ≡ before

-- the record that a mailbox has
abbrev pub record_in : Mailbox → MailRecord
record_in box = record { header = box.header; key = record { 0 = box.key }; value = box.value }

-- What each task may answer, and what that means, by the mailbox as the step that is answered met it and left it.
abbrev pub IsTrueOf : MailTask → MailAnswer → Mailbox → Mailbox → Type 0
IsTrueOf Clear Cleared before after = (before.state ≡ mail_ready) × (after ≡ record before { state = mail_empty })
IsTrueOf Clear NotReady before after = (before.state ≢ mail_ready) × (after ≡ before)
IsTrueOf Take (Taken its) before after = (before.state ≡ mail_ready) × (its ≡ record_in before) × (after ≡ record before { state = mail_empty })
IsTrueOf Take NotReady before after = (before.state ≢ mail_ready) × (after ≡ before)
IsTrueOf (Put addr) Asked before after = (before.state ≡ mail_empty) × (before.addr ≡ addr.0) × (after ≡ record before { state = mail_asked })
IsTrueOf (Put addr) Occupied before after = (before.state ≢ mail_empty) × (after ≡ before)
IsTrueOf task its before after = ⊥

abbrev pub IsAnswerTrue : Option MailTask → Ask MailAnswer → Mailbox → Mailbox → Type 0
IsAnswerTrue (Some task) (Done its) before after = IsTrueOf task its before after
IsAnswerTrue task ask before after = ⊤

-- The words are there, and the mailbox is empty.
pub record IsMailOpened (session : ℕ) (words : List ℕ) : Type 0 where
  pub enough_words : session_place session own.MailValue < length words
  pub is_empty : (mailbox_of words session).state ≡ mail_empty

abbrev pub opening : ℕ → List ℕ → MailWorld
opening session words = record { session = session; words = words; mailing = Ended NotReady; keeping = FindsState }

-- what holds at each moment of each run
abbrev pub AtEachMoment : (MailWorld → MailPast → Type 0) → Type 0
AtEachMoment P = (session : ℕ) (words : List ℕ) (events : List MailEvent) → IsMailOpened session words → P (mail_run (opening session words) events) (past_of (opening session words) events)

-- what has come to pass came in turn
abbrev pub NotesInTurn : MailWorld → MailPast → Type 0
NotesInTurn w past = AreInTurn past.notes

-- each event changes the mailbox as its actor may, and none of the session or the keeper changes another word
abbrev pub ChangesAreKept : MailWorld → MailPast → Type 0
ChangesAreKept w past = (event : MailEvent) → ChangesBy event (mailbox_of w.words w.session) (mailbox_of (mail_happens w event).words w.session)

abbrev pub OthersStay : MailWorld → MailPast → Type 0
OthersStay w past = (place : ℕ) → is_mail_place w.session place ≡ false → word_at (mail_happens w Moves).words place ≡ word_at w.words place

-- each answer of each task is true
abbrev pub AnswersTrue : MailWorld → MailPast → Type 0
AnswersTrue w past = IsAnswerTrue past.task (asked_then w) (mailbox_of w.words w.session) (mailbox_of (mail_happens w Moves).words w.session)

-- with no task under way a step of the session changes nothing
abbrev pub RestsBetweenTasks : MailWorld → MailPast → Type 0
RestsBetweenTasks w past = past.task ≡ None → mail_happens w Moves ≡ w
