-- The world of one mailbox: its session, a keeper who serves it, and others who work on other words.
use Rattle.std.specs.Prelude.{ℕ, ◌==◌, ◌&&◌, nat_le, if◌then◌else◌, Bool, true, false, List, [], ◌∷◌, slice_set}
use Rattle.fkv_base.specs.declared.numbers.Addr.{Addr}
use Rattle.fkv_plane.specs.declared.places.SessionWord.TheVariants as own
use Rattle.fkv_plane.specs.Places.{session_place}
use Rattle.fkv_plane.specs.Asked.{word_at, words_after, reply_to}
use Rattle.fkv_pending.specs.declared.mailing.MailAnswer.TheVariants as answer
use Rattle.fkv_pending.specs.declared.mailing.MailRecord.{MailRecord}
use Rattle.fkv_pending.specs.declared.mailing.MailTask.{MailTask}
use Rattle.fkv_pending.specs.declared.mailing.Mailing.{Mailing}
use Rattle.fkv_pending.specs.declared.mailing.Mailing.TheVariants.{Ended, LoadsState, StoresAddress}
use Rattle.fkv_pending.specs.Mailing.{mail_asked, mail_ready, mail_ask, mail_next}

-- what a mailbox has: its state, the address that is asked for, and the words of a record
pub record Mailbox : Type 0 where
  pub state : ℕ
  pub addr : ℕ
  pub header : ℕ
  pub key : ℕ
  pub value : ℕ

-- a session's mailbox
abbrev pub mailbox_of : List ℕ → ℕ → Mailbox
mailbox_of words session = record {
  state = word_at words (session_place session own.MailState);
  addr = word_at words (session_place session own.MailAddress);
  header = word_at words (session_place session own.MailHeader);
  key = word_at words (session_place session own.MailKey);
  value = word_at words (session_place session own.MailValue);
}

-- the five words stand side by side
abbrev pub is_mail_place : ℕ → ℕ → Bool
is_mail_place session place = nat_le (session_place session own.MailState) place && nat_le place (session_place session own.MailValue)

-- How far the keeper has come. Where it finds that a record is asked for it loads the address, reads the record there from the device,
-- stores its words, and then that it is ready.
pub data Keeping : Type 0 where
  FindsState : Keeping
  FindsAddress : Keeping
  Reads : Addr → Keeping
  GivesHeader : Addr → MailRecord → Keeping
  GivesKey : Addr → MailRecord → Keeping
  GivesValue : Addr → MailRecord → Keeping
  GivesReady : Addr → MailRecord → Keeping

pub record MailWorld : Type 0 where
  -- whose mailbox it is
  pub session : ℕ
  pub words : List ℕ
  -- how far its machine has come, and the keeper
  pub mailing : Mailing
  pub keeping : Keeping

-- What may happen next.
pub data MailEvent : Type 0 where
  -- the session begins a task
  Begins : MailTask → MailEvent
  -- the session, which has just emptied its mailbox, asks at once for the record at an address
  BeginsPut : Addr → MailEvent
  -- the session makes its one ask
  Moves : MailEvent
  -- the keeper makes its one step. Where that reads the device, this is the record that it gives
  Serves : MailRecord → MailEvent
  -- somebody else changes a word that is none of this mailbox
  Changes : ℕ → ℕ → MailEvent

abbrev pub is_at_end : Mailing → Bool
is_at_end (Ended its) = true
is_at_end step = false

-- the last task has emptied the mailbox
abbrev pub has_emptied : Mailing → Bool
has_emptied (Ended answer.Cleared) = true
has_emptied (Ended (answer.Taken its)) = true
has_emptied step = false

-- the words after the keeper's step
abbrev pub keeper_words : ℕ → List ℕ → Keeping → List ℕ
keeper_words session words (GivesHeader addr its) = slice_set words (session_place session own.MailHeader) its.header
keeper_words session words (GivesKey addr its) = slice_set words (session_place session own.MailKey) its.key.0
keeper_words session words (GivesValue addr its) = slice_set words (session_place session own.MailValue) its.value
keeper_words session words (GivesReady addr its) = slice_set words (session_place session own.MailState) mail_ready
keeper_words session words step = words

-- where it leads, by the mailbox and by what the device gives
abbrev pub keeper_next : Mailbox → MailRecord → Keeping → Keeping
keeper_next box given FindsState = if box.state == mail_asked then FindsAddress else FindsState
keeper_next box given FindsAddress = Reads (record { 0 = box.addr })
keeper_next box given (Reads addr) = GivesHeader addr given
keeper_next box given (GivesHeader addr its) = GivesKey addr its
keeper_next box given (GivesKey addr its) = GivesValue addr its
keeper_next box given (GivesValue addr its) = GivesReady addr its
keeper_next box given (GivesReady addr its) = FindsState

unfoldable pub mail_happens : MailWorld → MailEvent → MailWorld
mail_happens w (Begins task) = if is_at_end w.mailing then record w { mailing = LoadsState task } else w
mail_happens w (BeginsPut addr) = if has_emptied w.mailing then record w { mailing = StoresAddress addr } else w
mail_happens w Moves = record w { words = words_after w.words (mail_ask w.session w.mailing); mailing = mail_next w.mailing (reply_to w.words (mail_ask w.session w.mailing)) }
mail_happens w (Serves given) = record w { words = keeper_words w.session w.words w.keeping; keeping = keeper_next (mailbox_of w.words w.session) given w.keeping }
mail_happens w (Changes place word) = if is_mail_place w.session place then w else record w { words = slice_set w.words place word }

-- a whole run, the newest event first
unfoldable pub mail_run : MailWorld → List MailEvent → MailWorld
mail_run opening [] = opening
mail_run opening (event ∷ before) = mail_happens (mail_run opening before) event
