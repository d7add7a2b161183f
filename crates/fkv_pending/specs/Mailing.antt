-- How a session asks for a record of the device, by its mailbox: it stores an address and that it asks. The keeper stores the record's
-- words and that they are ready; the session takes them, and stores that the mailbox is empty.
use Rattle.std.specs.Prelude.{ℕ, ◌==◌, if◌then◌else◌, Bool}
use Rattle.fkv_base.specs.declared.numbers.Addr.{Addr}
use Rattle.fkv_plane.specs.declared.asks.Ask.{Ask}
use Rattle.fkv_plane.specs.declared.asks.Ask.TheVariants.{Load, Store, Done}
use Rattle.fkv_plane.specs.declared.places.SessionWord.TheVariants as own
use Rattle.fkv_plane.specs.Places.{session_place}
use Rattle.fkv_pending.specs.declared.mailing.MailAnswer.{MailAnswer}
use Rattle.fkv_pending.specs.declared.mailing.MailAnswer.TheVariants as answer
use Rattle.fkv_pending.specs.declared.mailing.MailRecord.{MailRecord}
use Rattle.fkv_pending.specs.declared.mailing.MailTask.{MailTask}
use Rattle.fkv_pending.specs.declared.mailing.MailTask.TheVariants.{Clear, Take, Put}
use Rattle.fkv_pending.specs.declared.mailing.Mailing.{Mailing}
use Rattle.fkv_pending.specs.declared.mailing.Mailing.TheVariants.{Ended, LoadsState, LoadsHeader, LoadsKey, LoadsValue, StoresEmpty, StoresAddress, StoresAsked}

-- the states of a mailbox: the session alone leaves the first and the last, the keeper alone the one between
abbrev pub mail_empty : ℕ
mail_empty = 0

abbrev pub mail_asked : ℕ
mail_asked = 1

abbrev pub mail_ready : ℕ
mail_ready = 2

-- The keeper answers so where the address lies below the log's begin: no record has this header. The key is the begin then.
abbrev pub is_gone : MailRecord → Bool
is_gone its = its.header == 0

abbrev pub begin_told : MailRecord → Addr
begin_told its = record { 0 = its.key.0 }

pub record Mailer : Type 0 where
  -- whose mailbox it is
  pub session : ℕ
  pub step : Mailing

-- what each state asks
unfoldable pub mail_ask : ℕ → Mailing → Ask MailAnswer
mail_ask session (Ended its) = Done its
mail_ask session (LoadsState task) = Load (session_place session own.MailState)
mail_ask session LoadsHeader = Load (session_place session own.MailHeader)
mail_ask session (LoadsKey header) = Load (session_place session own.MailKey)
mail_ask session (LoadsValue header key) = Load (session_place session own.MailValue)
mail_ask session (StoresEmpty its) = Store (session_place session own.MailState) mail_empty
mail_ask session (StoresAddress addr) = Store (session_place session own.MailAddress) addr.0
mail_ask session StoresAsked = Store (session_place session own.MailState) mail_asked

-- by the state of the mailbox: a record is taken from one that is ready, and an address is put into one that is empty
abbrev pub state_found : MailTask → ℕ → Mailing
state_found Clear found = if found == mail_ready then StoresEmpty answer.Cleared else Ended answer.NotReady
state_found Take found = if found == mail_ready then LoadsHeader else Ended answer.NotReady
state_found (Put addr) found = if found == mail_empty then StoresAddress addr else Ended answer.Occupied

-- where the reply leads
unfoldable pub mail_next : Mailing → ℕ → Mailing
mail_next (Ended its) reply = Ended its
mail_next (LoadsState task) reply = state_found task reply
mail_next LoadsHeader reply = LoadsKey reply
mail_next (LoadsKey header) reply = LoadsValue header reply
mail_next (LoadsValue header key) reply = StoresEmpty (answer.Taken (record { header = header; key = record { 0 = key }; value = reply }))
mail_next (StoresEmpty its) reply = Ended its
mail_next (StoresAddress addr) reply = StoresAsked
mail_next StoresAsked reply = Ended answer.Asked

-- how many asks it has left, at most
abbrev pub task_asks_left : MailTask → ℕ
task_asks_left Clear = 2
task_asks_left Take = 5
task_asks_left (Put addr) = 3

unfoldable pub mail_asks_left : Mailing → ℕ
mail_asks_left (Ended its) = 0
mail_asks_left (LoadsState task) = task_asks_left task
mail_asks_left LoadsHeader = 4
mail_asks_left (LoadsKey header) = 3
mail_asks_left (LoadsValue header key) = 2
mail_asks_left (StoresEmpty its) = 1
mail_asks_left (StoresAddress addr) = 2
mail_asks_left StoresAsked = 1
