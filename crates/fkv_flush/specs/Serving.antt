-- How the sessions' mailboxes are served.
use Rattle.std.specs.Prelude.{ℕ, ◌+◌, ◌^◌, ◌<◌, ◌==◌, nat_lt, if◌then◌else◌, List, ⊤, Option, Some, None}
use Rattle.fkv_base.specs.Limits.{max_sessions}
use Rattle.fkv_base.specs.declared.numbers.Addr.{Addr}
use Rattle.fkv_base.specs.declared.shapes.Shape.{Shape}
use Rattle.fkv_disk.specs.Asks.{AskedCall}
use Rattle.fkv_disk.specs.Asks as disk
use Rattle.fkv_record.specs.Places.{number_at, record_place}
use Rattle.fkv_plane.specs.declared.asks.Ask.{Ask}
use Rattle.fkv_plane.specs.declared.asks.Ask.TheVariants.{Load, Store, Done}
use Rattle.fkv_plane.specs.declared.places.SessionWord.TheVariants as own
use Rattle.fkv_plane.specs.Places.{session_place}
use Rattle.fkv_flush.specs.declared.answers.DeviceAnswer.{DeviceAnswer}
use Rattle.fkv_flush.specs.declared.answers.DeviceAnswer.TheVariants as answer
use Rattle.fkv_flush.specs.declared.serving.Mail.{Mail}
use Rattle.fkv_flush.specs.declared.serving.Serving.{Serving}
use Rattle.fkv_flush.specs.declared.serving.Serving.TheVariants.{AtRest, LoadsState, LoadsAddress, Reads, StoresHeader, StoresKey, StoresValue, StoresReady}

-- of a log that begins at this address
pub record Server : Type 0 where
  pub shape : Shape
  pub begin : Addr
  pub step : Serving

-- a session is below max_sessions, and an address below 2^48
abbrev pub IsServeInRange : Serving → Type 0
IsServeInRange AtRest = ⊤
IsServeInRange (LoadsState session) = session < max_sessions
IsServeInRange (LoadsAddress session) = session < max_sessions
IsServeInRange (Reads session addr) = (session < max_sessions) × (addr < 2 ^ 48)
IsServeInRange (StoresHeader session mail) = session < max_sessions
IsServeInRange (StoresKey session mail) = session < max_sessions
IsServeInRange (StoresValue session mail) = session < max_sessions
IsServeInRange (StoresReady session) = session < max_sessions

-- a mailbox in which a record is asked for, and one where it is ready
abbrev pub asked_state : ℕ
asked_state = 1

abbrev pub ready_state : ℕ
ready_state = 2

-- the three words of the record that these bytes are
abbrev pub mail_of : List ℕ → Mail
mail_of bytes = record { header = number_at bytes 0; key = number_at bytes 8; value = number_at bytes 16 }

-- What lay below the log's begin is gone. That is told by header 0, which no record has, with the begin as key.
abbrev pub gone_mail : ℕ → Mail
gone_mail begin = record { header = 0; key = begin; value = 0 }

-- what each state asks
unfoldable pub serve_ask : Serving → Ask DeviceAnswer
serve_ask AtRest = Done answer.Through
serve_ask (LoadsState session) = Load (session_place session own.MailState)
serve_ask (LoadsAddress session) = Load (session_place session own.MailAddress)
serve_ask (Reads session addr) = Done answer.Device
serve_ask (StoresHeader session mail) = Store (session_place session own.MailHeader) mail.header
serve_ask (StoresKey session mail) = Store (session_place session own.MailKey) mail.key
serve_ask (StoresValue session mail) = Store (session_place session own.MailValue) mail.value
serve_ask (StoresReady session) = Store (session_place session own.MailState) ready_state

-- the session of this number comes next, if there is one
unfoldable pub mailbox_from : ℕ → ℕ → Serving
mailbox_from sessions session = if nat_lt session sessions then LoadsState session else AtRest

-- An address at which a record is asked for. Below the begin nothing is read: what lay there is gone. At what is no address nothing is answered.
abbrev pub address_met : ℕ → ℕ → ℕ → ℕ → Serving
address_met sessions begin session addr =
    if nat_lt addr begin then StoresHeader session (gone_mail begin) else (if nat_lt addr (2 ^ 48) then Reads session addr else mailbox_from sessions (session + 1))

-- where the reply leads, in a log with this begin
unfoldable pub serve_next : ℕ → ℕ → Serving → ℕ → Serving
serve_next sessions begin AtRest reply = AtRest
serve_next sessions begin (LoadsState session) reply = if reply == asked_state then LoadsAddress session else mailbox_from sessions (session + 1)
serve_next sessions begin (LoadsAddress session) reply = address_met sessions begin session reply
serve_next sessions begin (Reads session addr) reply = Reads session addr
serve_next sessions begin (StoresHeader session mail) reply = StoresKey session mail
serve_next sessions begin (StoresKey session mail) reply = StoresValue session mail
serve_next sessions begin (StoresValue session mail) reply = StoresReady session
serve_next sessions begin (StoresReady session) reply = mailbox_from sessions (session + 1)

-- where the bytes that were read lead
unfoldable pub serve_read : Serving → List ℕ → Serving
serve_read (Reads session addr) bytes = StoresHeader session (mail_of bytes)
serve_read step bytes = step

-- where the record lies that is read
unfoldable pub mail_place : Shape → Serving → ℕ
mail_place shape (Reads session addr) = record_place shape addr
mail_place shape step = 0

-- the read of the device that a step needs, if it needs one: of a record's 24 bytes
unfoldable pub mail_read : Shape → Serving → Option AskedCall
mail_read shape (Reads session addr) = Some (disk.Reads (record_place shape addr) 24)
mail_read shape step = None
