-- What each event of the engine's world is to one session's mailbox: a list of events of the mailbox's world, the newest first.
use Rattle.std.specs.Prelude.{ℕ, ◌^◌, ◌==◌, nat_lt, if◌then◌else◌, Bool, List, [], ◌∷◌, ◌++◌, slice_get, Option, Some, None}
use Rattle.fkv_plane.specs.declared.asks.Ask.{Ask}
use Rattle.fkv_plane.specs.Asked.{asked, asked_place, word_at}
use Rattle.law_world.specs.Below.fkv_flush.TheServing.{Serving}
use Rattle.law_world.specs.Below.fkv_flush.TheServing.TheVariants as serve
use Rattle.fkv_map.specs.declared.operations.Call.{Call}
use Rattle.fkv_record.specs.Places.{number_at}
use Rattle.law_world.specs.Below.fkv_keeper.Keeping.{keeper_ask}
use Rattle.law_world.specs.Below.fkv_pending.MailRecord.{MailRecord}
use Rattle.law_world.specs.Below.fkv_pending.TheMailing.{Mailing}
use Rattle.law_world.specs.Below.fkv_pending.TheMailing.TheVariants.{LoadsState, StoresAddress}
use Rattle.law_world.specs.Below.fkv_pending.MailWorld as mail
use Rattle.law_world.specs.Below.fkv_pending.MailWorld.{mailbox_of}
use Rattle.law_world.specs.Below.fkv_session.Sessions.{SessionState, is_busy, session_ask}
use Rattle.law_world.specs.Below.fkv_world.World.{Event, Calls, Moves, KeeperMoves, Now, seat_at, near, session_called}
use Rattle.law_world.specs.Below.fkv_world.Moves.{session_moved}
use Rattle.law_world.specs.Below.fkv_world.Runs.{World, read_by_keeper, run}
use Rattle.law_refine.specs.Mail.Mailers.{session_mailing}
use Rattle.law_refine.specs.Mail.Servers.{serving_of, begin_of, is_serving, record_of}

-- the task that has begun where a machine is at its first step; while a task is under way this changes nothing
abbrev pub begins : Option Mailing → List mail.MailEvent
begins (Some (LoadsState task)) = mail.Begins task ∷ []
begins (Some (StoresAddress addr)) = mail.BeginsPut addr ∷ []
begins its = []

-- whoever asks for a word besides changes it, if only to what it was
abbrev pub changed_at : List ℕ → Option ℕ → (ℕ → ℕ) → List mail.MailEvent
changed_at words None f = []
changed_at words (Some place) f = mail.Changes place (f (word_at words place)) ∷ []

abbrev pub changed_by : {A : Type 0} → List ℕ → Ask A → List mail.MailEvent
changed_by words ask = changed_at words (asked_place ask) (asked ask)

-- the session's ask is that of its mail machine where this is under way
abbrev pub asked_by : {A : Type 0} → List ℕ → Option Mailing → Ask A → List mail.MailEvent
asked_by words None ask = changed_by words ask
asked_by words (Some step) ask = mail.Moves ∷ []

-- the mailbox's session makes its ask, and may begin a task then
abbrev pub own_events : Now → ℕ → SessionState → List mail.MailEvent
own_events n session s =
    begins (session_mailing (session_moved (seat_at n session) (near n s)).machine) ++ asked_by n.words (session_mailing s) (session_ask (seat_at n session) s)

-- so does a session; another's ask changes some other word
abbrev pub moved_events : Now → ℕ → ℕ → Option SessionState → List mail.MailEvent
moved_events n session number None = []
moved_events n session number (Some s) = if number == session then own_events n session s else changed_by n.words (session_ask (seat_at n number) s)

-- it may begin a task where a call begins, too
abbrev pub begun_events : Now → ℕ → Call → SessionState → List mail.MailEvent
begun_events n session call s = if is_busy s.step then [] else begins (session_mailing (session_called (seat_at n session) s call))

abbrev pub called_events : Now → ℕ → ℕ → Call → Option SessionState → List mail.MailEvent
called_events n session number call None = []
called_events n session number call (Some s) = if number == session then begun_events n session call s else []

-- It is told so that the record asked for is gone: what lay below the log's begin. No record has header 0, and the key is the begin.
abbrev pub record_gone : ℕ → MailRecord
record_gone begin = record_of 0 begin 0

-- What the load of an address is to the mailbox: the keeper has found that a record is asked for, and takes the address up where one can be read there.
-- Below the log's begin it has at once what it gives.
abbrev pub loaded_events : ℕ → MailRecord → ℕ → List mail.MailEvent
loaded_events begin given addr =
    if nat_lt addr begin then mail.Serves (record_gone begin) ∷ mail.Serves (record_gone begin) ∷ mail.Serves (record_gone begin) ∷ []
    else (if nat_lt addr (2 ^ 48) then mail.Serves given ∷ mail.Serves given ∷ [] else [])

-- What the keeper's step is to the mailbox that it serves, in a log with this begin; a read that fails gives nothing.
abbrev pub served_events : ℕ → MailRecord → Bool → ℕ → Serving → List mail.MailEvent
served_events begin given done addr serve.AtRest = []
served_events begin given done addr (serve.LoadsState session) = []
served_events begin given done addr (serve.LoadsAddress session) = loaded_events begin given addr
served_events begin given done addr (serve.Reads session at) = if done then mail.Serves given ∷ [] else []
served_events begin given done addr step = mail.Serves given ∷ []

-- the record that these bytes of the device are: its three words
abbrev pub record_read : List ℕ → MailRecord
record_read read = record_of (number_at read 0) (number_at read 8) (number_at read 16)

-- the keeper serves this mailbox, or changes some other word
abbrev pub keeper_events : Now → List ℕ → ℕ → Bool → List mail.MailEvent
keeper_events n read session done =
    if is_serving session (serving_of n.keeper)
    then served_events (begin_of n.keeper) (record_read read) done (mailbox_of n.words session).addr (serving_of n.keeper)
    else changed_by n.words (keeper_ask n.shape n.places n.keeper)

-- `read` is what a read of the device gives, where the keeper makes one
unfoldable pub life_events : Now → List ℕ → ℕ → Event → List mail.MailEvent
life_events n read session (Calls number call) = called_events n session number call (slice_get n.sessions number)
life_events n read session (Moves number) = moved_events n session number (slice_get n.sessions number)
life_events n read session (KeeperMoves granted done) = keeper_events n read session done
life_events n read session event = []

-- what an event is to the mailbox
abbrev pub mail_events : Now → List ℕ → ℕ → Event → List mail.MailEvent
mail_events n read session event = if n.crashed then [] else life_events n read session event

-- and what a life is, beside its run
unfoldable pub mapped : World → ℕ → List Event → List mail.MailEvent
mapped opening session [] = []
mapped opening session (event ∷ before) = mail_events (run opening before).now (read_by_keeper (run opening before)) session event ++ mapped opening session before
