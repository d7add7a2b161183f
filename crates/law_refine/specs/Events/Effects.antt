-- What takes effect by a step of a session, beside the log's events of that step.
use Rattle.std.specs.Prelude.{◌≡◌, ⊤, ℕ, true, List, [], ◌∷◌, Option, Some, None, slice_get}
use Rattle.fkv_base.specs.declared.numbers.Version.{Version}
use Rattle.fkv_map.specs.declared.history.HistoryEntry.{HistoryEntry}
use Rattle.fkv_map.specs.Keys.{key_of, value_applied, reply_from}
use Rattle.law_world.specs.Below.fkv_ops.Values.{value_of, word_of}
use Rattle.law_log.specs.Ghosts.{GhostEvent, Publishes, Changes}
use Rattle.law_world.specs.Below.fkv_ops.Requests.{is_read}
use Rattle.law_world.specs.Below.fkv_session.Sitting.{Sitting}
use Rattle.law_world.specs.Below.fkv_session.Sitting.TheVariants.{Attempts, Polls}
use Rattle.fkv_index.specs.Slots.{entry_addr}
use Rattle.fkv_plane.specs.declared.asks.Ask.{Ask}
use Rattle.fkv_plane.specs.declared.places.Places.{Places}
use Rattle.fkv_plane.specs.declared.places.RecordWord.TheVariants as rec
use Rattle.fkv_plane.specs.Asked.{asked, asked_place, reply_to}
use Rattle.fkv_plane.specs.Places.{record_place}
use Rattle.law_world.specs.Below.fkv_session.Sessions.{SessionState, Seat, session_ask, session_next}
use Rattle.law_world.specs.Below.fkv_world.Past.{Effect, Traced, effect_made}
use Rattle.law_world.specs.Below.fkv_world.World.{Event, Moves, Now, seat_at}
use Rattle.law_refine.specs.Events.Reservations.{Reservation}
use Rattle.law_refine.specs.Events.Reserved.{reserved_by}
use Rattle.law_refine.specs.Events.Sessions.{sitting_ghosts}

-- no update takes effect by these
abbrev pub is_quiet : GhostEvent → Type 0
is_quiet (Changes a entry) = ⊥
is_quiet (Publishes a) = ⊥
is_quiet event = ⊤

abbrev pub AreQuiet : List GhostEvent → Type 0
AreQuiet [] = ⊤
AreQuiet (event ∷ before) = is_quiet event × AreQuiet before

-- A step: the place of the word that it asks for, the word that it finds there and the one that it leaves, the version of the request that is
-- attempted, and what the session has reserved until then.
pub record Stepped : Type 0 where
  pub places : Places
  pub place : Option ℕ
  pub found : ℕ
  pub word : ℕ
  pub version : Version
  pub reserved : Option Reservation

-- by its ask and the reply
abbrev pub stepped : {A : Type 0} → Places → Version → Option Reservation → Ask A → ℕ → Stepped
stepped p version reserved ask reply = record { places = p; place = asked_place ask; found = reply; word = asked ask reply; version = version; reserved = reserved }

-- It asks for the value word of the record at this address, and leaves there what the entry's operation makes of the value that it finds. Of that
-- value is the entry's reply.
pub record ChangesAt (its_step : Stepped) (a : ℕ) (entry : HistoryEntry) : Type 0 where
  pub there : its_step.place ≡ Some (record_place its_step.places a rec.Value)
  pub value : its_step.word ≡ word_of (value_applied (value_of its_step.found) entry.op)
  pub replied : entry.reply ≡ reply_from (value_of its_step.found) entry.op

-- The record is the one that was reserved, of its entry's key and of the request's version. The word that the step finds carries the address of the
-- record before it, and the one that it leaves its own.
pub record PublishesIt (its_step : Stepped) (its : Reservation) : Type 0 where
  pub reserved : its_step.reserved ≡ Some its
  pub its_key : its.cell.key ≡ (key_of its.entry.op).0
  pub its_version : its.cell.version ≡ its_step.version.0
  pub previous : entry_addr its_step.found ≡ its.cell.previous
  pub its_addr : entry_addr its_step.word ≡ its.addr

-- By a step's events takes effect: nothing; the update that changes a record in place; or the one for which the record was reserved that is published.
pub data TakesEffect (its_step : Stepped) : List GhostEvent → Option HistoryEntry → Type 0 where
  Quietly : (events : List GhostEvent) → AreQuiet events → TakesEffect its_step events None
  Behind : (event : GhostEvent) {events : List GhostEvent} {made : Option HistoryEntry} → is_quiet event → TakesEffect its_step events made → TakesEffect its_step (event ∷ events) made
  InPlace : (a : ℕ) (entry : HistoryEntry) → ChangesAt its_step a entry → TakesEffect its_step (Changes a entry ∷ []) (Some entry)
  ByRecord : (its : Reservation) → PublishesIt its_step its → TakesEffect its_step (Publishes its.addr ∷ []) (Some its.entry)

-- the step of a session that gets this reply
abbrev pub step_of : Seat → SessionState → ℕ → Stepped
step_of k s reply = stepped k.places s.attempt.pending.request.version (reserved_by k.number s) (session_ask k s) reply

-- the effect that a reply to the session makes is what takes effect by the log's events of the step
abbrev pub TakesItsEffect : Seat → List Traced → SessionState → ℕ → Type 0
TakesItsEffect k trace s reply = TakesEffect (step_of k s reply) (sitting_ghosts k trace s s.step reply) (session_next k s reply).effect

-- what the session attempts is a read
abbrev pub AttemptsRead : SessionState → Sitting → Type 0
AttemptsRead s (Attempts has_shifted) = is_read s.attempt.pending.request.op ≡ true
AttemptsRead s (Polls index) = is_read s.attempt.pending.request.op ≡ true
AttemptsRead s step = ⊥

-- by a reply to it no update takes effect, and it makes none
pub record TakesNoEffect (k : Seat) (trace : List Traced) (s : SessionState) (reply : ℕ) : Type 0 where
  pub quiet : AreQuiet (sitting_ghosts k trace s s.step reply)
  pub none : (session_next k s reply).effect ≡ None

-- ---- of an event of a life
-- the step of the session that moves; no other event makes one
abbrev pub no_step : Now → Stepped
no_step n = record { places = n.places; place = None; found = 0; word = 0; version = record { 0 = 0 }; reserved = None }

abbrev pub mover_step : Now → ℕ → Option SessionState → Stepped
mover_step n number None = no_step n
mover_step n number (Some s) = step_of (seat_at n number) s (reply_to n.words (session_ask (seat_at n number) s))

abbrev pub step_at : Now → Event → Stepped
step_at n (Moves number) = mover_step n number (slice_get n.sessions number)
step_at n event = no_step n

-- from this history to that one: what takes effect by these events of a step is put at its front, in the version of the request that is attempted, and
-- where nothing does it stays
pub record MakesEffect (before after : List Effect) (its_step : Stepped) (events : List GhostEvent) : Type 0 where
  pub made : Option HistoryEntry
  pub history : after ≡ effect_made made its_step.version before
  pub takes : TakesEffect its_step events made
