-- What takes effect while a session's call of an operation is in hand, and what its answer says of that.
use Rattle.std.specs.Prelude.{◌≡◌, ◌⊎◌, ℕ, true, false, replicate, List, ◌∷◌, ◌++◌, Some, slice_get}
use Rattle.fkv_map.specs.declared.operations.Call.TheVariants as call
use Rattle.fkv_map.specs.declared.operations.Op.{Op}
use Rattle.law_world.specs.Below.fkv_ops.Requests.{is_read}
use Rattle.law_world.specs.Below.fkv_session.Told.{Told}
use Rattle.law_world.specs.Below.fkv_session.Told.TheVariants as told
use Rattle.law_world.specs.Below.fkv_session.Sessions.{SessionState, is_busy}
use Rattle.law_world.specs.Below.fkv_world.Past.{Effect}
use Rattle.law_world.specs.Below.fkv_world.Runs.{World, run}
use Rattle.law_world.specs.Below.fkv_world.World.{Event, Calls, Moves, Now}

-- the session of this number begins a call of an operation, and then makes so many moves, and nobody else does anything
abbrev pub in_call : ℕ → ℕ → Op → List Event → List Event
in_call number moves op before = replicate moves (Moves number) ++ Calls number (call.Op op) ∷ before

-- no session has a call in hand
abbrev pub NobodyCalls : Now → Type 0
NobodyCalls n = (number : ℕ) (s : SessionState) → slice_get n.sessions number ≡ Some s → is_busy s.step ≡ false

-- what has taken effect in a life so far, the newest first
abbrev pub history_at : World → List Event → List Effect
history_at opening events = (run opening events).past.history

-- one update has taken effect since: this session's, of this operation and this serial, which is no read
pub record TakesEffect (number : ℕ) (op : Op) (serial : ℕ) (before after : List Effect) : Type 0 where
  pub effect : Effect
  pub at_front : after ≡ effect ∷ before
  pub its_session : effect.entry.session ≡ number
  pub its_op : effect.entry.op ≡ op
  pub its_serial : effect.entry.serial.0 ≡ serial
  pub update : is_read op ≡ false

-- nothing has taken effect since, or the one update has
abbrev pub StaysOrTakes : ℕ → Op → ℕ → List Effect → List Effect → Type 0
StaysOrTakes number op serial before after = (after ≡ before) ⊎ TakesEffect number op serial before after

-- A call of an operation that is answered: an update that is told as done has taken effect with the reply that it was told, and else nothing
-- has. What a read is told is told to reads only, and an operation is told nothing else.
abbrev pub IsResult : ℕ → Op → ℕ → List Effect → List Effect → Told → Type 0
IsResult number op serial before after (told.Done its reply) = (taken : TakesEffect number op serial before after) × (taken.effect.entry.reply ≡ reply) × (its.0 ≡ serial)
IsResult number op serial before after (told.Pending its why) = (after ≡ before) × (is_read op ≡ false) × (its.0 ≡ serial)
IsResult number op serial before after (told.Refused why) = after ≡ before
IsResult number op serial before after (told.Found value) = (after ≡ before) × (is_read op ≡ true)
IsResult number op serial before after told.Absent = (after ≡ before) × (is_read op ≡ true)
IsResult number op serial before after (told.PendingRead ticket) = (after ≡ before) × (is_read op ≡ true)
IsResult number op serial before after its = ⊥
