-- What a poll tells, and how a handle ends.
use Rattle.std.specs.Prelude.{◌≡◌, ◌<◌, ◌≤◌, ◌++◌, ℕ, ℤ, pos, neg_ℤ, min, List, length, map, drop, Some, None}
use Rattle.fkv_session.specs.declared.answers.Answer.{Answer}
use Rattle.fkv_session.specs.declared.answers.Answer.TheVariants as answer
use Rattle.fkv_session.specs.declared.answers.Finished.{Finished}
use Rattle.fkv_session.specs.declared.answers.Finished.TheVariants.{Update, Read}
use Rattle.fkv_handles.specs.Below.fkv_world.Runs.{World}
use Rattle.fkv_handles.specs.declared.sessions.Session.{Session}
use Rattle.fkv_handles.specs.Handles.{Opening, keys_of, sitting_of}
use Rattle.fkv_face.specs.declared.polls.FinishedRequest.{FinishedRequest}
use Rattle.fkv_face.specs.declared.told.Numbers.{Numbers}
use Rattle.fkv_face.specs.Calls.{poll, sleep}
use Rattle.fkv_face.specs.Numbers.{number_in}
use Rattle.fkv_face.specs.Told.{HasAnswered, IsToldIn, numbers_of}
pub use Rattle.std.specs.Prelude.{drop, length, map}
pub use Rattle.fkv_handles.specs.Below.fkv_threads.Models.{opening}

abbrev pub request_of : Finished → FinishedRequest
request_of (Update serial reply) = record { kind = 0; name = serial.0; value = number_in reply }
request_of (Read ticket (Some value)) = record { kind = 1; name = ticket.0; value = value.0 }
request_of (Read ticket None) = record { kind = 2; name = ticket.0; value = 0 }

-- what was finished stands at the front of the room, in order, and behind it the room is as it was
abbrev pub ArePolled : Answer → List FinishedRequest → ℤ → List FinishedRequest → ℕ → Type 0
ArePolled (answer.Polled finished left) room result room' count =
    (result ≡ pos (min left 64)) × (room' ≡ map request_of finished.items ++ drop (length finished.items) room) × (count ≡ length finished.items)
ArePolled other room result room' count = (result ≡ (numbers_of other).result) × (room' ≡ room) × (count ≡ 0)

module _ (at : Opening → World) where
  -- Where there is no room for 64 requests nothing is done.
  pub record IsPolled (before : Session) (room : List FinishedRequest) (result : ℤ) (room' : List FinishedRequest) (count : ℕ) (after : Session) : Type 0 where
    pub small : length room < 64 → (result ≡ neg_ℤ (pos 24)) × (room' ≡ room) × (count ≡ 0) × (after ≡ before)
    pub polled : 64 ≤ length room → (its : Answer) × HasAnswered at before poll its after × ArePolled its room result room' count

  -- The session has slept, or slept already, and its handle is ended; or it has requests that wait, and is as this call has left it.
  pub record IsEnded (before : Session) (result : ℤ) (after : Session) : Type 0 where
    pub told : Numbers
    pub slept : Session
    pub sleeps : IsToldIn at before sleep told slept
    pub left : told.result ≡ neg_ℤ (pos 11) → (result ≡ neg_ℤ (pos 11)) × (after ≡ slept)
    pub ended : ¬ (told.result ≡ neg_ℤ (pos 11)) → (result ≡ pos 0) × (sitting_of after ≡ None) × (keys_of after ≡ keys_of before)
