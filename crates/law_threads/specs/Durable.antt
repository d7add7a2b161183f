-- What a session was told as durable.
use Rattle.std.specs.Prelude.{◌≡◌, ◌≤◌, ℕ, List, ◌++◌}
use Rattle.fkv_base.specs.declared.numbers.Serial.{Serial}
use Rattle.fkv_map.specs.History.{point_of}
use Rattle.law_order.specs.Below.fkv_opening.Opened.{IsStoreOf}
use Rattle.law_order.specs.Below.fkv_opening.TheOpened.{Opened}
use Rattle.fkv_seats.specs.Rule.{AreAllowed}
use Rattle.law_order.specs.Below.fkv_session.Answer.TheVariants.{Durable}
use Rattle.law_order.specs.Below.fkv_world.Runs.{World}
use Rattle.law_order.specs.Below.fkv_world.World.{Now}
use Rattle.law_order.specs.Below.law_commit.ToldPoints.{ToldPoint, finishes_told}
use Rattle.law_log.specs.Trace.{IsIn}
use Rattle.law_order.specs.Below.law_opening.Lives.Reaching.{ReachesFar}
use Rattle.law_order.specs.Prefix.Law.{IsToldDurable, MayBeFound, calls_so_far, past_so_far, trace_so_far}
use Rattle.fkv_table.specs.declared.happenings.Happening.{Happening}
use Rattle.fkv_table.specs.Planes.{plane}
use Rattle.law_threads.specs.Calls.{CallRun, events_of}
use Rattle.law_threads.specs.Laws.{IsWithin}

-- The point is the session's in a commit that is sealed by what the pass has seen behind the answer. It is no less than its point in each commit that was told as
-- finished before the call, those among them that the pass had seen finished.
pub record IsDurable (o : Opened) (n : Now) (bytes : List ℕ) (its : CallRun) (serial : Serial) : Type 0 where
  pub finished : ℕ
  pub seen : finishes_told (trace_so_far n bytes (events_of its.before)) ≤ finished
  pub durable : IsToldDurable o (past_so_far n bytes (events_of its.behind)) its.number (record { point = serial.0; finished = finished })

abbrev pub TellsItsDurable : Opened → Now → List ℕ → CallRun → Type 0
TellsItsDurable o n bytes its = (serial : Serial) → its.answer ≡ Durable serial → IsDurable o n bytes its serial

-- It is no less than each point that the session was told before the call, by what its pass had seen then.
abbrev pub ItsDurableNeverFalls : Opened → Now → List ℕ → CallRun → Type 0
ItsDurableNeverFalls o n bytes its = (serial : Serial) → its.answer ≡ Durable serial
    → (told : ToldPoint) → IsIn told ((past_so_far n bytes (events_of its.before)).told its.number) → told.point ≤ serial.0

-- Each image that may be found behind a crash then or later recovers a point of the session at or above it, if the life began with an image that reaches far and keeps to
-- the premise of the law of prefixes. Later the list has more events that may stand there.
abbrev pub RecoversItsDurable : {K : Type 0} → (K → World) → Opened → Now → List ℕ → CallRun → Type 0
RecoversItsDurable at o n bytes its = (serial : Serial) → its.answer ≡ Durable serial → ReachesFar bytes
    → (later : List Happening) (image : List ℕ) (r : Opened) → AreAllowed (plane at) later → IsWithin o n bytes (events_of (later ++ its.behind)) → MayBeFound bytes (calls_so_far n bytes (events_of (later ++ its.behind))) image → IsStoreOf image r
    → serial.0 ≤ point_of r.points.items its.number
