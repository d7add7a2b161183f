-- A read that has to wait gives a value that its key had by then.
use Rattle.std.specs.Prelude.{◌≡◌, ℕ, List, ◌∷◌, ◌++◌, Some, false, slice_get}
use Rattle.law_opening.specs.Below.fkv_core.Openings.{beginning}
use Rattle.fkv_map.specs.declared.operations.Reply.{Reply}
use Rattle.law_opening.specs.Below.fkv_opening.TheOpened.{Opened}
use Rattle.law_commit.specs.Below.fkv_pending.PendingRequest.{PendingRequest}
use Rattle.law_commit.specs.Below.fkv_pending.RequestName.TheVariants.{Read}
use Rattle.law_commit.specs.Below.fkv_pending.Ticket.{Ticket}
use Rattle.law_commit.specs.Below.fkv_session.Sessions.{SessionState, is_busy}
use Rattle.law_commit.specs.Below.fkv_world.Runs.{run}
use Rattle.law_commit.specs.Below.fkv_world.World.{Event, Now}
use Rattle.law_log.specs.Trace.{AnswersRead, CallsRead, IsIn, history_of}
use Rattle.law_opening.specs.Log.Maps.{opening_map}
use Rattle.law_order.specs.Known.Begins.{BeginStays}
use Rattle.law_order.specs.Ordered.Met.{WasToldGone}
use Rattle.law_order.specs.Rules.InTime.{IsInTime}
use Rattle.law_order.specs.Rules.Ordered.{effects_so_far}
use Rattle.law_commit.specs.Below.law_refine.Calls.Calls.{event_adds}
use Rattle.law_commit.specs.Below.law_refine.Events.Lines.{read_waiting}

-- a session at rest has a read that waits under this ticket
pub record HasWaiting (n : Now) (number : ℕ) (ticket : Ticket) : Type 0 where
  pub s : SessionState
  pub found : slice_get n.sessions number ≡ Some s
  pub idle : is_busy s.step ≡ false
  pub index : ℕ
  pub pending : PendingRequest
  pub got : slice_get s.requests index ≡ Some pending
  pub its_name : pending.name ≡ Read ticket

-- the number of the read for which the session was told this ticket last
abbrev pub waiting_read : Now → List ℕ → List Event → ℕ → Ticket → ℕ
waiting_read n bytes events number ticket = read_waiting number ticket.0 (run (beginning n bytes) events).past.trace

-- Where a read waits at a moment at which its session rests, and is answered later, it gives its key's value at some moment between its call and that one. So it
-- is where its session was told of no record that is gone until then.
abbrev pub UntoldReadsInTime : Opened → Now → List ℕ → List Event → Type 0
UntoldReadsInTime o n bytes events =
    (later between since earlier : List Event) (call answer : Event) (number key : ℕ) (ticket : Ticket) (reply : Reply) → events ≡ later ++ answer ∷ (between ++ (since ++ call ∷ earlier))
    → ((begin : ℕ) → WasToldGone (beginning n bytes) number (between ++ (since ++ call ∷ earlier)) begin → ⊥)
    → HasWaiting (run (beginning n bytes) (since ++ call ∷ earlier)).now number ticket
    → IsIn (CallsRead (waiting_read n bytes (since ++ call ∷ earlier) number ticket) key) (event_adds (beginning n bytes) earlier call)
    → IsIn (AnswersRead (waiting_read n bytes (since ++ call ∷ earlier) number ticket) reply) (event_adds (beginning n bytes) (between ++ (since ++ call ∷ earlier)) answer)
    → IsInTime (opening_map bytes o) (history_of (effects_so_far n bytes (call ∷ earlier))) (history_of (effects_so_far n bytes (since ++ call ∷ earlier))) key reply

-- So it is for each session while the log begins where it did at first. From then on a read may be told that its record is gone, and finds its entry again.
abbrev pub WaitingReadsInTime : Opened → Now → List ℕ → List Event → Type 0
WaitingReadsInTime o n bytes events =
    (later between since earlier : List Event) (call answer : Event) (number key : ℕ) (ticket : Ticket) (reply : Reply) → events ≡ later ++ answer ∷ (between ++ (since ++ call ∷ earlier))
    → BeginStays (beginning n bytes) (answer ∷ (between ++ (since ++ call ∷ earlier)))
    → HasWaiting (run (beginning n bytes) (since ++ call ∷ earlier)).now number ticket
    → IsIn (CallsRead (waiting_read n bytes (since ++ call ∷ earlier) number ticket) key) (event_adds (beginning n bytes) earlier call)
    → IsIn (AnswersRead (waiting_read n bytes (since ++ call ∷ earlier) number ticket) reply) (event_adds (beginning n bytes) (between ++ (since ++ call ∷ earlier)) answer)
    → IsInTime (opening_map bytes o) (history_of (effects_so_far n bytes (call ∷ earlier))) (history_of (effects_so_far n bytes (since ++ call ∷ earlier))) key reply
