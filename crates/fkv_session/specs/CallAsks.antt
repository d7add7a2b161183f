-- What a call has asked, each with its reply.
use Rattle.std.specs.Prelude.{◌≡◌, ◌⊎◌, ℕ, if◌then◌else◌, true, List, [], ◌∷◌}
use Rattle.fkv_plane.specs.declared.asks.Ask.{Ask}
use Rattle.fkv_plane.specs.Passing.{passed}
use Rattle.fkv_ops.specs.TryRun as try
use Rattle.fkv_session.specs.declared.answers.Told.{Told}
use Rattle.fkv_session.specs.declared.answers.Told.TheVariants as told
use Rattle.fkv_session.specs.declared.sessions.Sitting.TheVariants.{Idle}
use Rattle.fkv_session.specs.InOrder.{Exchange}
use Rattle.fkv_session.specs.Sessions.{SessionState, Seat, is_busy, session_ask}
use Rattle.fkv_session.specs.SessionRun.{SessionEvent, Begins, Replies, Gets, session_run}

abbrev pub asked_by : Seat → SessionState → SessionEvent → List Exchange → List Exchange
asked_by k s (Begins its) before = if is_busy s.step then before else []
asked_by k s (Replies reply) before = record { ask = session_ask k s; reply = reply } ∷ before
asked_by k s (Gets action) before = before

-- what the session has asked since its last call began, the newest first
unfoldable pub asked_in_call : Seat → SessionState → List SessionEvent → List Exchange
asked_in_call k opening [] = []
asked_in_call k opening (event ∷ before) = asked_by k (session_run k opening before) event (asked_in_call k opening before)

-- an ask is among these, with this reply
abbrev pub IsAsked : List Exchange → Ask Told → ℕ → Type 0
IsAsked [] ask reply = ⊥
IsAsked (it ∷ before) ask reply = ((it.ask ≡ ask) × (it.reply ≡ reply)) ⊎ IsAsked before ask reply

-- so is what a try asks, which the session passes on
abbrev pub told_in : List Exchange → try.Told
told_in asked ask reply = IsAsked asked (passed ask told.Slept) reply

-- an event ends the call in hand, with this answer
pub record Ends (k : Seat) (opening : SessionState) (event : SessionEvent) (before : List SessionEvent) (its : Told) : Type 0 where
  pub in_hand : is_busy (session_run k opening before).step ≡ true
  pub its_answer : (session_run k opening (event ∷ before)).step ≡ Idle its
