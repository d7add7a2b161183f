-- What a step of a session is to the log, by its control state: what its attempt is.
use Rattle.std.specs.Prelude.{ℕ, List, [], ◌∷◌, ◌++◌}
use Rattle.fkv_map.specs.declared.operations.Op.{Op}
use Rattle.fkv_map.specs.declared.operations.Op.TheVariants.{Read}
use Rattle.law_log.specs.Ghosts.{GhostEvent, TakesValue}
use Rattle.fkv_plane.specs.declared.asks.Ask.{Ask}
use Rattle.fkv_plane.specs.declared.asks.Ask.TheVariants.{Put, Take, Done}
use Rattle.fkv_plane.specs.Asked.{reply_to}
use Rattle.law_world.specs.Below.fkv_ops.TryAnswer.{TryAnswer}
use Rattle.law_world.specs.Below.fkv_ops.TryAnswer.TheVariants.{Found, Absent}
use Rattle.law_world.specs.Below.fkv_pending.TheAttempting.{Attempting}
use Rattle.law_world.specs.Below.fkv_pending.TheAttempting.TheVariants.{Tries}
use Rattle.law_world.specs.Below.fkv_pending.RequestName.{RequestName}
use Rattle.law_world.specs.Below.fkv_pending.RequestName.TheVariants as name
use Rattle.law_world.specs.Below.fkv_pending.Attempting.{AttemptState, attempt_ask, attempt_next}
use Rattle.law_world.specs.Below.fkv_session.Told.{Told}
use Rattle.law_world.specs.Below.fkv_session.Sitting.{Sitting}
use Rattle.law_world.specs.Below.fkv_session.Sitting.TheVariants.{Attempts, Polls}
use Rattle.law_world.specs.Below.fkv_session.Sessions.{SessionState, Seat, bits_of, room_of}
use Rattle.law_world.specs.Below.fkv_world.Past.{Traced}
use Rattle.law_refine.specs.Events.Lines.{read_in_hand, read_waiting}
use Rattle.law_refine.specs.Events.Tries.{try_ghosts}

-- a read takes its value in the step that ends its attempt: from a record in memory, from one that came by the mailbox, or none where the chain ends
abbrev pub value_ghosts : Op → ℕ → Ask TryAnswer → List GhostEvent
value_ghosts (Read key) reader (Done (Found value)) = TakesValue reader ∷ []
value_ghosts (Read key) reader (Done Absent) = TakesValue reader ∷ []
value_ghosts op reader ask = []

-- what the try is, where it makes the step
abbrev pub tried_ghosts : Seat → ℕ → AttemptState → Attempting → ℕ → List GhostEvent
tried_ghosts k reader a Tries reply = try_ghosts k.places (room_of k) k.number reader a.pending a.trial a.trial.step reply
tried_ghosts k reader a step reply = []

-- an attempt for the read of this number, or for an update
abbrev pub attempt_ghosts : Seat → ℕ → AttemptState → ℕ → List GhostEvent
attempt_ghosts k reader a reply =
    value_ghosts a.pending.request.op reader (attempt_ask k.places k.number (attempt_next k.places (bits_of k) (room_of k) k.number a reply)) ++ tried_ghosts k reader a a.step reply

-- the ticket of a read that waits
abbrev pub ticket_of : RequestName → ℕ
ticket_of (name.Update serial) = 0
ticket_of (name.Read ticket) = ticket.0

-- what is attempted is the call in hand, or in a poll a request that waits
abbrev pub sitting_ghosts : Seat → List Traced → SessionState → Sitting → ℕ → List GhostEvent
sitting_ghosts k trace s (Attempts has_shifted) reply = attempt_ghosts k (read_in_hand k.number trace) s.attempt reply
sitting_ghosts k trace s (Polls index) reply = attempt_ghosts k (read_waiting k.number (ticket_of s.attempt.pending.name) trace) s.attempt reply
sitting_ghosts k trace s step reply = []

-- a step is one where the session asks for a word; the newest event first
unfoldable pub step_ghosts : Seat → List Traced → SessionState → List ℕ → Ask Told → List GhostEvent
step_ghosts k trace s words (Done its) = []
step_ghosts k trace s words (Put slot action) = []
step_ghosts k trace s words (Take slot) = []
step_ghosts k trace s words ask = sitting_ghosts k trace s s.step (reply_to words ask)
