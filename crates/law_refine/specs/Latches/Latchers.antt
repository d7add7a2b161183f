-- The machine with which a session works on a latch, and what it holds alone, by its control state.
use Rattle.std.specs.Prelude.{ℕ, Bool, if◌then◌else◌, List, [], ◌∷◌}
use Rattle.fkv_plane.specs.declared.places.Places.{Places}
use Rattle.fkv_plane.specs.Places.{bucket_place}
use Rattle.fkv_latch.specs.declared.latching.Latching.{Latching}
use Rattle.fkv_latch.specs.declared.latching.Latching.TheVariants.{AtRest}
use Rattle.law_world.specs.Below.fkv_ops.TheTrying.{Trying}
use Rattle.law_world.specs.Below.fkv_ops.TheTrying.TheVariants.{TakesShared, TakesExclusive, DropsExclusive, DropsShared, LoadsOld, Appends, LoadsTail, LoadsTaken}
use Rattle.law_world.specs.Below.fkv_ops.Trying.{TryState}
use Rattle.law_world.specs.Below.fkv_pending.TheAttempting.{Attempting}
use Rattle.law_world.specs.Below.fkv_pending.TheAttempting.TheVariants.{Tries}
use Rattle.law_world.specs.Below.fkv_pending.Attempting.{AttemptState}
use Rattle.law_world.specs.Below.fkv_session.Catching.{Catching}
use Rattle.law_world.specs.Below.fkv_session.Catching.TheVariants.{Latches}
use Rattle.law_world.specs.Below.fkv_session.Sitting.{Sitting}
use Rattle.law_world.specs.Below.fkv_session.Sitting.TheVariants.{Attempts, CatchesUp, Polls}
use Rattle.law_world.specs.Below.fkv_session.CatchingUp.{CatchState}
use Rattle.law_world.specs.Below.fkv_session.Sessions.{SessionState}

-- the place of the latch of a try's bucket
abbrev pub its_latch : Places → TryState → ℕ
its_latch p t = bucket_place p t.home.bucket 7

-- a try works on a latch where it takes one and where it drops one
abbrev pub try_latching : TryState → Trying → Latching
try_latching t TakesShared = t.latching
try_latching t (TakesExclusive old) = t.latching
try_latching t (DropsExclusive its) = t.latching
try_latching t (DropsShared its) = t.latching
try_latching t step = AtRest

abbrev pub attempt_latching : AttemptState → Attempting → Latching
attempt_latching a Tries = try_latching a.trial a.trial.step
attempt_latching a step = AtRest

-- and a session that catches up where it takes the latches of what waits
abbrev pub catch_latching : CatchState → Catching → Latching
catch_latching c (Latches index) = c.latching
catch_latching c step = AtRest

abbrev pub sitting_latching : SessionState → Sitting → Latching
sitting_latching s (Attempts has_shifted) = attempt_latching s.attempt s.attempt.step
sitting_latching s (Polls index) = attempt_latching s.attempt s.attempt.step
sitting_latching s (CatchesUp cause) = catch_latching s.catching s.catching.step
sitting_latching s step = AtRest

-- of a session, at rest where no latch is worked on
abbrev pub session_latching : SessionState → Latching
session_latching s = sitting_latching s s.step

-- the latch that a try holds alone: no longer than it makes its new record
abbrev pub held_if : ℕ → Bool → List ℕ
held_if place has = if has then place ∷ [] else []

abbrev pub try_alone : Places → TryState → Trying → List ℕ
try_alone p t LoadsOld = held_if (its_latch p t) t.has_exclusive
try_alone p t (Appends its) = held_if (its_latch p t) t.has_exclusive
try_alone p t (LoadsTail waiting) = held_if (its_latch p t) t.has_exclusive
try_alone p t (LoadsTaken waiting) = held_if (its_latch p t) t.has_exclusive
try_alone p t step = []

abbrev pub attempt_alone : Places → AttemptState → Attempting → List ℕ
attempt_alone p a Tries = try_alone p a.trial a.trial.step
attempt_alone p a step = []

abbrev pub sitting_alone : Places → SessionState → Sitting → List ℕ
sitting_alone p s (Attempts has_shifted) = attempt_alone p s.attempt s.attempt.step
sitting_alone p s (Polls index) = attempt_alone p s.attempt s.attempt.step
sitting_alone p s step = []

-- the latches that a session holds alone
abbrev pub session_alone : Places → SessionState → List ℕ
session_alone p s = sitting_alone p s s.step
