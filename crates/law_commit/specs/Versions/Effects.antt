-- At which version a session has accepted the update of an effect.
use Rattle.std.specs.Prelude.{◌≡◌, ◌⊎◌, ◌+◌, ◌<◌, nat_le, ℕ, true, List, [], ◌∷◌}
use Rattle.law_refine.specs.Below.fkv_session.Sessions.{SessionState, is_busy}
use Rattle.law_refine.specs.Below.fkv_session.Versions.{TakenAt, versions_taken}
use Rattle.law_refine.specs.Below.fkv_world.OwnEvents.{session_events}
use Rattle.law_refine.specs.Below.fkv_world.Past.{Effect}
use Rattle.law_refine.specs.Below.fkv_world.Runs.{World, run}
use Rattle.law_refine.specs.Below.fkv_world.World.{Event, seat_at}
use Rattle.law_log.specs.Trace.{IsIn}
use Rattle.law_commit.specs.Accepted.{point}

-- the serial was taken at this version
abbrev pub IsTakenAt : List TakenAt → ℕ → ℕ → Type 0
IsTakenAt [] serial version = ⊥
IsTakenAt (it ∷ before) serial version = ((it.serial ≡ serial) × (it.version ≡ version)) ⊎ IsTakenAt before serial version

-- or it is the next, and the update of a call in hand takes effect at the session's version before the call is answered
abbrev pub IsNextAt : SessionState → ℕ → ℕ → Type 0
IsNextAt s serial version = (is_busy s.step ≡ true) × (serial ≡ s.serial + 1) × (version ≡ s.seen.version.0)

-- the serials that a session has taken in a life
abbrev pub taken_so_far : World → ℕ → SessionState → List Event → List TakenAt
taken_so_far opening session first events = versions_taken (seat_at opening.now session) first (session_events opening session events)

-- Each effect of a session is of the version at which its serial was taken, or is to be taken.
abbrev pub HasEffectsOfItsVersions : World → ℕ → SessionState → SessionState → List Event → Type 0
HasEffectsOfItsVersions opening session first its events =
    (effect : Effect) → IsIn effect (run opening events).past.history → effect.entry.session ≡ session
    → IsTakenAt (taken_so_far opening session first events) effect.entry.serial.0 effect.version.0 ⊎ IsNextAt its effect.entry.serial.0 effect.version.0

-- If a session has left a version, its point splits its effects: just those have a serial up to it that are of this version or an earlier one.
abbrev pub PointSplits : World → ℕ → SessionState → List Event → Type 0
PointSplits opening session its events =
    (effect : Effect) (version : ℕ) → version < its.seen.version.0 → IsIn effect (run opening events).past.history → effect.entry.session ≡ session
    → nat_le effect.entry.serial.0 (point opening events session version) ≡ nat_le effect.version.0 version
