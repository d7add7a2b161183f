-- When each record from an address on is of a later version than a commit's.
use Rattle.std.specs.Prelude.{◌≡◌, ◌<◌, ◌+◌, ◌≤◌, ⊤, ℕ, true, List, [], ◌∷◌, ◌++◌, Some, slice_get}
use Rattle.fkv_base.specs.declared.phases.Phase.TheVariants.{WaitFlush, WaitPending}
use Rattle.law_refine.specs.Below.fkv_commit.Commit.{Commit}
use Rattle.law_refine.specs.Below.fkv_session.Sitting.{Sitting}
use Rattle.law_refine.specs.Below.fkv_session.Sitting.TheVariants.{Polls}
use Rattle.law_refine.specs.Below.fkv_session.Sessions.{SessionState}
use Rattle.fkv_words.specs.PhaseWords.{phase_said}
use Rattle.fkv_words.specs.declared.phase_words.PhaseSaid.{PhaseSaid}
use Rattle.fkv_words.specs.declared.phase_words.PhaseSaid.TheVariants.{Says}
use Rattle.law_refine.specs.Below.fkv_world.Opened.{HasBecome, IsOpenedWorld}
use Rattle.law_refine.specs.Below.fkv_world.Runs.{World, run}
use Rattle.law_refine.specs.Below.fkv_world.World.{Event, Now}
use Rattle.law_refine.specs.Below.law_world.Guarded.Shows as guard
use Rattle.law_log.specs.Ghosts.{Ghosts}
use Rattle.law_refine.specs.Events.GhostEvents.{life_ghosts}
use Rattle.law_refine.specs.Events.Reserved.{IsUnbornFrom, tail_at}
use Rattle.law_commit.specs.Floor.Stands.{OpensSeen}
use Rattle.law_commit.specs.PhaseStores.{phase_at}
use Rattle.law_commit.specs.Versions.Cells.{CellsFrom}
use Rattle.law_commit.specs.Versions.Requests.{AttemptsSo, IsUpdateSo}

-- what each session attempts is of a later version than this, if it is an update
abbrev pub AttemptLater : ℕ → Now → Type 0
AttemptLater version n = (session : ℕ) (s : SessionState) → slice_get n.sessions session ≡ Some s → AttemptsSo (λ its. version < its) s s.step

-- so it was at each moment since one
abbrev pub AttemptedLater : ℕ → World → List Event → List Event → Type 0
AttemptedLater version opening [] before = ⊤
AttemptedLater version opening (event ∷ later) before = AttemptLater version (run opening (later ++ before)).now × AttemptedLater version opening later before

-- if the tail wasn't above an address then, each record from there on is of a later version
abbrev pub MakesLaterFrom : Type 0
MakesLaterFrom =
    (opening : World) (start : ℕ) (ghosts : Ghosts) (later before : List Event) (bound version : ℕ) → guard.IsOpened opening.now start → IsUnbornFrom (tail_at opening.now) ghosts
    → tail_at (run opening before).now ≤ bound → AttemptedLater version opening later before → CellsFrom bound (version + 1) (life_ghosts opening ghosts (later ++ before)).log

-- ---- the commit in hand
-- the phase word says wait-pending or wait-flush
abbrev pub IsFromPending : PhaseSaid → Type 0
IsFromPending (Says WaitPending version) = ⊤
IsFromPending (Says WaitFlush version) = ⊤
IsFromPending said = ⊥

-- then each session that is awake goes by a later version than the commit's
abbrev pub GoesByLater : Type 0
GoesByLater =
    (opening : World) (start : ℕ) (events : List Event) (c : Commit) (session : ℕ) (first its : SessionState) → guard.IsOpened opening.now start → OpensSeen opening.now
    → (run opening events).now.keeper.commit ≡ Some c → IsFromPending (phase_said (phase_at (run opening events).now)) → HasBecome opening events session first its → its.is_awake ≡ true
    → c.number.0 < its.seen.version.0

-- what a poll attempts is of a later version than this, if it is an update
abbrev pub PollsSo : (ℕ → Type 0) → SessionState → Sitting → Type 0
PollsSo P s (Polls index) = IsUpdateSo P s.attempt.pending
PollsSo P s step = ⊤

abbrev pub PollLater : ℕ → Now → Type 0
PollLater version n = (session : ℕ) (s : SessionState) → slice_get n.sessions session ≡ Some s → PollsSo (λ its. version < its) s s.step

-- so what each session attempts is of a later one, if what polls attempt is
abbrev pub AttemptsLaterButPolls : Type 0
AttemptsLaterButPolls =
    (opening : World) (start : ℕ) (events : List Event) (c : Commit) → guard.IsOpened opening.now start → IsOpenedWorld opening → OpensSeen opening.now
    → (run opening events).now.keeper.commit ≡ Some c → IsFromPending (phase_said (phase_at (run opening events).now)) → PollLater c.number.0 (run opening events).now
    → AttemptLater c.number.0 (run opening events).now
