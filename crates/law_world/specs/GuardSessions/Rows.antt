-- What is known of a session beside the guard, by its control state.
use Rattle.std.specs.Prelude.{◌≡◌, ⊤, ℕ, true, false}
use Rattle.fkv_plane.specs.Passing.{is_done}
use Rattle.fkv_epoch.specs.declared.leaving.Leaving.TheVariants.{StoresZero}
use Rattle.fkv_epoch.specs.declared.protecting.Protecting.{Protecting}
use Rattle.fkv_epoch.specs.declared.protecting.Protecting.TheVariants as protect
use Rattle.fkv_epoch.specs.declared.refreshing.Refreshing.{Refreshing}
use Rattle.fkv_epoch.specs.declared.refreshing.Refreshing.TheVariants as refresh
use Rattle.fkv_epoch.specs.declared.scanning.Scanning.{Scanning}
use Rattle.fkv_epoch.specs.declared.scanning.Scanning.TheVariants as scan
use Rattle.fkv_epoch.specs.declared.claiming.Claiming.{Claiming}
use Rattle.fkv_epoch.specs.declared.claiming.Claiming.TheVariants as claim
use Rattle.fkv_epoch.specs.declared.values.Seen as loaded
use Rattle.fkv_latch.specs.declared.latching.Latching.{Latching}
use Rattle.fkv_latch.specs.declared.latching.Latching.TheVariants as latching
use Rattle.fkv_log.specs.Moving.{move_at_rest}
use Rattle.fkv_log.specs.Shifting.{shift_ask}
use Rattle.fkv_log.specs.declared.turning.TurnForm.TheVariants.{OpensOnly}
use Rattle.fkv_log.specs.declared.turning.Turning.{Turning}
use Rattle.fkv_log.specs.declared.turning.Turning.TheVariants as turn
use Rattle.fkv_pending.proofs.Shown.{AttemptRestsOrAsks}
use Rattle.fkv_session.specs.declared.catching_up.Catching.{Catching}
use Rattle.fkv_session.specs.declared.catching_up.Catching.TheVariants.{Ended, Refreshes, Protects, Latches, Finishes}
use Rattle.fkv_session.specs.declared.own_turns.OwnTurning.{OwnTurning}
use Rattle.fkv_session.specs.declared.own_turns.OwnTurning.TheVariants as turning
use Rattle.fkv_session.specs.declared.sessions.Sitting.{Sitting}
use Rattle.fkv_session.specs.declared.sessions.Sitting.TheVariants.{Attempts, CatchesUp, Polls, Turns, Leaves}
use Rattle.fkv_session.specs.CatchingUp.{CatchState}
use Rattle.fkv_session.specs.OwnTurns.{OwnTurnState}
use Rattle.fkv_session.specs.Sessions.{SessionState}

-- the refresh is at its loads
abbrev pub IsLoading : Refreshing → Type 0
IsLoading refresh.AtRest = ⊥
IsLoading (refresh.HasLoaded epoch values) = ⊥
IsLoading (refresh.StoresEpoch epoch) = ⊥
IsLoading step = ⊤

abbrev pub IsProtecting : Protecting → Type 0
IsProtecting protect.AtRest = ⊥
IsProtecting step = ⊤

-- what was loaded is taken up: of a refresh, which waits, or of one that woke
pub data Holds (c : CatchState) : Type 0 where
  HasWoken : c.is_refresh ≡ false → Holds c
  HasLoaded : (epoch : ℕ) (values : loaded.Seen) → c.is_refresh ≡ true → c.refreshing ≡ refresh.HasLoaded epoch values → Holds c

abbrev pub IsStoring : Refreshing → Type 0
IsStoring step = (epoch : ℕ) × (step ≡ refresh.StoresEpoch epoch)

-- a share is taken, or given back
abbrev pub IsSharing : Latching → Type 0
IsSharing (latching.AddsShare place) = ⊤
IsSharing (latching.GivesBack place) = ⊤
IsSharing step = ⊥

abbrev pub CatchKnows : CatchState → Catching → Type 0
CatchKnows c Ended = ⊤
CatchKnows c Refreshes = (c.is_refresh ≡ true) × IsLoading c.refreshing
CatchKnows c Protects = (c.is_refresh ≡ false) × IsProtecting c.protecting
CatchKnows c (Latches index) = Holds c × IsSharing c.latching
CatchKnows c Finishes = IsStoring c.refreshing
CatchKnows c step = Holds c

-- a machine inside a session's own turn is under way, and its turn of a page opens only
abbrev pub IsScanning : Scanning → Type 0
IsScanning scan.AtRest = ⊥
IsScanning step = ⊤

abbrev pub IsClaiming : Claiming → Type 0
IsClaiming claim.AtRest = ⊥
IsClaiming step = ⊤

abbrev pub IsOpening : Turning → Type 0
IsOpening (turn.LoadsLimit OpensOnly tail) = ⊤
IsOpening (turn.LoadsClosed OpensOnly limit) = ⊤
IsOpening (turn.RaisesLimit limit) = ⊤
IsOpening step = ⊥

abbrev pub OwnTurnKnows : OwnTurnState → OwnTurning → Type 0
OwnTurnKnows o turning.Ended = ⊤
OwnTurnKnows o turning.Scans = IsScanning o.scanning
OwnTurnKnows o turning.Claims = IsClaiming o.claiming
OwnTurnKnows o turning.Shifts = is_done (shift_ask o.shift) ≡ false
OwnTurnKnows o turning.Opens = (o.turn.mover ≡ move_at_rest) × IsOpening o.turn.step

-- what is known of a session, by its control state
abbrev pub SittingKnows : SessionState → Sitting → Type 0
SittingKnows s (Attempts has_shifted) = AttemptRestsOrAsks s.attempt
SittingKnows s (Polls index) = AttemptRestsOrAsks s.attempt
SittingKnows s (CatchesUp cause) = CatchKnows s.catching s.catching.step
SittingKnows s (Turns its) = OwnTurnKnows s.own_turn s.own_turn.step
SittingKnows s Leaves = s.leaving ≡ StoresZero
SittingKnows s step = ⊤
