-- The stamps of a session's views are the epochs that the guard has for its loads of the phase: of the view by which it goes, that of the load in force.
use Rattle.std.specs.Prelude.{◌≡◌, ⊤, ℕ, Bool, true, false, Option, Some, None, List}
use Rattle.fkv_epoch.specs.declared.refreshing.Refreshing.{Refreshing}
use Rattle.fkv_epoch.specs.declared.refreshing.Refreshing.TheVariants as refresh
use Rattle.fkv_epoch.specs.declared.protecting.Protecting.{Protecting}
use Rattle.fkv_epoch.specs.declared.protecting.Protecting.TheVariants as protect
use Rattle.fkv_epoch.specs.EpochWorld as epochs
use Rattle.fkv_epoch.specs.EpochWorld.{EpochMachine, Loads, epoch_of, sight_of, with_load}
use Rattle.fkv_latch.specs.declared.latching.Latching.{Latching}
use Rattle.fkv_latch.specs.declared.latching.Latching.TheVariants as latching
use Rattle.fkv_plane.specs.declared.places.Places.{Places}
use Rattle.law_refine.specs.Below.fkv_pending.PendingRequest.{PendingRequest}
use Rattle.law_refine.specs.Below.fkv_session.Catching.{Catching}
use Rattle.law_refine.specs.Below.fkv_session.Catching.TheVariants as catching
use Rattle.law_refine.specs.Below.fkv_session.Sitting.{Sitting}
use Rattle.law_refine.specs.Below.fkv_session.Sitting.TheVariants.{CatchesUp, Idle, LoadsDurable}
use Rattle.law_refine.specs.Below.fkv_session.CatchingUp.{CatchState, catching_next}
use Rattle.law_refine.specs.Below.fkv_session.Sessions.{SessionState}
use Rattle.law_commit.specs.Views.{Sight, View, loads_phase, with_loaded}

-- ---- what a step of catching up is to the epochs: the machine that moves, what it loads, and what is in force then (as `loaded` and `in_force_by` of fkv_epoch have it)
abbrev pub driven : CatchState → Catching → Option EpochMachine
driven c catching.Refreshes = Some (epochs.Refreshes c.refreshing)
driven c catching.Protects = Some (epochs.Protects c.protecting)
driven c catching.Finishes = Some (epochs.Refreshes c.refreshing)
driven c step = None

abbrev pub loads_by : Loads → Option EpochMachine → ℕ → Loads
loads_by l None epoch = l
loads_by l (Some machine) epoch = with_load l (sight_of machine) epoch

abbrev pub force_by : Loads → Loads → Option EpochMachine → ℕ → Loads
force_by l f None epoch = f
force_by l f (Some (epochs.Protects step)) epoch = with_load f (sight_of (epochs.Protects step)) epoch
force_by l f (Some (epochs.Refreshes (refresh.StoresEpoch stored))) epoch = l
force_by l f (Some machine) epoch = f

-- ---- what holds
abbrev pub IsOf : Option View → ℕ → Type 0
IsOf None epoch = ⊥
IsOf (Some its) epoch = its.stamp ≡ epoch

abbrev pub RefreshStamped : Sight → Loads → Loads → Refreshing → Type 0
RefreshStamped its l f refresh.LoadsEpoch = (its.view.stamp ≡ f.phase) × (its.coming ≡ None)
RefreshStamped its l f (refresh.LoadsPhase epoch) = (its.view.stamp ≡ f.phase) × (its.coming ≡ None)
RefreshStamped its l f (refresh.LoadsReadOnly epoch phase) = IsOf its.coming l.phase × (its.view.stamp ≡ f.phase)
RefreshStamped its l f (refresh.LoadsHead epoch phase read_only) = IsOf its.coming l.phase × (its.view.stamp ≡ f.phase)
RefreshStamped its l f step = ⊥

abbrev pub ProtectStamped : Sight → Loads → Loads → Protecting → Type 0
ProtectStamped its l f protect.LoadsEpoch = its.coming ≡ None
ProtectStamped its l f (protect.StoresEpoch epoch) = its.coming ≡ None
ProtectStamped its l f protect.LoadsPhase = its.coming ≡ None
ProtectStamped its l f (protect.LoadsReadOnly phase) = IsOf its.coming l.phase × IsOf its.coming f.phase
ProtectStamped its l f (protect.LoadsHead phase read_only) = IsOf its.coming l.phase × IsOf its.coming f.phase
ProtectStamped its l f protect.AtRest = ⊥

-- the refresh has loaded all
abbrev pub HoldsAll : Refreshing → Type 0
HoldsAll (refresh.HasLoaded epoch values) = ⊤
HoldsAll step = ⊥

abbrev pub StoresLast : Refreshing → Type 0
StoresLast (refresh.StoresEpoch epoch) = ⊤
StoresLast step = ⊥

-- behind the loads: in a refresh the view of before is in force yet, and in a wake the one that is coming is
abbrev pub HeldStamped : Sight → Loads → Loads → CatchState → Bool → Type 0
HeldStamped its l f c true = HoldsAll c.refreshing × IsOf its.coming l.phase × (its.view.stamp ≡ f.phase)
HeldStamped its l f c false = IsOf its.coming f.phase

-- a latch asks for something yet
abbrev pub IsLatching : Latching → Type 0
IsLatching latching.AtRest = ⊥
IsLatching step = ⊤

abbrev pub CatchStamped : Sight → Loads → Loads → CatchState → Catching → Type 0
CatchStamped its l f c catching.Refreshes = (c.is_refresh ≡ true) × RefreshStamped its l f c.refreshing
CatchStamped its l f c catching.Protects = (c.is_refresh ≡ false) × ProtectStamped its l f c.protecting
CatchStamped its l f c catching.Finishes = StoresLast c.refreshing × IsOf its.coming l.phase × (its.view.stamp ≡ f.phase)
CatchStamped its l f c (catching.Latches index) = HeldStamped its l f c c.is_refresh × IsLatching c.latching
CatchStamped its l f c catching.Ended = IsOf its.coming f.phase
CatchStamped its l f c step = HeldStamped its l f c c.is_refresh

-- each reply keeps it
abbrev pub RepliesKeepStamps : Type 0
RepliesKeepStamps =
    (words : List ℕ) (p : Places) (bits n : ℕ) (its : Sight) (l f : Loads) (c : CatchState) (requests : List PendingRequest) (reply : ℕ) → CatchStamped its l f c c.step
    → CatchStamped (with_loaded words (loads_phase c c.step) reply its) (loads_by l (driven c c.step) (epoch_of words)) (force_by l f (driven c c.step) (epoch_of words)) (catching_next p bits n c requests c.step reply) (catching_next p bits n c requests c.step reply).step

-- a session that catches up isn't through with that
abbrev pub IsUnderWay : Catching → Type 0
IsUnderWay catching.Ended = ⊥
IsUnderWay step = ⊤

-- ---- so it is with a session: nothing is coming to one that doesn't catch up, and its view is that of the load in force
abbrev pub SittingStamped : Sight → Loads → Loads → SessionState → Sitting → Type 0
SittingStamped its l f s (CatchesUp cause) = CatchStamped its l f s.catching s.catching.step × IsUnderWay s.catching.step
SittingStamped its l f s step = (its.view.stamp ≡ f.phase) × (its.coming ≡ None)

abbrev pub SessionStamped : Sight → Loads → Loads → SessionState → Type 0
SessionStamped its l f s = SittingStamped its l f s s.step

-- A session goes by its view while it is awake, and while it refreshes. One that wakes goes by none yet.
abbrev pub is_live_at : SessionState → Sitting → Bool
is_live_at s (Idle told) = s.is_awake
is_live_at s LoadsDurable = s.is_awake
is_live_at s (CatchesUp cause) = s.catching.is_refresh
is_live_at s step = true

abbrev pub is_live : SessionState → Bool
is_live s = is_live_at s s.step
