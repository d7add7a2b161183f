-- What the guard has of the keeper as it works on a commit: the machine of the epochs that a deferral drives, and what is known of it.
use Rattle.std.specs.Prelude.{◌<◌, ◌≤◌, Option, Some, None, ⊤}
use Rattle.fkv_epoch.specs.declared.raising.Raising.{Raising}
use Rattle.fkv_epoch.specs.declared.raising.Raising.TheVariants as raise
use Rattle.fkv_epoch.specs.declared.arming.Arming.{Arming}
use Rattle.fkv_epoch.specs.declared.arming.Arming.TheVariants as arm
use Rattle.fkv_epoch.specs.EpochWorld.{EpochMachine, Raises, Arms}
use Rattle.fkv_commit.specs.declared.deferring.Deferring.{Deferring}
use Rattle.fkv_commit.specs.declared.deferring.Deferring.TheVariants as defer
use Rattle.fkv_commit.specs.declared.entering.Entering.{Entering}
use Rattle.fkv_commit.specs.declared.entering.Entering.TheVariants as enter
use Rattle.fkv_commit.specs.declared.finishing.Finishing.{Finishing}
use Rattle.fkv_commit.specs.declared.finishing.Finishing.TheVariants as finish
use Rattle.fkv_commit.specs.declared.seeking.Seeking.{Seeking}
use Rattle.fkv_commit.specs.declared.seeking.Seeking.TheVariants as seek
use Rattle.fkv_commit.specs.declared.starting.Starting.{Starting}
use Rattle.fkv_commit.specs.declared.starting.Starting.TheVariants as start
use Rattle.fkv_commit.specs.Deferring.{DeferState, action_of}
use Rattle.fkv_commit.specs.Entering.{EnterState}
use Rattle.fkv_commit.specs.Finishing.{FinishState}
use Rattle.fkv_commit.specs.Seeking.{SeekState}
use Rattle.fkv_commit.specs.Starting.{StartState}
use Rattle.fkv_flush.specs.GuardLevels.{Levels}
use Rattle.fkv_flush.specs.GuardSeen.{IsStored}

-- a slot is sought, or held; then the epoch is raised and the slot is armed
abbrev pub deferring_machine : DeferState → Deferring → Option EpochMachine
deferring_machine d (defer.Ended its) = None
deferring_machine d defer.Seeks = Some (Raises d.raising)
deferring_machine d defer.Holds = Some (Raises d.raising)
deferring_machine d (defer.Raises its) = Some (Raises d.raising)
deferring_machine d (defer.Puts its slot epoch) = Some (Arms d.arming)
deferring_machine d (defer.Arms epoch) = Some (Arms d.arming)

abbrev pub defer_machine : DeferState → Option EpochMachine
defer_machine d = deferring_machine d d.step

-- by how far each part of a commit has come
abbrev pub starting_machine : StartState → Starting → Option EpochMachine
starting_machine s (start.Ended its) = None
starting_machine s start.LoadsPhase = None
starting_machine s step = defer_machine s.defer

abbrev pub entering_machine : EnterState → Entering → Option EpochMachine
entering_machine s (enter.Ended its) = None
entering_machine s step = defer_machine s.defer

abbrev pub seeking_machine : SeekState → Seeking → Option EpochMachine
seeking_machine s (seek.Ended its) = None
seeking_machine s (seek.LoadsOwing session) = None
seeking_machine s step = defer_machine s.defer

-- a deferral seeks a slot
abbrev pub IsSeeking : Deferring → Raising → Type 0
IsSeeking defer.Seeks raise.LoadsEpoch = ⊤
IsSeeking defer.Seeks (raise.MeetsSlot slot) = ⊤
IsSeeking defer.Seeks (raise.HoldsSlot slot) = ⊤
IsSeeking step raising = ⊥

-- it holds one
abbrev pub IsHolding : Deferring → Raising → Type 0
IsHolding defer.Holds (raise.HasSlot slot) = ⊤
IsHolding step raising = ⊥

-- The change is made, and what its action relies on is stored: the epoch is raised, or the slot is armed.
abbrev pub IsDeferring : Levels → Deferring → Raising → Arming → Type 0
IsDeferring l (defer.Raises its) (raise.RaisesEpoch slot) arming = IsStored l (action_of its)
IsDeferring l (defer.Arms epoch) raising (arm.StoresEpoch slot c) = ⊤
IsDeferring l step raising arming = ⊥

abbrev pub IsSlotSought : DeferState → Type 0
IsSlotSought d = IsSeeking d.step d.raising

abbrev pub IsSlotHeld : DeferState → Type 0
IsSlotHeld d = IsHolding d.step d.raising

abbrev pub IsActionDeferred : Levels → DeferState → Type 0
IsActionDeferred l d = IsDeferring l d.step d.raising d.arming

-- what is known as a commit starts
abbrev pub StartKnows : Levels → StartState → Starting → Type 0
StartKnows l s (start.Seeks number) = IsSlotSought s.defer
StartKnows l s (start.StoresPrepare number) = IsSlotHeld s.defer
StartKnows l s (start.LoadsTail number) = IsSlotHeld s.defer
StartKnows l s (start.Defers number first) = IsActionDeferred l s.defer
StartKnows l s step = ⊤

-- as it goes on to wait-pending
abbrev pub EnterKnows : Levels → EnterState → Entering → Type 0
EnterKnows l s enter.Seeks = IsSlotSought s.defer
EnterKnows l s enter.Defers = IsActionDeferred l s.defer
EnterKnows l s step = ⊤

-- As its points are sought. Its end is the tail as it was loaded.
abbrev pub SeekKnows : Levels → SeekState → Seeking → Type 0
SeekKnows l s (seek.Ended its) = ⊤
SeekKnows l s (seek.LoadsOwing session) = ⊤
SeekKnows l s seek.SeeksSlot = IsSlotSought s.defer
SeekKnows l s (seek.RaisesReadOnly end) = IsSlotHeld s.defer × (end.0 ≤ l.tail)
SeekKnows l s (seek.Defers end) = IsActionDeferred l s.defer
SeekKnows l s step = IsSlotHeld s.defer

-- As it finishes: the durable words are those of sessions that there are.
abbrev pub FinishKnows : FinishState → Finishing → Type 0
FinishKnows s (finish.StoresDurable session) = session < s.sessions
FinishKnows s step = ⊤
