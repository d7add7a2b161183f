-- What a step of the keeper makes of the device, as the guard has it: a reply makes no call, and a call is the keeper's own.
use Rattle.std.proofs.Common.{◌≡◌, ℕ, ◌∙◌, refl, ap, List, [], ◌∷◌, ◌++◌, Bool, true, false}
use Rattle.std.specs.Prelude.{Option, Some, None, slice_get, if◌then◌else◌}
use Rattle.fkv_base.specs.declared.numbers.Serial.{Serial}
use Rattle.fkv_base.specs.declared.shapes.Shape.{Shape}
use Rattle.fkv_disk.specs.Calls as device_call
use Rattle.fkv_plane.specs.declared.asks.Ask.{Ask}
use Rattle.fkv_plane.specs.declared.asks.Ask.TheVariants.{Done}
use Rattle.fkv_plane.specs.declared.places.Places.{Places}
use Rattle.fkv_plane.specs.Asked.{reply_to}
use Rattle.fkv_epoch.specs.Claiming.{claim_ask, claim_next}
use Rattle.fkv_epoch.specs.Scanning.{scan_ask, scan_next}
use Rattle.fkv_log.specs.Shifting.{shift_next_ask}
use Rattle.fkv_log.specs.Turning.{turn_next_ask}
use Rattle.fkv_log.specs.declared.moving.MoveAnswer.{MoveAnswer}
use Rattle.fkv_log.specs.declared.moving.MoveAnswer.TheVariants as moved
use Rattle.fkv_log.specs.declared.shifting.ShiftAnswer.{ShiftAnswer}
use Rattle.fkv_log.specs.declared.shifting.ShiftAnswer.TheVariants as shifted
use Rattle.fkv_commit.specs.Deferring.{defer_ask, defer_next}
use Rattle.fkv_commit.specs.Entering.{EnterState}
use Rattle.fkv_commit.specs.Finishing.{FinishState}
use Rattle.fkv_commit.specs.Seeking.{SeekState, seek_next}
use Rattle.fkv_commit.specs.Starting.{StartState, start_next}
use Rattle.fkv_commit.specs.declared.deferring.DeferAnswer.{DeferAnswer}
use Rattle.fkv_commit.specs.declared.deferring.DeferAnswer.TheVariants.{Held}
use Rattle.fkv_commit.specs.declared.deferring.Deferring.{Deferring}
use Rattle.fkv_commit.specs.declared.deferring.Deferring.TheVariants as defer
use Rattle.fkv_commit.specs.declared.entering.Entering.{Entering}
use Rattle.fkv_commit.specs.declared.entering.Entering.TheVariants as enter
use Rattle.fkv_commit.specs.declared.finishing.Finishing.{Finishing}
use Rattle.fkv_commit.specs.declared.finishing.Finishing.TheVariants as finish
use Rattle.fkv_commit.specs.declared.seeking.Seeking.{Seeking}
use Rattle.fkv_commit.specs.declared.seeking.Seeking.TheVariants as seek
use Rattle.fkv_commit.specs.declared.starting.Starting.{Starting}
use Rattle.fkv_commit.specs.declared.starting.Starting.TheVariants as start
use Rattle.fkv_flush.specs.declared.flushing.Flushing.{Flushing}
use Rattle.fkv_flush.specs.declared.flushing.Flushing.TheVariants as flush
use Rattle.fkv_flush.specs.Flushing.{flush_ask, flush_next, flush_done, flush_calls}
use Rattle.fkv_flush.specs.GuardFlushed.{actor_calls, calls_made, event_calls, work_calls}
use Rattle.fkv_flush.specs.GuardSeen.{LastSeen}
use Rattle.fkv_flush.specs.GuardWorld.{Actor, Work, Flushes, GuardNow, GuardWorld, Calls, Moves, guard_run}
use Rattle.fkv_flush.proofs.Shown.{FitsWork}
use Rattle.fkv_flush.specs.declared.answers.DeviceAnswer.{DeviceAnswer}
use Rattle.fkv_flush.specs.declared.answers.DeviceAnswer.TheVariants as device
use Rattle.fkv_maintain.specs.Maintaining.{MaintainState, flush_told, maintaining_calls}
use Rattle.fkv_maintain.specs.declared.maintaining.Maintaining.{Maintaining}
use Rattle.fkv_maintain.specs.declared.maintaining.Maintaining.TheVariants as maintain
use Rattle.fkv_manifest.specs.Committing.{commit_call}
use Rattle.fkv_manifest.specs.Made.{with_call}
use Rattle.fkv_keeper.specs.KeeperAsks.{keeper_calls, keeping_calls}
use Rattle.fkv_keeper.specs.KeeperRun.{is_in_hand}
use Rattle.fkv_keeper.specs.Keeping.{KeeperState, keeper_ask, keeper_next}
use Rattle.fkv_keeper.specs.declared.answers.KeeperTold.{KeeperTold}
use Rattle.fkv_keeper.specs.declared.answers.KeeperTold.TheVariants.{Device}
use Rattle.fkv_keeper.specs.declared.keepers.Keeping.{Keeping}
use Rattle.fkv_keeper.specs.declared.keepers.Keeping.TheVariants as keeping
use Rattle.fkv_world.specs.Past.{calls_after}
use Rattle.law_world.specs.GuardKeeper.CommitEvents.{defer_events, start_begins, enter_begins, seek_begins, starting_events, entered_events, entering_events, seeking_events, finishing_events}
use Rattle.law_world.specs.GuardKeeper.DeviceCalls.{SparesLog, WritesSpareLog}
use Rattle.law_world.specs.GuardKeeper.Followed.{IsKeepers}
use Rattle.law_world.specs.GuardKeeper.KeeperEvents.{part_begins, keeping_events, write_events, keeping_called_events, keeper_events_at, keeper_move_events, turn_asked_events}
use Rattle.law_world.specs.GuardKeeper.KeeperShown.{keeping_work}
use Rattle.law_world.specs.GuardKeeper.MaintainEvents.{scan_events, then_flushes, shifter, claim_events, flush_events, shift_events, turn_events, maintain_events, maintain_called_events}
use Rattle.law_world.specs.GuardKeeper.MaintainShown.{maintaining_work}
use Rattle.law_world.proofs.OfGuardKeeper.NoCalls.{MakeNone, none_made, none_by_test}

-- a turn's parts
scanned : (a : ℕ) (ask : Ask (Unit {0})) → MakeNone (scan_events a ask)
scanned a (Done its) = (tt, (tt, tt))
scanned a ask = (tt, tt)

flushes : (a : ℕ) (flushing : Flushing) → MakeNone (then_flushes a flushing (Moves a ∷ []))
flushes a (flush.Syncs end) = (tt, tt)
flushes a step = (tt, (tt, tt))

claimed : (a : ℕ) (flushing : Flushing) (ask : Ask (Unit {0})) → MakeNone (claim_events a flushing ask)
claimed a flushing (Done its) = flushes a flushing
claimed a flushing ask = (tt, tt)

flushed : (a : ℕ) (ask : Ask DeviceAnswer) → MakeNone (flush_events a (Moves a) ask)
flushed a (Done device.Through) = (tt, (tt, tt))
flushed a ask = (tt, tt)

shift_steps : (a : ℕ) (ask : Ask ShiftAnswer) → MakeNone (shift_events a ask)
shift_steps a (Done (shifted.Through tail)) = (tt, (tt, tt))
shift_steps a (Done (shifted.NoSlot tail)) = (tt, (tt, tt))
shift_steps a ask = (tt, tt)

turn_steps : (a begin : ℕ) (ask : Ask MoveAnswer) → MakeNone (turn_events a begin ask)
turn_steps a begin (Done moved.Through) = (tt, (tt, tt))
turn_steps a begin (Done moved.NoSlot) = (tt, (tt, tt))
turn_steps a begin ask = (tt, tt)

maintained : (a : ℕ) (shape : Shape) (p : Places) (s : MaintainState) (step : Maintaining) (reply : ℕ) → MakeNone (maintain_events a shape p s step reply)
unfolding maintain_events
maintained a shape p s maintain.Scans reply = scanned a (scan_ask (scan_next shape.sessions s.scanning reply))
maintained a shape p s maintain.Claims reply = claimed a s.flushing (claim_ask (claim_next s.claiming reply))
maintained a shape p s maintain.Flushes reply = flushed a (flush_ask p (flush_next shape.page s.flushing reply))
maintained a shape p s maintain.Shifts reply = shift_steps a (shift_next_ask shape s.shift reply)
maintained a shape p s maintain.Turns reply = turn_steps a s.begin.0 (turn_next_ask shape s.turn reply)
maintained a shape p s maintain.Serves reply = (tt, tt)
maintained a shape p s step reply = tt

-- a commit's parts
deferred : (a : ℕ) (step : Deferring) → MakeNone (defer_events a step)
deferred a (defer.Raises its) = (tt, tt)
deferred a step = (tt, tt)

start_begun : (a : ℕ) (step : Starting) → MakeNone (start_begins a step)
start_begun a (start.Seeks number) = (tt, tt)
start_begun a step = tt

enter_begun : (a : ℕ) (step : Entering) → MakeNone (enter_begins a step)
enter_begun a enter.Seeks = (tt, tt)
enter_begun a step = tt

seek_begun : (a : ℕ) (step : Seeking) → MakeNone (seek_begins a step)
seek_begun a seek.SeeksSlot = (tt, tt)
seek_begun a step = tt

started : (a : ℕ) (s : StartState) (step : Starting) (reply : ℕ) → MakeNone (starting_events a s step reply)
unfolding starting_events
started a s start.LoadsPhase reply = start_begun a (start_next (record s { step = start.LoadsPhase }) reply).step
started a s (start.Seeks number) reply = (tt, tt)
started a s (start.StoresPrepare number) reply = (tt, tt)
started a s (start.LoadsTail number) reply = (tt, tt)
started a s (start.Defers number first) reply = deferred a s.defer.step
started a s step reply = tt

entered : (a : ℕ) (ask : Ask DeferAnswer) → MakeNone (entered_events a ask)
entered a (Done Held) = (tt, (tt, tt))
entered a ask = (tt, tt)

enters : (a : ℕ) (s : EnterState) (step : Entering) (reply : ℕ) → MakeNone (entering_events a s step reply)
unfolding entering_events
enters a s enter.Seeks reply = entered a (defer_ask (defer_next s.defer reply))
enters a s enter.Defers reply = deferred a s.defer.step
enters a s step reply = tt

seeks : (a : ℕ) (s : SeekState) (step : Seeking) (reply : ℕ) → MakeNone (seeking_events a s step reply)
unfolding seeking_events
seeks a s (seek.LoadsOwing session) reply = seek_begun a (seek_next (record s { step = seek.LoadsOwing session }) reply).step
seeks a s seek.SeeksSlot reply = (tt, tt)
seeks a s seek.StoresWaitFlush reply = (tt, tt)
seeks a s (seek.RaisesReadOnly end) reply = (tt, (tt, tt))
seeks a s (seek.Defers end) reply = deferred a s.defer.step
seeks a s step reply = tt

finishes : (a : ℕ) (points : List Serial) (s : FinishState) (step : Finishing) → MakeNone (finishing_events a points s step)
unfolding finishing_events
finishes a points s (finish.StoresDurable session) = (tt, tt)
finishes a points s finish.StoresRest = (tt, tt)
finishes a points s step = tt

part_begun : (a : ℕ) (s : KeeperState) (step : Keeping) → MakeNone (part_begins a s step)
part_begun a s keeping.Enters = enter_begun a s.enter.step
part_begun a s keeping.Seeks = seek_begun a s.seek.step
part_begun a s step = tt

replied : (a : ℕ) (shape : Shape) (p : Places) (s : KeeperState) (step : Keeping) (reply : ℕ) (granted : Bool) → MakeNone (keeping_events a shape p s step reply granted)
unfolding keeping_events
replied a shape p s keeping.Starts reply granted = started a s.start s.start.step reply
replied a shape p s keeping.Maintains reply granted = maintained a shape p s.maintain s.maintain.step reply
replied a shape p s keeping.LoadsPhase reply granted =
    part_begun a (keeper_next shape p (record s { step = keeping.LoadsPhase }) reply granted) (keeper_next shape p (record s { step = keeping.LoadsPhase }) reply granted).step
replied a shape p s keeping.Enters reply granted = enters a s.enter s.enter.step reply
replied a shape p s keeping.Seeks reply granted = seeks a s.seek s.seek.step reply
replied a shape p s keeping.Finishes reply granted = finishes a s.seek.points s.finish s.finish.step
replied a shape p s step reply granted = tt

-- a turn that is asked for
pub turn_asked_none : (a : ℕ) (s : KeeperState) → MakeNone (turn_asked_events a s)
turn_asked_none a s = none_by_test (is_in_hand s.step) [] _ tt (none_by_test s.is_broken [] _ tt (tt, tt))

-- A call of a flush: the guard's actor has the flush and its bytes.
flush_called : (w : GuardWorld) (a b : ℕ) (done : Bool) (ask : Ask DeviceAnswer) (calls : List device_call.Call) → event_calls w.now (Calls a done) ≡ calls → calls_made w (flush_events b (Calls a done) ask) ≡ calls ++ []
unfolding calls_made guard_run
flush_called w a b done (Done device.Through) calls made = ap (λ (its : List device_call.Call). its ++ []) made
flush_called w a b done ask calls made = ap (λ (its : List device_call.Call). its ++ []) made

flush_made : (n : GuardNow) (x : Actor) (s : MaintainState) (done : Bool) → x.work ≡ Flushes s.flushing s.bytes → actor_calls n done (Some x) ≡ flush_calls n.shape s.bytes s.flushing done
flush_made n x s done at = ap (λ (work : Work). work_calls n done work) at

-- a call of a turn's part
maintain_device : (w : GuardWorld) (a : ℕ) (x : Actor) (p : Places) (s : MaintainState) (step : Maintaining) (done : Bool) (bytes : List ℕ) → slice_get w.now.actors a ≡ Some x → FitsWork (maintaining_work s step) x.work
    → calls_made w (maintain_called_events a w.now.shape p s step done bytes) ≡ maintaining_calls w.now.shape s step done ++ []
unfolding maintain_called_events maintaining_calls calls_made guard_run
maintain_device w a x p s maintain.Flushes true bytes got at =
    flush_called w a (shifter a (flush_done w.now.shape.page s.flushing true)) true (flush_told w.now.shape p (flush_done w.now.shape.page s.flushing true)) (flush_calls w.now.shape s.bytes s.flushing true) (ap (λ (found : Option Actor). actor_calls w.now true found) got ∙ flush_made w.now x s true at)
maintain_device w a x p s maintain.Flushes false bytes got at =
    ap (λ (its : List device_call.Call). its ++ []) (ap (λ (found : Option Actor). actor_calls w.now false found) got ∙ flush_made w.now x s false at)
maintain_device w a x p s maintain.Serves true bytes got at = refl
maintain_device w a x p s maintain.Serves false bytes got at = refl
maintain_device w a x p s step done bytes got at = refl

-- a call of a commit's writes
write_made : (w : GuardWorld) (call : Option device_call.Call) → SparesLog w.now.shape call → calls_made w (write_events call) ≡ with_call call [] ++ []
unfolding calls_made guard_run
write_made w None spares = refl
write_made w (Some call) spares = ap (λ (b : Bool). (if b then call ∷ [] else []) ++ []) spares

device_called : (w : GuardWorld) (a : ℕ) (x : Actor) (p : Places) (s : KeeperState) (step : Keeping) (done : Bool) (read : List ℕ) → slice_get w.now.actors a ≡ Some x → FitsWork (keeping_work s step) x.work
    → WritesSpareLog w.now.shape s step → calls_made w (keeping_called_events a w.now.shape p s step done read) ≡ keeping_calls w.now.shape s step done ++ []
unfolding keeping_called_events keeping_calls calls_made
device_called w a x p s keeping.Maintains done read got at spare = maintain_device w a x p s.maintain s.maintain.step done read got at
device_called w a x p s keeping.Writes done read got at spare = write_made w (commit_call s.writes done) (spare done)
device_called w a x p s step done read got at spare = refl

by_ask : (w : GuardWorld) (a : ℕ) (x : Actor) (p : Places) (granted done : Bool) (read : List ℕ) (s : KeeperState) (words : List ℕ) (ask : Ask KeeperTold) → slice_get w.now.actors a ≡ Some x → FitsWork (keeping_work s s.step) x.work
    → WritesSpareLog w.now.shape s s.step → calls_made w (keeper_events_at a w.now.shape p granted done read s words ask) ≡ calls_after ask (keeper_calls w.now.shape s done) []
unfolding keeper_events_at calls_made
by_ask w a x p granted done read s words (Done Device) got at spare = device_called w a x p s s.step done read got at spare
by_ask w a x p granted done read s words (Done its) got at spare = refl
by_ask w a x p granted done read s words ask got at spare = none_made w (keeping_events a w.now.shape p s s.step (reply_to words ask) granted) (replied a w.now.shape p s s.step (reply_to words ask) granted)

-- the keeper's step
pub step_calls : (w : GuardWorld) (a : ℕ) (x : Actor) (seen : LastSeen) (s : KeeperState) (granted done : Bool) (read : List ℕ) → IsKeepers w a x seen s → WritesSpareLog w.now.shape s s.step
    → calls_made w (keeper_move_events a w.now.shape w.now.places granted done read s w.now.words) ≡ calls_after (keeper_ask w.now.shape w.now.places s) (keeper_calls w.now.shape s done) []
step_calls w a x seen s granted done read its spare = by_ask w a x w.now.places granted done read s w.now.words (keeper_ask w.now.shape w.now.places s) its.got its.fits.work spare
