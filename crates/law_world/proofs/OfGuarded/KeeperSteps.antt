-- What the keeper's step is to the guard is one step of its actor, and so is what a turn begins.
use Rattle.std.proofs.Common.{◌≡◌, ◌≤◌, ℕ, List, [], ◌∷◌, refl, ap, arith, Bool, true, false}
use Rattle.std.specs.Prelude.{suc, if◌then◌else◌, Option, Some, None}
use Rattle.fkv_base.specs.declared.shapes.Shape.{Shape}
use Rattle.fkv_disk.specs.Calls.{Call}
use Rattle.fkv_plane.specs.declared.asks.Ask.{Ask}
use Rattle.fkv_plane.specs.declared.asks.Ask.TheVariants.{Done}
use Rattle.fkv_plane.specs.declared.places.Places.{Places}
use Rattle.fkv_plane.specs.Asked.{reply_to}
use Rattle.fkv_epoch.specs.Claiming.{claim_ask, claim_next}
use Rattle.fkv_epoch.specs.Scanning.{scan_ask, scan_next}
use Rattle.fkv_log.specs.Shifting.{shift_next_ask}
use Rattle.fkv_log.specs.Turning.{turn_next_ask}
use Rattle.fkv_log.specs.declared.moving.MoveAnswer.{MoveAnswer}
use Rattle.fkv_log.specs.declared.moving.MoveAnswer.TheVariants as moved
use Rattle.fkv_log.specs.declared.shifting.ShiftAnswer.{ShiftAnswer}
use Rattle.fkv_log.specs.declared.shifting.ShiftAnswer.TheVariants as shifted
use Rattle.fkv_commit.specs.Deferring.{defer_ask, defer_next}
use Rattle.fkv_commit.specs.Entering.{EnterState}
use Rattle.fkv_commit.specs.Finishing.{FinishState}
use Rattle.fkv_base.specs.declared.numbers.Serial.{Serial}
use Rattle.fkv_commit.specs.Seeking.{SeekState, seek_next}
use Rattle.fkv_commit.specs.Starting.{StartState, start_next}
use Rattle.fkv_commit.specs.declared.deferring.DeferAnswer.{DeferAnswer}
use Rattle.fkv_commit.specs.declared.deferring.DeferAnswer.TheVariants.{Held}
use Rattle.fkv_commit.specs.declared.deferring.Deferring.{Deferring}
use Rattle.fkv_commit.specs.declared.deferring.Deferring.TheVariants as defer
use Rattle.fkv_commit.specs.declared.entering.Entering.{Entering}
use Rattle.fkv_commit.specs.declared.entering.Entering.TheVariants as enter
use Rattle.fkv_commit.specs.declared.finishing.Finishing.{Finishing}
use Rattle.fkv_commit.specs.declared.finishing.Finishing.TheVariants as finish
use Rattle.fkv_commit.specs.declared.seeking.Seeking.{Seeking}
use Rattle.fkv_commit.specs.declared.seeking.Seeking.TheVariants as seek
use Rattle.fkv_commit.specs.declared.starting.Starting.{Starting}
use Rattle.fkv_commit.specs.declared.starting.Starting.TheVariants as start
use Rattle.fkv_flush.specs.declared.flushing.Flushing.{Flushing}
use Rattle.fkv_flush.specs.declared.flushing.Flushing.TheVariants as flush
use Rattle.fkv_flush.specs.Flushing.{flush_ask, flush_next, flush_done}
use Rattle.fkv_flush.specs.GuardWorld.{GuardEvent, Begins, Resumes, Moves, Calls, Reads, RaisesReadOnly, ToFlush, ToShift}
use Rattle.fkv_flush.specs.declared.answers.DeviceAnswer.{DeviceAnswer}
use Rattle.fkv_flush.specs.declared.answers.DeviceAnswer.TheVariants as device
use Rattle.fkv_maintain.specs.Maintaining.{MaintainState, is_flush_resting, is_sync_due, flush_told}
use Rattle.fkv_maintain.specs.declared.maintaining.Maintaining.{Maintaining}
use Rattle.fkv_maintain.specs.declared.maintaining.Maintaining.TheVariants as maintain
use Rattle.fkv_manifest.specs.Committing.{commit_call}
use Rattle.fkv_keeper.specs.KeeperRun.{is_in_hand}
use Rattle.fkv_keeper.specs.Keeping.{KeeperState, serves_alone, keeper_ask, keeper_next}
use Rattle.fkv_keeper.specs.declared.answers.KeeperTold.{KeeperTold}
use Rattle.fkv_keeper.specs.declared.answers.KeeperTold.TheVariants.{Device}
use Rattle.fkv_keeper.specs.declared.keepers.Keeping.{Keeping}
use Rattle.fkv_keeper.specs.declared.keepers.Keeping.TheVariants as keeping
use Rattle.law_world.specs.GuardKeeper.CommitEvents.{defer_events, start_begins, enter_begins, seek_begins, starting_events, entered_events, entering_events, seeking_events, finishing_events}
use Rattle.law_world.specs.GuardKeeper.KeeperActors.{actor_by, is_aside, keeper_actor, keeping_aside, maintaining_aside, other_actor, other_by}
use Rattle.law_world.specs.GuardKeeper.KeeperEvents.{part_begins, keeping_events, write_events, keeping_called_events, keeper_events_at, keeper_move_events, turn_asked_events, turn_task}
use Rattle.law_world.specs.GuardKeeper.MaintainEvents.{scan_events, then_flushes, claim_events, shifter, flush_events, shift_events, turn_events, maintain_events, maintain_called_events}
use Rattle.law_world.proofs.OfGuarded.OneStep.{IsStep, IsStepOf, IsOwn, OfKeeper, OfKeepers, mine, beside, one_of, then_own, then_quiet_of, nobodys, by_test_of, keeper_step}

moves : (k a : ℕ) → IsStepOf (OfKeepers k a) a (Moves a ∷ [])
moves k a = one_of k a (Moves a) (mine a) tt

-- a turn's parts
scanned : (k a : ℕ) (ask : Ask (Unit {0})) → IsStepOf (OfKeepers k a) a (scan_events a ask)
scanned k a (Done its) = then_own k a _ (Moves a ∷ []) (mine a) tt tt (moves k a)
scanned k a ask = moves k a

-- a flush begins with the first actor alone
flushes : (k a : ℕ) (flushing : Flushing) → (is_sync_due flushing ≡ false → a ≡ k) → IsStepOf (OfKeepers k a) a (then_flushes a flushing (Moves a ∷ []))
flushes k a (flush.Syncs end) first = moves k a
flushes k a step first = then_own k a (Begins a ToFlush) (Moves a ∷ []) (mine a) tt (first refl) (moves k a)

claimed : (k a : ℕ) (flushing : Flushing) (ask : Ask (Unit {0})) → (is_sync_due flushing ≡ false → a ≡ k) → IsStepOf (OfKeepers k a) a (claim_events a flushing ask)
claimed k a flushing (Done its) first = flushes k a flushing first
claimed k a flushing ask first = moves k a

flushed : (k a b : ℕ) (made : GuardEvent) (ask : Ask DeviceAnswer) → k ≤ a → k ≤ b → IsOwn a made → OfKeeper k made → IsStepOf (OfKeepers k a) a (flush_events b made ask)
flushed k a b made (Done device.Through) low lower own alone = then_quiet_of k a (Begins b ToShift) (made ∷ []) (λ c other apart. beside k a b c low lower other apart) tt tt (one_of k a made own alone)
flushed k a b made ask low lower own alone = one_of k a made own alone

shifter_above : (k a : ℕ) (step : Flushing) → k ≤ a → k ≤ shifter a step
shifter_above k a step low = by (is_sync_due step)
  where
    by : (b : Bool) → k ≤ (if b then suc a else a)
    by true = omega (arith, low)
    by false = low

shift_steps : (k a : ℕ) (ask : Ask ShiftAnswer) → IsStepOf (OfKeepers k a) a (shift_events a ask)
shift_steps k a (Done (shifted.Through tail)) = then_own k a _ (Moves a ∷ []) (mine a) tt tt (moves k a)
shift_steps k a (Done (shifted.NoSlot tail)) = then_own k a _ (Moves a ∷ []) (mine a) tt tt (moves k a)
shift_steps k a ask = moves k a

turn_steps : (k a begin : ℕ) (ask : Ask MoveAnswer) → IsStepOf (OfKeepers k a) a (turn_events a begin ask)
turn_steps k a begin (Done moved.Through) = then_own k a _ (Moves a ∷ []) (mine a) tt tt (moves k a)
turn_steps k a begin (Done moved.NoSlot) = then_own k a _ (Moves a ∷ []) (mine a) tt tt (moves k a)
turn_steps k a begin ask = moves k a

maintained : (k a : ℕ) (shape : Shape) (p : Places) (s : MaintainState) (step : Maintaining) (reply : ℕ) → k ≤ a → (is_flush_resting s ≡ false → a ≡ k) → IsStepOf (OfKeepers k a) a (maintain_events a shape p s step reply)
unfolding maintain_events
maintained k a shape p s maintain.Scans reply low first = scanned k a (scan_ask (scan_next shape.sessions s.scanning reply))
maintained k a shape p s maintain.Claims reply low first = claimed k a s.flushing (claim_ask (claim_next s.claiming reply)) first
maintained k a shape p s maintain.Flushes reply low first = flushed k a a (Moves a) (flush_ask p (flush_next shape.page s.flushing reply)) low low (mine a) tt
maintained k a shape p s maintain.Shifts reply low first = shift_steps k a (shift_next_ask shape s.shift reply)
maintained k a shape p s maintain.Turns reply low first = turn_steps k a s.begin.0 (turn_next_ask shape s.turn reply)
maintained k a shape p s maintain.Serves reply low first = moves k a
maintained k a shape p s step reply low first = tt

maintain_called : (k a : ℕ) (shape : Shape) (p : Places) (s : MaintainState) (step : Maintaining) (done : Bool) (bytes : List ℕ) → k ≤ a → IsStepOf (OfKeepers k a) a (maintain_called_events a shape p s step done bytes)
unfolding maintain_called_events
maintain_called k a shape p s maintain.Flushes true bytes low =
    let next : Flushing = flush_done shape.page s.flushing true in
    flushed k a (shifter a next) (Calls a true) (flush_told shape p next) low (shifter_above k a next low) (mine a) tt
maintain_called k a shape p s maintain.Flushes false bytes low = one_of k a (Calls a false) (mine a) tt
maintain_called k a shape p s maintain.Serves true bytes low = one_of k a (Reads a (Some bytes)) (mine a) tt
maintain_called k a shape p s maintain.Serves false bytes low = one_of k a (Reads a None) (mine a) tt
maintain_called k a shape p s step done bytes low = tt

-- a commit's parts
deferred : (k a : ℕ) (step : Deferring) → IsStepOf (OfKeepers k a) a (defer_events a step)
deferred k a (defer.Raises its) = one_of k a _ (mine a) tt
deferred k a step = moves k a

start_begun : (k a : ℕ) (step : Starting) → IsStepOf (OfKeepers k a) a (start_begins a step)
start_begun k a (start.Seeks number) = one_of k a _ (mine a) tt
start_begun k a step = tt

enter_begun : (k a : ℕ) (step : Entering) → IsStepOf (OfKeepers k a) a (enter_begins a step)
enter_begun k a enter.Seeks = one_of k a _ (mine a) tt
enter_begun k a step = tt

seek_begun : (k a : ℕ) (step : Seeking) → IsStepOf (OfKeepers k a) a (seek_begins a step)
seek_begun k a seek.SeeksSlot = one_of k a _ (mine a) tt
seek_begun k a step = tt

started : (k a : ℕ) (s : StartState) (step : Starting) (reply : ℕ) → IsStepOf (OfKeepers k a) a (starting_events a s step reply)
unfolding starting_events
started k a s start.LoadsPhase reply = start_begun k a (start_next (record s { step = start.LoadsPhase }) reply).step
started k a s (start.Seeks number) reply = moves k a
started k a s (start.StoresPrepare number) reply = one_of k a _ (mine a) tt
started k a s (start.LoadsTail number) reply = one_of k a _ (mine a) tt
started k a s (start.Defers number first) reply = deferred k a s.defer.step
started k a s step reply = tt

entered : (k a : ℕ) (ask : Ask DeferAnswer) → IsStepOf (OfKeepers k a) a (entered_events a ask)
entered k a (Done Held) = then_own k a _ (Moves a ∷ []) (mine a) tt tt (moves k a)
entered k a ask = moves k a

enters : (k a : ℕ) (s : EnterState) (step : Entering) (reply : ℕ) → IsStepOf (OfKeepers k a) a (entering_events a s step reply)
unfolding entering_events
enters k a s enter.Seeks reply = entered k a (defer_ask (defer_next s.defer reply))
enters k a s enter.Defers reply = deferred k a s.defer.step
enters k a s step reply = tt

seeks : (k a : ℕ) (s : SeekState) (step : Seeking) (reply : ℕ) → IsStepOf (OfKeepers k a) a (seeking_events a s step reply)
unfolding seeking_events
seeks k a s (seek.LoadsOwing session) reply = seek_begun k a (seek_next (record s { step = seek.LoadsOwing session }) reply).step
seeks k a s seek.SeeksSlot reply = moves k a
seeks k a s seek.StoresWaitFlush reply = one_of k a _ (mine a) tt
seeks k a s (seek.RaisesReadOnly end) reply = then_own k a (Resumes a) (RaisesReadOnly a end.0 ∷ []) (mine a) tt tt (one_of k a _ (mine a) tt)
seeks k a s (seek.Defers end) reply = deferred k a s.defer.step
seeks k a s step reply = tt

finishes : (k a : ℕ) (points : List Serial) (s : FinishState) (step : Finishing) → IsStepOf (OfKeepers k a) a (finishing_events a points s step)
unfolding finishing_events
finishes k a points s (finish.StoresDurable session) = one_of k a _ (mine a) tt
finishes k a points s finish.StoresRest = one_of k a _ (mine a) tt
finishes k a points s step = tt

part_begun : (k a : ℕ) (s : KeeperState) (step : Keeping) → IsStepOf (OfKeepers k a) a (part_begins a s step)
part_begun k a s keeping.Enters = enter_begun k a s.enter.step
part_begun k a s keeping.Seeks = seek_begun k a s.seek.step
part_begun k a s step = tt

kept : (k a : ℕ) (shape : Shape) (p : Places) (s : KeeperState) (step : Keeping) (reply : ℕ) (granted : Bool) → k ≤ a → (is_flush_resting s.maintain ≡ false → a ≡ k) → IsStepOf (OfKeepers k a) a (keeping_events a shape p s step reply granted)
unfolding keeping_events
kept k a shape p s keeping.Starts reply granted low first = started k a s.start s.start.step reply
kept k a shape p s keeping.Maintains reply granted low first = maintained k a shape p s.maintain s.maintain.step reply low first
kept k a shape p s keeping.LoadsPhase reply granted low first =
    part_begun k a (keeper_next shape p (record s { step = keeping.LoadsPhase }) reply granted) (keeper_next shape p (record s { step = keeping.LoadsPhase }) reply granted).step
kept k a shape p s keeping.Enters reply granted low first = enters k a s.enter s.enter.step reply
kept k a shape p s keeping.Seeks reply granted low first = seeks k a s.seek s.seek.step reply
kept k a shape p s keeping.Finishes reply granted low first = finishes k a s.seek.points s.finish s.finish.step
kept k a shape p s step reply granted low first = tt

written : (k a : ℕ) (call : Option Call) → IsStepOf (OfKeepers k a) a (write_events call)
written k a None = tt
written k a (Some call) = nobodys k a call

device_called : (k a : ℕ) (shape : Shape) (p : Places) (s : KeeperState) (step : Keeping) (done : Bool) (bytes : List ℕ) → k ≤ a → IsStepOf (OfKeepers k a) a (keeping_called_events a shape p s step done bytes)
unfolding keeping_called_events
device_called k a shape p s keeping.Maintains done bytes low = maintain_called k a shape p s.maintain s.maintain.step done bytes low
device_called k a shape p s keeping.Writes done bytes low = written k a (commit_call s.writes done)
device_called k a shape p s step done bytes low = tt

by_ask : (k a : ℕ) (shape : Shape) (p : Places) (granted done : Bool) (read : List ℕ) (s : KeeperState) (words : List ℕ) (ask : Ask KeeperTold) → k ≤ a → (is_flush_resting s.maintain ≡ false → a ≡ k) → IsStepOf (OfKeepers k a) a (keeper_events_at a shape p granted done read s words ask)
unfolding keeper_events_at
by_ask k a shape p granted done read s words (Done Device) low first = device_called k a shape p s s.step done read low
by_ask k a shape p granted done read s words (Done its) low first = tt
by_ask k a shape p granted done read s words ask low first = kept k a shape p s s.step (reply_to words ask) granted low first

-- which of its actors works for the keeper
actor_low : (k : ℕ) (aside : Bool) → k ≤ actor_by k aside
actor_low k true = omega arith
actor_low k false = omega arith

pub actor_above : (k : ℕ) (s : KeeperState) → k ≤ keeper_actor k s
actor_above k s = actor_low k (is_aside s)

other_low : (k : ℕ) (aside : Bool) → k ≤ other_by k aside
other_low k true = omega arith
other_low k false = omega arith

pub other_above : (k : ℕ) (s : KeeperState) → k ≤ other_actor k s
other_above k s = other_low k (is_aside s)

first_part : (m : MaintainState) (step : Maintaining) → is_flush_resting m ≡ false → maintaining_aside m step ≡ false
first_part m maintain.Flushes awake = refl
first_part m step awake = awake

first_step : (s : KeeperState) (step : Keeping) → is_flush_resting s.maintain ≡ false → keeping_aside s step ≡ false
first_step s keeping.Maintains awake = first_part s.maintain s.maintain.step awake
first_step s step awake = awake

-- the first one, where no flush rests
pub first_works : (k : ℕ) (s : KeeperState) → is_flush_resting s.maintain ≡ false → keeper_actor k s ≡ k
first_works k s awake = ap (λ (aside : Bool). actor_by k aside) (first_step s s.step awake)

-- the keeper's step
pub keeper_makes : (k : ℕ) (shape : Shape) (p : Places) (granted done : Bool) (read : List ℕ) (s : KeeperState) (words : List ℕ)
    → IsStepOf (OfKeepers k (keeper_actor k s)) (keeper_actor k s) (keeper_move_events (keeper_actor k s) shape p granted done read s words)
keeper_makes k shape p granted done read s words = by_ask k (keeper_actor k s) shape p granted done read s words (keeper_ask shape p s) (actor_above k s) (first_works k s)

pub keeper_steps : (k : ℕ) (shape : Shape) (p : Places) (granted done : Bool) (read : List ℕ) (s : KeeperState) (words : List ℕ)
    → IsStep k (keeper_actor k s) (keeper_move_events (keeper_actor k s) shape p granted done read s words)
keeper_steps k shape p granted done read s words = keeper_step k (keeper_actor k s) _ (keeper_makes k shape p granted done read s words)

-- and a turn that is asked for
pub turn_asked_makes : (k : ℕ) (s : KeeperState) → IsStepOf (OfKeepers k (keeper_actor k s)) (keeper_actor k s) (turn_asked_events (keeper_actor k s) s)
turn_asked_makes k s =
    let a : ℕ = keeper_actor k s in
    by_test_of (OfKeepers k a) a (is_in_hand s.step) [] _ tt (by_test_of (OfKeepers k a) a s.is_broken [] _ tt (one_of k a _ (mine a) (begins a (serves_alone s))))
  where
    begins : (a : ℕ) (alone : Bool) → OfKeeper k (Begins a (turn_task s.maintain.begin.0 alone))
    begins a true = tt
    begins a false = tt

pub turn_asked_steps : (k : ℕ) (s : KeeperState) → IsStep k (keeper_actor k s) (turn_asked_events (keeper_actor k s) s)
turn_asked_steps k s = keeper_step k (keeper_actor k s) _ (turn_asked_makes k s)
