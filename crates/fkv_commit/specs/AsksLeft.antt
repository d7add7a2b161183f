-- How many asks a machine has left, at most: those of the machine inside that is under way, and of what may come behind it. The put of an
-- action counts with them.
use Rattle.std.specs.Prelude.{ℕ, ◌+◌, ◌-◌, ◌*◌, length}
use Rattle.fkv_base.specs.Limits.{drain_slots}
use Rattle.fkv_plane.specs.AsksLeft.{sum_left}
use Rattle.fkv_epoch.specs.declared.arming.Arming.{Arming}
use Rattle.fkv_epoch.specs.declared.arming.Arming.TheVariants as arm
use Rattle.fkv_epoch.specs.Raising.{raise_on, raise_asks_left}
use Rattle.fkv_commit.specs.declared.deferring.Deferring.{Deferring}
use Rattle.fkv_commit.specs.declared.deferring.Deferring.TheVariants as defer
use Rattle.fkv_commit.specs.declared.starting.Starting.{Starting}
use Rattle.fkv_commit.specs.declared.starting.Starting.TheVariants as start
use Rattle.fkv_commit.specs.declared.entering.Entering.{Entering}
use Rattle.fkv_commit.specs.declared.entering.Entering.TheVariants as enter
use Rattle.fkv_commit.specs.declared.seeking.Seeking.{Seeking}
use Rattle.fkv_commit.specs.declared.seeking.Seeking.TheVariants as seek
use Rattle.fkv_commit.specs.declared.waiting.Waiting.{Waiting}
use Rattle.fkv_commit.specs.declared.waiting.Waiting.TheVariants as wait
use Rattle.fkv_commit.specs.declared.finishing.Finishing.{Finishing}
use Rattle.fkv_commit.specs.declared.finishing.Finishing.TheVariants as finish
use Rattle.fkv_commit.specs.Deferring.{DeferState}
use Rattle.fkv_commit.specs.Starting.{StartState}
use Rattle.fkv_commit.specs.Entering.{EnterState}
use Rattle.fkv_commit.specs.Seeking.{SeekState}
use Rattle.fkv_commit.specs.Waiting.{WaitState}
use Rattle.fkv_commit.specs.Finishing.{FinishState}

-- the put of an action is no ask of the arming's, which goes on by its reply
unfoldable pub arms_left : Arming → ℕ
arms_left (arm.StoresEpoch slot epoch) = 1
arms_left step = 0

unfoldable pub deferring_asks_left : DeferState → Deferring → ℕ
deferring_asks_left d (defer.Ended its) = 0
deferring_asks_left d defer.Seeks = raise_asks_left d.raising
deferring_asks_left d defer.Holds = 0
deferring_asks_left d (defer.Raises its) = sum_left (raise_asks_left d.raising) 2
deferring_asks_left d (defer.Puts its slot epoch) = 2
deferring_asks_left d (defer.Arms epoch) = arms_left d.arming

abbrev pub defer_asks_left : DeferState → ℕ
defer_asks_left d = deferring_asks_left d d.step

-- those that it has left once its owner lets it go on
unfoldable pub deferring_asks_later : DeferState → Deferring → ℕ
deferring_asks_later d defer.Holds = sum_left (raise_asks_left (raise_on d.raising)) 2
deferring_asks_later d step = deferring_asks_left d step

abbrev pub defer_asks_later : DeferState → ℕ
defer_asks_later d = deferring_asks_later d d.step

-- one loads the epoch, and two meet each slot; and once a slot is held, one raises the epoch, one puts the action and one arms
abbrev pub most_slot_asks : ℕ
most_slot_asks = 2 * drain_slots + 1

abbrev pub most_raise_asks : ℕ
most_raise_asks = 3

unfoldable pub starting_asks_left : StartState → Starting → ℕ
starting_asks_left s (start.Ended its) = 0
starting_asks_left s start.LoadsPhase = most_slot_asks + most_raise_asks + 3
starting_asks_left s (start.Seeks number) = sum_left (defer_asks_left s.defer) (most_raise_asks + 2)
starting_asks_left s (start.StoresPrepare number) = defer_asks_later s.defer + 2
starting_asks_left s (start.LoadsTail number) = defer_asks_later s.defer + 1
starting_asks_left s (start.Defers number first) = defer_asks_left s.defer

abbrev pub start_asks_left : StartState → ℕ
start_asks_left s = starting_asks_left s s.step

unfoldable pub entering_asks_left : EnterState → Entering → ℕ
entering_asks_left s (enter.Ended its) = 0
entering_asks_left s enter.Seeks = sum_left (defer_asks_left s.defer) most_raise_asks
entering_asks_left s enter.Defers = defer_asks_left s.defer

abbrev pub enter_asks_left : EnterState → ℕ
enter_asks_left s = entering_asks_left s s.step

-- three loads for each session from this one on, at most, and behind them wait-flush, the tail and the read-only offset
abbrev pub points_left : SeekState → ℕ → ℕ
points_left s session = 3 * (s.sessions - session) + 3

unfoldable pub seeking_asks_left : SeekState → Seeking → ℕ
seeking_asks_left s (seek.Ended its) = 0
seeking_asks_left s (seek.LoadsOwing session) = (s.sessions - (session + 1)) + most_slot_asks + points_left s 0 + most_raise_asks + 1
seeking_asks_left s seek.SeeksSlot = sum_left (defer_asks_left s.defer) (points_left s 0 + most_raise_asks)
seeking_asks_left s seek.LoadsCut = points_left s (length s.points + 1) + defer_asks_later s.defer + 3
seeking_asks_left s (seek.LoadsOther first) = points_left s (length s.points + 1) + defer_asks_later s.defer + 2
seeking_asks_left s seek.LoadsAgain = points_left s (length s.points + 1) + defer_asks_later s.defer + 1
seeking_asks_left s seek.StoresWaitFlush = defer_asks_later s.defer + 3
seeking_asks_left s seek.LoadsTail = defer_asks_later s.defer + 2
seeking_asks_left s (seek.RaisesReadOnly end) = defer_asks_later s.defer + 1
seeking_asks_left s (seek.Defers end) = defer_asks_left s.defer

abbrev pub seek_asks_left : SeekState → ℕ
seek_asks_left s = seeking_asks_left s s.step

unfoldable pub waiting_asks_left : Waiting → ℕ
waiting_asks_left (wait.Ended its) = 0
waiting_asks_left wait.LoadsSafe = 2
waiting_asks_left wait.LoadsFlushed = 1

abbrev pub wait_asks_left : WaitState → ℕ
wait_asks_left s = waiting_asks_left s.step

-- the durable words from this session's on, and rest
unfoldable pub finishing_asks_left : FinishState → Finishing → ℕ
finishing_asks_left s (finish.Ended its) = 0
finishing_asks_left s (finish.StoresDurable session) = (s.sessions - (session + 1)) + 2
finishing_asks_left s finish.StoresRest = 1

abbrev pub finish_asks_left : FinishState → ℕ
finish_asks_left s = finishing_asks_left s s.step
