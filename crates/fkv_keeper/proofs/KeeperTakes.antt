-- Of the machines of a commit none waits for actions, and neither does a sweep.
use Rattle.std.proofs.Common.{◌≡◌, ◌∙◌, refl, List, false}
use Rattle.std.specs.Prelude.{ℕ, Option, Some, None}
use Rattle.fkv_base.specs.declared.numbers.Serial.{Serial}
use Rattle.fkv_epoch.specs.Claiming.{takes_action}
use Rattle.fkv_checkpoint.specs.declared.copying.CopyStep.{CopyStep}
use Rattle.fkv_checkpoint.specs.declared.copying.CopyStep.TheVariants as copying
use Rattle.fkv_checkpoint.specs.Copying.{Copier, copy_step_ask}
use Rattle.fkv_commit.specs.declared.deferring.DeferAnswer.TheVariants as deferred
use Rattle.fkv_commit.specs.declared.deferring.Deferring.{Deferring}
use Rattle.fkv_commit.specs.declared.deferring.Deferring.TheVariants as defer
use Rattle.fkv_commit.specs.declared.entering.EnterAnswer.TheVariants as enter_answer
use Rattle.fkv_commit.specs.declared.entering.Entering.{Entering}
use Rattle.fkv_commit.specs.declared.entering.Entering.TheVariants as enter
use Rattle.fkv_commit.specs.declared.finishing.Finishing.{Finishing}
use Rattle.fkv_commit.specs.declared.finishing.Finishing.TheVariants as finish
use Rattle.fkv_commit.specs.declared.seeking.SeekAnswer.TheVariants as seek_answer
use Rattle.fkv_commit.specs.declared.seeking.Seeking.{Seeking}
use Rattle.fkv_commit.specs.declared.seeking.Seeking.TheVariants as seek
use Rattle.fkv_commit.specs.declared.starting.StartAnswer.TheVariants as start_answer
use Rattle.fkv_commit.specs.declared.starting.Starting.{Starting}
use Rattle.fkv_commit.specs.declared.starting.Starting.TheVariants as start
use Rattle.fkv_commit.specs.declared.waiting.Waiting.{Waiting}
use Rattle.fkv_commit.specs.declared.waiting.Waiting.TheVariants as wait
use Rattle.fkv_commit.specs.Deferring.{DeferState, deferring_ask, defer_ask}
use Rattle.fkv_commit.specs.Entering.{EnterState, entering_ask, enter_ask}
use Rattle.fkv_commit.specs.Finishing.{FinishState, finishing_ask, finish_ask}
use Rattle.fkv_commit.specs.Seeking.{SeekState, seeking_ask, seek_ask}
use Rattle.fkv_commit.specs.Starting.{StartState, starting_ask, start_ask}
use Rattle.fkv_commit.specs.Waiting.{WaitState, waiting_ask, wait_ask}
use Rattle.fkv_epoch.specs.Arming.{arm_ask}
use Rattle.fkv_epoch.specs.Raising.{raise_ask}
use Rattle.fkv_plane.specs.declared.asks.Ask.{Ask}
use Rattle.fkv_plane.specs.declared.asks.Ask.TheVariants.{Load, Store, Swap, Cas, Add, Max, Put, Take, Done}
use Rattle.fkv_sweep.specs.declared.sweeping.SweepAnswer.{SweepAnswer}
use Rattle.fkv_sweep.specs.Sweeping.{Sweeper, sweep_ask}
use Rattle.fkv_sweep.proofs.Shown.{sweep_takes_none}
use Rattle.fkv_keeper.specs.Keeping.{copy_asked}
use Rattle.fkv_maintain.proofs.Shown.{passed_takes, raise_takes, arm_takes}

deferring_takes : (d : DeferState) (step : Deferring) → takes_action (deferring_ask d step) ≡ false
unfolding deferring_ask
deferring_takes d defer.Seeks = passed_takes (raise_ask d.raising) deferred.NoSlot ∙ raise_takes d.raising
deferring_takes d (defer.Raises its) = passed_takes (raise_ask d.raising) deferred.NoSlot ∙ raise_takes d.raising
deferring_takes d (defer.Arms epoch) = passed_takes (arm_ask d.arming) (deferred.Armed epoch) ∙ arm_takes d.arming
deferring_takes d (defer.Ended its) = refl
deferring_takes d defer.Holds = refl
deferring_takes d (defer.Puts its slot epoch) = refl

defer_takes : (d : DeferState) → takes_action (defer_ask d) ≡ false
defer_takes d = deferring_takes d d.step

start_step_takes : (s : StartState) (step : Starting) → takes_action (starting_ask s step) ≡ false
unfolding starting_ask
start_step_takes s (start.Seeks number) = passed_takes (defer_ask s.defer) start_answer.Idle ∙ defer_takes s.defer
start_step_takes s (start.Defers number first) = passed_takes (defer_ask s.defer) start_answer.Idle ∙ defer_takes s.defer
start_step_takes s (start.Ended its) = refl
start_step_takes s start.LoadsPhase = refl
start_step_takes s (start.StoresPrepare number) = refl
start_step_takes s (start.LoadsTail number) = refl

pub starting_takes : (s : StartState) → takes_action (start_ask s) ≡ false
starting_takes s = start_step_takes s s.step

enter_step_takes : (s : EnterState) (step : Entering) → takes_action (entering_ask s step) ≡ false
unfolding entering_ask
enter_step_takes s enter.Seeks = passed_takes (defer_ask s.defer) enter_answer.Idle ∙ defer_takes s.defer
enter_step_takes s enter.Defers = passed_takes (defer_ask s.defer) enter_answer.Idle ∙ defer_takes s.defer
enter_step_takes s (enter.Ended its) = refl

pub entering_takes : (s : EnterState) → takes_action (enter_ask s) ≡ false
entering_takes s = enter_step_takes s s.step

copy_step_takes : (base : ℕ) (step : CopyStep) → takes_action (copy_step_ask base step) ≡ false
unfolding copy_step_ask
copy_step_takes base copying.Ended = refl
copy_step_takes base (copying.LoadsSlot slot) = refl
copy_step_takes base copying.LoadsLink = refl

pub copy_takes : (copy : Option Copier) → takes_action (copy_asked copy) ≡ false
copy_takes None = refl
copy_takes (Some m) = copy_step_takes m.copying.base m.copying.step

seek_step_takes : (s : SeekState) (step : Seeking) → takes_action (seeking_ask s step) ≡ false
unfolding seeking_ask
seek_step_takes s seek.SeeksSlot = passed_takes (defer_ask s.defer) seek_answer.Idle ∙ defer_takes s.defer
seek_step_takes s (seek.Defers end) = passed_takes (defer_ask s.defer) seek_answer.Idle ∙ defer_takes s.defer
seek_step_takes s (seek.Ended its) = refl
seek_step_takes s step = refl

pub seeking_takes : (s : SeekState) → takes_action (seek_ask s) ≡ false
seeking_takes s = seek_step_takes s s.step

wait_step_takes : (step : Waiting) → takes_action (waiting_ask step) ≡ false
unfolding waiting_ask
wait_step_takes (wait.Ended its) = refl
wait_step_takes step = refl

pub waiting_takes : (s : WaitState) → takes_action (wait_ask s) ≡ false
waiting_takes s = wait_step_takes s.step

finish_step_takes : (points : List Serial) (s : FinishState) (step : Finishing) → takes_action (finishing_ask points s step) ≡ false
unfolding finishing_ask
finish_step_takes points s (finish.Ended its) = refl
finish_step_takes points s step = refl

pub finishing_takes : (points : List Serial) (s : FinishState) → takes_action (finish_ask points s) ≡ false
finishing_takes points s = finish_step_takes points s s.step

ask_takes : (ask : Ask SweepAnswer) → ((slot : ℕ) → ask ≡ Take slot → ⊥) → takes_action ask ≡ false
ask_takes (Load place) none = refl
ask_takes (Store place new) none = refl
ask_takes (Swap place new) none = refl
ask_takes (Cas place old new) none = refl
ask_takes (Add place k) none = refl
ask_takes (Max place k) none = refl
ask_takes (Put slot action) none = refl
ask_takes (Take slot) none = absurd (none slot refl)
ask_takes (Done its) none = refl

pub sweeping_takes : (s : Sweeper) → takes_action (sweep_ask s) ≡ false
sweeping_takes s = ask_takes (sweep_ask s) (sweep_takes_none s)
