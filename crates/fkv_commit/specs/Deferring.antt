-- How what must wait until all have seen a change is deferred: a drain slot is held; once the owner has made the change, the epoch is
-- raised, and the slot is armed with the action at the epoch before.
use Rattle.std.specs.Prelude.{ℕ, ◌-◌, ◌^◌, min}
use Rattle.fkv_plane.specs.declared.actions.Action.{Action}
use Rattle.fkv_plane.specs.declared.actions.Action.TheVariants as act
use Rattle.fkv_plane.specs.declared.asks.Ask.{Ask}
use Rattle.fkv_plane.specs.declared.asks.Ask.TheVariants.{Put, Done}
use Rattle.fkv_plane.specs.Passing.{passed}
use Rattle.fkv_epoch.specs.declared.raising.RaiseAnswer.{RaiseAnswer}
use Rattle.fkv_epoch.specs.declared.raising.RaiseAnswer.TheVariants as raised
use Rattle.fkv_epoch.specs.declared.raising.Raising.{Raising}
use Rattle.fkv_epoch.specs.declared.raising.Raising.TheVariants as raise
use Rattle.fkv_epoch.specs.declared.arming.Arming.{Arming}
use Rattle.fkv_epoch.specs.declared.arming.Arming.TheVariants as arm
use Rattle.fkv_epoch.specs.Raising.{raise_ask, raise_next, raise_next_ask, raise_on}
use Rattle.fkv_epoch.specs.Arming.{arm_ask, arm_next}
use Rattle.fkv_commit.specs.declared.deferring.Deferred.{Deferred}
use Rattle.fkv_commit.specs.declared.deferring.Deferred.TheVariants.{EntersPhase, ShowsReadOnly}
use Rattle.fkv_commit.specs.declared.deferring.DeferAnswer.{DeferAnswer}
use Rattle.fkv_commit.specs.declared.deferring.DeferAnswer.TheVariants.{Held, NoSlot, Spent, Armed}
use Rattle.fkv_commit.specs.declared.deferring.Deferring.{Deferring}
use Rattle.fkv_commit.specs.declared.deferring.Deferring.TheVariants.{Ended, Seeks, Holds, Raises, Puts, Arms}

pub record DeferState : Type 0 where
  -- the machines inside it
  pub raising : Raising
  pub arming : Arming
  pub step : Deferring

abbrev pub defer_begun : DeferState → DeferState
defer_begun d = record d { raising = raise.LoadsEpoch; step = Seeks }

abbrev pub action_of : Deferred → Action
action_of (EntersPhase phase version) = act.Phase phase version
action_of (ShowsReadOnly to) = act.SafeReadOnly to

-- a slot's word holds the epoch and 2, and epochs stay far below the end
abbrev pub armed_epoch : ℕ → ℕ
armed_epoch epoch = min epoch (2 ^ 64 - 3)

-- what each state asks
unfoldable pub deferring_ask : DeferState → Deferring → Ask DeferAnswer
deferring_ask d (Ended its) = Done its
deferring_ask d Seeks = passed (raise_ask d.raising) NoSlot
deferring_ask d Holds = Done Held
deferring_ask d (Raises its) = passed (raise_ask d.raising) NoSlot
deferring_ask d (Puts its slot epoch) = Put slot (action_of its)
deferring_ask d (Arms epoch) = passed (arm_ask d.arming) (Armed epoch)

abbrev pub defer_ask : DeferState → Ask DeferAnswer
defer_ask d = deferring_ask d d.step

-- by what the raise asks next: a slot is held, or there is none
unfoldable pub seek_ledto : DeferState → Ask RaiseAnswer → DeferState
seek_ledto d (Done (raised.HasSlot slot)) = record d { step = Holds }
seek_ledto d (Done raised.Spent) = record d { step = Ended Spent }
seek_ledto d (Done its) = record d { step = Ended NoSlot }
seek_ledto d ask = d

-- once the epoch is raised the action is put into the slot
unfoldable pub raise_ledto : Deferred → DeferState → Ask RaiseAnswer → DeferState
raise_ledto its d (Done (raised.Raised slot epoch)) = record d { arming = arm.PutsAction slot (armed_epoch epoch); step = Puts its slot (armed_epoch epoch) }
raise_ledto its d (Done other) = record d { step = Ended NoSlot }
raise_ledto its d ask = d

-- and the slot is armed then
unfoldable pub arm_ledto : ℕ → DeferState → Ask (Unit {0}) → DeferState
arm_ledto epoch d (Done its) = record d { step = Ended (Armed epoch) }
arm_ledto epoch d ask = record d { step = Arms epoch }

-- where the reply leads
unfoldable pub deferring_next : DeferState → Deferring → ℕ → DeferState
deferring_next d (Ended its) reply = d
deferring_next d Seeks reply = seek_ledto (record d { raising = raise_next d.raising reply }) (raise_next_ask d.raising reply)
deferring_next d Holds reply = d
deferring_next d (Raises its) reply = raise_ledto its (record d { raising = raise_next d.raising reply }) (raise_next_ask d.raising reply)
deferring_next d (Puts its slot epoch) reply = arm_ledto epoch (record d { arming = arm_next d.arming }) (arm_ask (arm_next d.arming))
deferring_next d (Arms epoch) reply = arm_ledto epoch (record d { arming = arm_next d.arming }) (arm_ask (arm_next d.arming))

abbrev pub defer_next : DeferState → ℕ → DeferState
defer_next d reply = deferring_next d d.step reply

-- where it goes on once the change is made
unfoldable pub deferring_on : DeferState → Deferring → Deferred → DeferState
deferring_on d Holds its = record d { raising = raise_on d.raising; step = Raises its }
deferring_on d step its = d

abbrev pub defer_on : DeferState → Deferred → DeferState
defer_on d its = deferring_on d d.step its
