-- Where events of an actor lead that is like a machine above: what it drives then is under way.
use Rattle.std.proofs.Common.{◌≡◌, ℕ, List, [], ◌∷◌, refl, ap, ◌∙◌, true}
use Rattle.std.specs.Prelude.{Option, Some, None, slice_get}
use Rattle.fkv_plane.specs.declared.actions.Action.{Action}
use Rattle.fkv_epoch.specs.EpochWorld.{EpochMachine, EpochNear, is_at_rest, machine_step, sight_of}
use Rattle.fkv_flush.specs.GuardSeen.{LastSeen}
use Rattle.fkv_flush.specs.GuardWorld.{Actor, Work, GuardTask, GuardNow, GuardEvent, Begins, Moves, near, put_near, is_idle, may_work, started}
use Rattle.fkv_flush.proofs.Shown.{runs_now, put_there, goes_on, begins, moves_machine, Follows}
use Rattle.law_world.specs.GuardKeeper.Followed.{likeness}
use Rattle.law_world.specs.GuardKeeper.MaintainShown.{IsUnderWay}

pub record Led (n : GuardNow) (a : ℕ) (events : List GuardEvent) (seen : LastSeen) (machine : Option EpochMachine) (work : Option Work) (words : List ℕ) (actions : List (Option Action)) : Type 0 where
  pub follows : Follows n a events (likeness seen machine work) words actions
  pub busy : IsUnderWay machine work

-- one ask of its machine of the epochs, where that loads nothing that a session goes by
pub one_ask : (n : GuardNow) (a : ℕ) (x : Actor) (d : EpochMachine) → slice_get n.actors a ≡ Some x → x.machine ≡ d → is_idle x.work ≡ true → sight_of d ≡ None
    → (let there : EpochNear = machine_step n.places.sessions a n.words n.actions d in
    runs_now n (Moves a ∷ []) ≡ put_near n a (near there.words there.actions (record x { machine = there.machine })))
one_ask n a x d got its idle none = moves_machine n a x got idle ∙ ap (put_near n a) (rw (its, none) refl)

-- once the actor is through it begins another machine
pub then_begins : (n : GuardNow) (a : ℕ) (x y : Actor) (before : List GuardEvent) (words : List ℕ) (actions : List (Option Action)) (task : GuardTask) → slice_get n.actors a ≡ Some x
    → runs_now n before ≡ put_near n a (near words actions y) → is_at_rest y.machine ≡ true → is_idle y.work ≡ true → may_work (put_near n a (near words actions y)) a y task ≡ true
    → runs_now n (Begins a task ∷ before) ≡ put_near n a (near words actions (started (put_near n a (near words actions y)) y task))
then_begins n a x y before words actions task got led rests idle may =
    let m : GuardNow = put_near n a (near words actions y) in
    goes_on n a (Begins a task) before (near words actions y) (near words actions (started m y task)) led
    (begins m a y (put_there n a x (near words actions y) got) task rests idle may)
