-- The keeper's step, with and without a call of the device.
use Rattle.std.proofs.Common.{◌≡◌, ◌∙◌, sym, ap, subst, ℕ, Bool, false, true, List, [], ◌++◌, refl, arith, rules, inl}
use Rattle.std.specs.Prelude.{is_ok, Option, Result, Ok, Err, OnErr, IsErr}
use Rattle.fkv_disk.specs.Asks.{AskedCall, kinds_by}
use Rattle.fkv_disk.specs.Calls.{Call}
use Rattle.fkv_base.specs.declared.faults.Fault.{Fault}
use Rattle.fkv_disk.specs.Device.{Elapses, HasCause, MakesCalls, Rose}
use Rattle.fkv_disk.specs.Kinds.{Kind, Foretold}
use Rattle.fkv_flush.specs.Devices.{Adds}
use Rattle.fkv_keeper.specs.declared.answers.KeeperTold.{KeeperTold}
use Rattle.fkv_keeper.specs.declared.answers.KeeperTold.TheVariants.{Device}
use Rattle.fkv_keeper.specs.KeeperAsks.{IsDeviceStep, keeper_calls, keeper_due, keeper_made, keeper_read}
use Rattle.fkv_keeper.specs.Keeping.{KeeperModel, KeeperState, keeper_ask, keeper_called}
use Rattle.fkv_plane.specs.declared.asks.Ask.{Ask}
use Rattle.fkv_plane.specs.declared.asks.Ask.TheVariants.{Done}
use Rattle.fkv_plane.specs.Passing.{is_done}
use Rattle.fkv_plane.specs.Plane.{Plane}
use Rattle.fkv_world.specs.Moves.{Near, keeper_asks, keeper_moved}
use Rattle.fkv_world.specs.Past.{calls_after}
use Rattle.fkv_core.specs.Worlds.{beside, kinds_asked, BeginsNoSweep, IsKeeperMove, MakesItsCalls, UsesDevice}
use Rattle.fkv_core.proofs.NoSweep.{called_none}

-- a word's ask makes no call of the device
no_calls : (ask : Ask KeeperTold) (made : List Call) → is_done ask ≡ false → calls_after ask made [] ≡ []
no_calls (Done told) made word = cc
no_calls ask made word = refl

adds_none : (made : List Call) (seen : List ℕ) (may_leave : List ℕ → Type 0) → made ≡ [] → Adds made seen seen may_leave may_leave
adds_none made seen may_leave none = subst (λ (its : List Call). Adds its seen seen may_leave may_leave) (sym none) (λ opening calls was. was)

-- nor does it come near the device
spares_device : (ask : Ask KeeperTold) (count : ℕ) (done : Bool) (failed : ℕ) (refuses : ℕ → Bool) → is_done ask ≡ false → UsesDevice ask count done failed failed refuses refuses
spares_device (Done told) count done failed refuses word = cc
spares_device ask count done failed refuses word = (refl, refl)

-- and the device says of calls to come what it said
tells_none : (ask : Ask KeeperTold) (due : Option AskedCall) (done : Bool) (says : List Kind → Foretold) → is_done ask ≡ false → says ≡ kinds_asked ask due done says
tells_none (Done told) due done says word = cc
tells_none ask due done says word = refl

pub word_move : (sweeps : Bool) (plane plane' : Plane) (k k' : KeeperModel) (failed : ℕ) (refuses : ℕ → Bool) (expects : List Kind → Foretold) (honest : Type 0) (seen : List ℕ) (may_leave : List ℕ → Type 0) → is_done (keeper_ask k.shape k.places k.state) ≡ false
    → k' ≡ record k { state = k'.state } → (sweeps ≡ false → BeginsNoSweep k.state k'.state) → (granted : Bool) × ((done : Bool) (read : List ℕ) → beside plane' k'.state ≡ keeper_moved k.shape k.places granted done read (beside plane k.state))
    → IsKeeperMove sweeps plane k plane' k' failed failed refuses refuses expects expects honest seen seen may_leave may_leave
word_move sweeps plane plane' k k' failed refuses expects honest seen may_leave word store no_sweep moved = record {
  granted = moved.0;
  done = true;
  read = [];
  store = store;
  no_sweep = no_sweep;
  uses = spares_device (keeper_ask k.shape k.places k.state) (keeper_made k.places k.state) true failed refuses word;
  kinds = tells_none (keeper_ask k.shape k.places k.state) (keeper_due k) true expects word;
  moved = moved.1 true [];
  as_read = λ claim. moved.1 true (keeper_read k seen);
  wrote = λ claim. adds_none (calls_after (keeper_ask k.shape k.places k.state) (keeper_calls k.shape k.state true) []) seen may_leave (no_calls (keeper_ask k.shape k.places k.state) (keeper_calls k.shape k.state true) word);
}

-- nothing happens in no time
pub no_time : (moment : ℕ) (left_since : ℕ → List ℕ → Type 0) (may_leave : List ℕ → Type 0) → Elapses moment moment left_since left_since may_leave
no_time moment left_since may_leave = record { later = omega arith; nothing_else = λ t image early left. inl left; keeps = λ t image early left. left }

called_moved : (k : KeeperModel) (n : Near KeeperState) (done : Bool) (read : List ℕ) (granted : Bool) → keeper_ask k.shape k.places n.machine ≡ Done Device
    → record n { machine = keeper_called k.shape k.places n.machine done read } ≡ keeper_moved k.shape k.places granted done read n
unfolding keeper_asks
called_moved k n done read granted asks = sym (ap (λ (ask : Ask KeeperTold). keeper_asks k.shape k.places granted done read n ask) asks)

made_all : (made : List Call) → made ++ [] ≡ made
made_all made = search rules

calls_device : (ask : Ask KeeperTold) (made : List Call) → ask ≡ Done Device → calls_after ask made [] ≡ made
calls_device ask made asks = ap (λ (it : Ask KeeperTold). calls_after it made []) asks ∙ made_all made

-- what is told of the call's result is told of whether it succeeded
is_false : {T : Type 0} (called : Result T Fault) (failed failed' : ℕ) → OnErr called (Rose failed failed') → is_ok called ≡ false → Rose failed failed'
is_false (Ok its) failed failed' rose e = cc
is_false (Err why) failed failed' rose e = rose

is_err : {T : Type 0} (called : Result T Fault) → IsErr called → is_ok called ≡ false
is_err (Ok its) is = cc
is_err (Err why) is = refl

used_so : {T : Type 0} (count : ℕ) (called : Result T Fault) (failed failed' : ℕ) (refuses refuses' : ℕ → Bool) → HasCause failed failed' called → MakesCalls count refuses refuses' called
    → MakesItsCalls count (is_ok called) failed failed' refuses refuses'
used_so count called failed failed' refuses refuses' cause made = record {
  later = cause.later;
  rose = is_false called failed failed' cause.rose;
  counted = made.counted;
  refused = λ i small it. is_err called (made.refused i small it);
}

uses_device : (ask : Ask KeeperTold) (count : ℕ) (done : Bool) (failed failed' : ℕ) (refuses refuses' : ℕ → Bool) → ask ≡ Done Device → MakesItsCalls count done failed failed' refuses refuses'
    → UsesDevice ask count done failed failed' refuses refuses'
uses_device ask count done failed failed' refuses refuses' asks made = rw asks made

tells_due : (ask : Ask KeeperTold) (due : Option AskedCall) (done : Bool) (says says' : List Kind → Foretold) → ask ≡ Done Device → says' ≡ kinds_by due done says → says' ≡ kinds_asked ask due done says
tells_due ask due done says says' asks kind = rw asks kind

pub device_move : (sweeps : Bool) (plane : Plane) (k k' : KeeperModel) (honest : Type 0) (failed failed' : ℕ) (refuses refuses' : ℕ → Bool) (expects expects' : List Kind → Foretold) (seen seen' : List ℕ) (may_leave may_leave' : List ℕ → Type 0)
    → keeper_ask k.shape k.places k.state ≡ Done Device → IsDeviceStep k honest failed failed' refuses refuses' expects expects' seen seen' may_leave may_leave' k' → IsKeeperMove sweeps plane k plane k' failed failed' refuses refuses' expects expects' honest seen seen' may_leave may_leave'
device_move sweeps plane k k' honest failed failed' refuses refuses' expects expects' seen seen' may_leave may_leave' asks step =
    let n : Near KeeperState = beside plane k.state in
    let made : List Call = keeper_calls k.shape k.state (is_ok step.called) in
    record {
      granted = true;
      done = is_ok step.called;
      read = step.bytes;
      uses = uses_device (keeper_ask k.shape k.places k.state) (keeper_made k.places k.state) (is_ok step.called) failed failed' refuses refuses' asks (used_so (keeper_made k.places k.state) step.called failed failed' refuses refuses' step.cause step.counted);
      kinds = tells_due (keeper_ask k.shape k.places k.state) (keeper_due k) (is_ok step.called) expects expects' asks step.kind;
      store = step.went_on ∙ ap (λ (it : KeeperModel). record k { state = it.state }) (sym step.went_on);
      no_sweep = λ none. subst (λ (it : KeeperModel). BeginsNoSweep k.state it.state) (sym step.went_on) (called_none k.shape k.places k.state (is_ok step.called) step.bytes);
      moved = ap (λ (it : KeeperModel). beside plane it.state) step.went_on ∙ called_moved k n (is_ok step.called) step.bytes true asks;
      as_read = λ claim. ap (λ (it : KeeperModel). beside plane it.state) (step.read claim) ∙ called_moved k n (is_ok step.called) (keeper_read k seen) true asks;
      wrote = λ claim. subst (λ (its : List Call). Adds its seen seen' may_leave may_leave') (sym (calls_device (keeper_ask k.shape k.places k.state) made asks)) (step.wrote claim);
    }
