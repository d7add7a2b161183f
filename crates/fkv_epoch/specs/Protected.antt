-- Who is protected: a session's epoch word is above 0 from the store of its protect to the store of its leave.
use Rattle.std.specs.Prelude.{◌≡◌, ℕ, ◌<◌, Bool, true, false, slice_get, Option, Some, None}
use Rattle.fkv_epoch.specs.declared.protecting.Protecting.TheVariants as protect
use Rattle.fkv_epoch.specs.declared.refreshing.Refreshing.TheVariants as refresh
use Rattle.fkv_epoch.specs.declared.leaving.Leaving.TheVariants as leave
use Rattle.fkv_epoch.specs.EpochWorld.{EpochMachine, Protects, Refreshes, Leaves, EpochEvent, Moves, EpochNow, EpochWorld, own_epoch, epoch_happens}

-- the epoch that the machine has loaded, and is to store as its session's
abbrev pub epoch_in_hand : EpochMachine → Option ℕ
epoch_in_hand (Protects (protect.StoresEpoch epoch)) = Some epoch
epoch_in_hand (Refreshes (refresh.LoadsPhase epoch)) = Some epoch
epoch_in_hand (Refreshes (refresh.LoadsReadOnly epoch phase)) = Some epoch
epoch_in_hand (Refreshes (refresh.LoadsHead epoch phase read_only)) = Some epoch
epoch_in_hand (Refreshes (refresh.HasLoaded epoch values)) = Some epoch
epoch_in_hand (Refreshes (refresh.StoresEpoch epoch)) = Some epoch
epoch_in_hand machine = None

-- no epoch in hand is 0, which would say that the session isn't protected
abbrev pub HoldsNoZero : EpochWorld → Type 0
HoldsNoZero w = (actor epoch : ℕ) (machine : EpochMachine) → slice_get w.now.actors actor ≡ Some machine → epoch_in_hand machine ≡ Some epoch → 0 < epoch

-- a protect has stored the epoch from here on, and whoever refreshes is protected
abbrev pub is_protecting : EpochMachine → Bool
is_protecting (Protects protect.LoadsEpoch) = false
is_protecting (Protects (protect.StoresEpoch epoch)) = false
is_protecting (Protects step) = true
is_protecting (Refreshes step) = true
is_protecting machine = false

-- so the session's epoch word is above 0 there
abbrev pub IsProtected : EpochWorld → Type 0
IsProtected w = (session : ℕ) (machine : EpochMachine) → session < w.now.sessions → slice_get w.now.actors session ≡ Some machine → is_protecting machine ≡ true → 0 < own_epoch w.now.words session

-- the event is the store of the session's leave
pub record StoresZero (n : EpochNow) (session : ℕ) (event : EpochEvent) : Type 0 where
  pub its_step : event ≡ Moves session
  pub is_leaving : slice_get n.actors session ≡ Some (Leaves leave.StoresZero)

-- a protected session stays so, unless this is the store of its leave
unfoldable pub StaysProtected : EpochWorld → EpochEvent → Type 0
StaysProtected w event = (session : ℕ) → session < w.now.sessions → 0 < own_epoch w.now.words session → ¬ StoresZero w.now session event
    → 0 < own_epoch (epoch_happens w event).now.words session
