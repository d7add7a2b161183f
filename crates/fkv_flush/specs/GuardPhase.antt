-- The tail as it was when each session loaded the phase.
use Rattle.std.specs.Prelude.{◌≡◌, ℕ, ◌≤◌, ◌==◌, if◌then◌else◌, List, [], ◌∷◌, slice_get, Option, Some, None}
use Rattle.fkv_epoch.specs.declared.refreshing.Refreshing.TheVariants as refresh
use Rattle.fkv_epoch.specs.EpochWorld.{EpochMachine, Protects, Refreshes, Sight, OfPhase, sight_of}
use Rattle.fkv_flush.specs.GuardLevels.{levels_of}
use Rattle.fkv_flush.specs.GuardWorld.{Actor, GuardNow, GuardWorld, GuardEvent, Moves, Sees, drives_epochs, is_none, guard_run, levels}
use Rattle.fkv_flush.specs.Guarded.{GoesBy, undecided_of}

-- the tail at each session's last load of the phase, and at the load of the phase that it goes by: while a refresh is under way, that before it
pub record PhaseTails : Type 0 where
  pub last : ℕ → ℕ
  pub in_force : ℕ → ℕ

-- a load of the phase finds this tail
abbrev pub with_tail : ℕ → Option Sight → ℕ → ℕ
with_tail before (Some OfPhase) tail = tail
with_tail before sight tail = before

abbrev pub tail_loaded : (ℕ → ℕ) → ℕ → Option Sight → ℕ → ℕ → ℕ
tail_loaded tails session sight tail other = if other == session then with_tail (tails other) sight tail else tails other

-- a refresh that stores its epoch takes up what the session has loaded
abbrev pub tail_taken_up : PhaseTails → ℕ → ℕ → ℕ
tail_taken_up t session other = if other == session then t.last other else t.in_force other

-- the tails in force after the machine's ask: what a session loads while it protects itself is in force at once
abbrev pub tails_in_force : PhaseTails → ℕ → ℕ → EpochMachine → (ℕ → ℕ)
tails_in_force t session tail (Protects step) = tail_loaded t.in_force session (sight_of (Protects step)) tail
tails_in_force t session tail (Refreshes (refresh.StoresEpoch epoch)) = tail_taken_up t session
tails_in_force t session tail machine = t.in_force

abbrev pub tails_moved : GuardNow → ℕ → PhaseTails → Option Actor → PhaseTails
tails_moved n actor t None = t
tails_moved n actor t (Some x) = if drives_epochs x.work then record {
  last = tail_loaded t.last actor (sight_of x.machine) (levels_of n.words).tail;
  in_force = tails_in_force t actor (levels_of n.words).tail x.machine;
} else t

abbrev pub tails_seen : GuardNow → ℕ → Sight → PhaseTails → Option Actor → PhaseTails
tails_seen n session sight t None = t
tails_seen n session sight t (Some x) = if is_none x.undecided then record {
  last = tail_loaded t.last session (Some sight) (levels_of n.words).tail;
  in_force = tail_loaded t.in_force session (Some sight) (levels_of n.words).tail;
} else t

abbrev pub tails_after : GuardNow → GuardEvent → PhaseTails → PhaseTails
tails_after n (Moves actor) t = tails_moved n actor t (slice_get n.actors actor)
tails_after n (Sees session sight) t = tails_seen n session sight t (slice_get n.actors session)
tails_after n event t = t

-- those of a whole run; at the opening each session goes by the phase with the opening's tail
unfoldable pub phase_tails : GuardWorld → List GuardEvent → PhaseTails
phase_tails first [] = record { last = λ session. (levels first).tail; in_force = λ session. (levels first).tail }
phase_tails first (event ∷ before) = tails_after (guard_run first before).now event (phase_tails first before)

-- An undecided address is at or above the tail that its session found with the phase, and the safe read-only offset is at or below the one
-- found by each session that goes by its phase. The tail in force is no later than the last.
pub record KeepsTails (w : GuardWorld) (t : PhaseTails) : Type 0 where
  pub undecided : (session addr : ℕ) → undecided_of w.now.actors session ≡ Some addr → t.last session ≤ addr
  pub safe : (session : ℕ) → GoesBy w.now session OfPhase → (levels w).safe_read_only ≤ t.in_force session
  pub in_force : (session : ℕ) → t.in_force session ≤ t.last session
  pub last : (session : ℕ) → t.last session ≤ (levels w).tail
