-- What the keeper does but reply begins no sweep.
use Rattle.std.proofs.Common.{◌≡◌, ℕ, Bool, true, false, List, refl}
use Rattle.std.specs.Prelude.{if◌then◌else◌}
use Rattle.fkv_base.specs.declared.commits.CommitKind.{CommitKind}
use Rattle.fkv_base.specs.declared.shapes.Shape.{Shape}
use Rattle.fkv_keeper.specs.declared.keepers.Keeping.{Keeping}
use Rattle.fkv_keeper.specs.declared.keepers.Keeping.TheVariants.{Sweeps}
use Rattle.fkv_keeper.specs.Keeping.{KeeperState, commit_asked, keeper_called, keeper_given, turn_asked}
use Rattle.fkv_keeper.specs.KeeperRun.{Calls, Gets, KeeperEvent, is_in_hand, keeper_happens}
use Rattle.fkv_keeper.specs.SweepLaws.{IsSweepAfter}
use Rattle.fkv_keeper.proofs.Shown.{sweep_moves}
use Rattle.fkv_plane.specs.declared.actions.Action.{Action}
use Rattle.fkv_plane.specs.declared.places.Places.{Places}
use Rattle.fkv_world.specs.World.{keeper_asked}
use Rattle.fkv_core.specs.Worlds.{BeginsNoSweep}

-- an action that it gets
given_after : (shape : Shape) (p : Places) (s : KeeperState) (action : Action) → IsSweepAfter (Gets action) s.step s (keeper_given shape p s action)
unfolding keeper_happens
given_after shape p s action = sweep_moves shape p s (Gets action)

given_from : (s after : KeeperState) (step : Keeping) (action : Action) → IsSweepAfter (Gets action) step s after → BeginsNoSweep s after
given_from s after step action left sweeps = left.none_begins sweeps

pub given_none : (shape : Shape) (p : Places) (s : KeeperState) (action : Action) → BeginsNoSweep s (keeper_given shape p s action)
given_none shape p s action = given_from s (keeper_given shape p s action) s.step action (given_after shape p s action)

-- a call of the device
called_after : (shape : Shape) (p : Places) (s : KeeperState) (done : Bool) (bytes : List ℕ) → IsSweepAfter (Calls done bytes) s.step s (keeper_called shape p s done bytes)
unfolding keeper_happens
called_after shape p s done bytes = sweep_moves shape p s (Calls done bytes)

called_from : (s after : KeeperState) (step : Keeping) (done : Bool) (bytes : List ℕ) → s.step ≡ step → IsSweepAfter (Calls done bytes) step s after → BeginsNoSweep s after
called_from s after Sweeps done bytes e its sweeps = e
called_from s after step true bytes e left sweeps = left.none_begins sweeps
called_from s after step false bytes e left sweeps = left.none_begins sweeps

pub called_none : (shape : Shape) (p : Places) (s : KeeperState) (done : Bool) (bytes : List ℕ) → BeginsNoSweep s (keeper_called shape p s done bytes)
called_none shape p s done bytes = called_from s (keeper_called shape p s done bytes) s.step done bytes refl (called_after shape p s done bytes)

-- what is asked of it
asked_none : (busy : Bool) (s begun : KeeperState) → (begun.step ≡ Sweeps → ⊥) → BeginsNoSweep s (if busy then s else begun)
asked_none true s begun none sweeps = sweeps
asked_none false s begun none sweeps = absurd (none sweeps)

commit_from : (broken rests : Bool) (s : KeeperState) (kind : CommitKind) → s.is_broken ≡ broken → s.rests ≡ rests → (commit_asked s kind).step ≡ Sweeps → ⊥
commit_from true rests s kind e r = rw e (λ sweeps. cc)
commit_from false true s kind e r = rw (e, r) (λ sweeps. cc)
commit_from false false s kind e r = rw (e, r) (λ sweeps. cc)

turn_from : (broken : Bool) (s : KeeperState) → s.is_broken ≡ broken → (turn_asked s).step ≡ Sweeps → ⊥
turn_from true s e = rw e (λ sweeps. cc)
turn_from false s e = rw e (λ sweeps. cc)

pub commit_none : (s : KeeperState) (kind : CommitKind) → BeginsNoSweep s (keeper_asked s (commit_asked s kind))
commit_none s kind = asked_none (is_in_hand s.step) s (commit_asked s kind) (commit_from s.is_broken s.rests s kind refl refl)

pub turn_none : (s : KeeperState) → BeginsNoSweep s (keeper_asked s (turn_asked s))
turn_none s = asked_none (is_in_hand s.step) s (turn_asked s) (turn_from s.is_broken s refl)
