-- The start of a call and a call of the device change their own machine and nothing else.
use Rattle.std.proofs.Common.{◌≡◌, ℕ, ◌∙◌, refl, Bool, false}
use Rattle.std.specs.Prelude.{Some, slice_get, slice_set}
use Rattle.fkv_map.specs.declared.operations.Call.{Call}
use Rattle.fkv_base.specs.declared.commits.CommitKind.{CommitKind}
use Rattle.fkv_plane.specs.declared.asks.Ask.TheVariants.{Done}
use Rattle.fkv_session.specs.Sessions.{SessionState}
use Rattle.fkv_keeper.specs.declared.answers.KeeperTold.TheVariants.{Device}
use Rattle.fkv_keeper.specs.Keeping.{commit_asked, keeper_ask, keeper_called, turn_asked}
use Rattle.fkv_world.specs.Moves.{keeper_asks}
use Rattle.fkv_world.specs.Runs.{World, happens, read_by_keeper}
use Rattle.fkv_world.specs.World.{Calls, Commits, Turns, KeeperMoves, seat_at, session_called, keeper_asked, life_goes}
use Rattle.fkv_world.proofs.Shown.{lives}

pub call_starts : (w : World) (session : ℕ) (call : Call) (its : SessionState) → w.now.crashed ≡ false → slice_get w.now.sessions session ≡ Some its
    → (happens w (Calls session call)).now ≡ record w.now { sessions = slice_set w.now.sessions session (session_called (seat_at w.now session) its call) }
unfolding life_goes
call_starts w session call its alive found = lives w (Calls session call) alive ∙ rw found refl

pub commit_starts : (w : World) (kind : CommitKind) → w.now.crashed ≡ false → (happens w (Commits kind)).now ≡ record w.now { keeper = keeper_asked w.now.keeper (commit_asked w.now.keeper kind) }
unfolding life_goes
commit_starts w kind alive = lives w (Commits kind) alive

pub turn_starts : (w : World) → w.now.crashed ≡ false → (happens w Turns).now ≡ record w.now { keeper = keeper_asked w.now.keeper (turn_asked w.now.keeper) }
unfolding life_goes
turn_starts w alive = lives w Turns alive

pub device_called : (w : World) (granted done : Bool) → w.now.crashed ≡ false → keeper_ask w.now.shape w.now.places w.now.keeper ≡ Done Device
    → (happens w (KeeperMoves granted done)).now ≡ record w.now { keeper = keeper_called w.now.shape w.now.places w.now.keeper done (read_by_keeper w) }
unfolding life_goes keeper_asks
device_called w granted done alive asks = lives w (KeeperMoves granted done) alive ∙ rw asks refl
