-- How many asks and calls of the device a call of the keeper has as it begins.
use Rattle.std.proofs.Common.{◌≡◌, ℕ, ◌+◌, ◌≤◌, refl, arith, Bool, true, false}
use Rattle.std.specs.Prelude.{if◌then◌else◌}
use Rattle.fkv_base.specs.declared.shapes.Shape.{Shape}
use Rattle.fkv_plane.specs.declared.places.Places.{Places}
use Rattle.fkv_plane.specs.AsksLeft.{sum_left}
use Rattle.fkv_base.specs.declared.commits.CommitKind.{CommitKind}
use Rattle.fkv_commit.specs.AsksLeft.{starting_asks_left}
use Rattle.fkv_maintain.specs.AsksLeft.{maintain_asks_left, most_maintain_asks}
use Rattle.fkv_keeper.specs.KeeperAsks.{most_behind_phase, most_begin_asks, most_turn_asks, keeping_asks_left, keeper_asks_left}
use Rattle.fkv_keeper.specs.Keeping.{KeeperState, commit_asked, parts_begun, turn_asked, serves_alone}
use Rattle.fkv_maintain.specs.Maintaining.{MaintainState, maintain_begun}
use Rattle.fkv_plane.proofs.Shown.{sum_most}
use Rattle.fkv_maintain.proofs.Shown.{maintain_begun_left, maintain_serving_left}

either : (shape : Shape) (p : Places) (b : Bool) (x y : KeeperState) (n : ℕ) → keeper_asks_left shape p x ≤ n → keeper_asks_left shape p y ≤ n → keeper_asks_left shape p (if b then x else y) ≤ n
either shape p true x y n first second = first
either shape p false x y n first second = second

pub begin_bounded : (shape : Shape) (p : Places) (s : KeeperState) (kind : CommitKind) → keeper_asks_left shape p (commit_asked s kind) ≤ most_begin_asks
unfolding keeping_asks_left starting_asks_left
begin_bounded shape p s kind = either shape p s.is_broken _ _ _ (omega arith) (either shape p s.rests _ _ _ (omega arith) (omega arith))

parts_begun_left : (shape : Shape) (rests : Bool) (m : MaintainState) → maintain_asks_left shape (parts_begun rests m) ≤ most_maintain_asks shape
parts_begun_left shape true m = maintain_serving_left shape m
parts_begun_left shape false m = maintain_begun_left shape (maintain_begun m) refl refl

below : (x a most behind : ℕ) → x ≤ a + behind → a ≤ most → x ≤ most + behind
below x a most behind sum begun = omega arith

turn_left : (shape : Shape) (p swept : Places) (m : MaintainState) (seeks finishes : ℕ) → maintain_asks_left shape m ≤ most_maintain_asks shape → seeks ≡ shape.sessions → finishes ≡ shape.sessions → swept ≡ p
    → sum_left (maintain_asks_left shape m) (most_behind_phase swept seeks finishes + 1) ≤ most_turn_asks shape p
turn_left shape p swept m seeks finishes begun same also store = rw (same, also, store)
    (below (sum_left (maintain_asks_left shape m) (most_behind_phase p shape.sessions shape.sessions + 1)) (maintain_asks_left shape m) (most_maintain_asks shape) (most_behind_phase p shape.sessions shape.sessions + 1)
    (sum_most (maintain_asks_left shape m) (most_behind_phase p shape.sessions shape.sessions + 1)) begun)

pub turn_bounded : (shape : Shape) (p : Places) (s : KeeperState) → s.seek.sessions ≡ shape.sessions → s.finish.sessions ≡ shape.sessions → s.sweep.places ≡ p → keeper_asks_left shape p (turn_asked s) ≤ most_turn_asks shape p
unfolding keeping_asks_left
turn_bounded shape p s seeks finishes sweeps =
    let begun = parts_begun_left shape (serves_alone s) s.maintain in
    either shape p s.is_broken _ _ _ (omega arith) (turn_left shape p s.sweep.places (parts_begun (serves_alone s) s.maintain) s.seek.sessions s.finish.sessions begun seeks finishes sweeps)
