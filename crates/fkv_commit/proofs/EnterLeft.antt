-- The step to wait-pending asks just where asks are left to it, and each reply leaves fewer.
use Rattle.std.proofs.Common.{◌≡◌, ℕ, ◌+◌, ◌*◌, ◌<◌, ◌≤◌, refl, arith}
use Rattle.fkv_base.specs.Limits.{drain_slots}
use Rattle.fkv_base.specs.declared.numbers.Version.{Version}
use Rattle.fkv_base.specs.declared.phases.Phase.TheVariants.{WaitPending}
use Rattle.fkv_plane.specs.declared.asks.Ask.{Ask}
use Rattle.fkv_plane.specs.declared.asks.Ask.TheVariants.{Done}
use Rattle.fkv_epoch.specs.Raising.{raise_asks_left}
use Rattle.fkv_commit.specs.declared.deferring.Deferred.TheVariants.{EntersPhase}
use Rattle.fkv_commit.specs.declared.deferring.DeferAnswer.{DeferAnswer}
use Rattle.fkv_commit.specs.declared.deferring.DeferAnswer.TheVariants.{Held, Spent, Armed}
use Rattle.fkv_commit.specs.declared.entering.Entering.{Entering}
use Rattle.fkv_commit.specs.declared.entering.Entering.TheVariants.{Ended, Seeks, Defers}
use Rattle.fkv_commit.specs.declared.entering.EnterAnswer.TheVariants.{Idle}
use Rattle.fkv_commit.specs.Commits.{version_after}
use Rattle.fkv_commit.specs.Deferring.{defer_ask, defer_next}
use Rattle.fkv_commit.specs.Entering.{EnterState, enter_begun, entering_ask, enter_ask, entering_next, enter_next, seek_led, defer_led}
use Rattle.fkv_plane.specs.AsksLeft.{AsksWhereLeft, sum_left}
use Rattle.fkv_commit.specs.AsksLeft.{deferring_asks_left, defer_asks_left, defer_asks_later, most_raise_asks, entering_asks_left, enter_asks_left}
use Rattle.fkv_plane.proofs.Shown.{never, none, some_inside, sum_most, sum_whole, passed_left, passed_alone}
use Rattle.fkv_commit.proofs.Left.{defer_left, defer_fewer, defer_on_left, defer_held}

entering_left : (s : EnterState) (step : Entering) → AsksWhereLeft (entering_asks_left s step) (entering_ask s step)
unfolding entering_asks_left entering_ask
entering_left s (Ended its) = (never, none)
entering_left s Seeks = passed_left (defer_asks_left s.defer) most_raise_asks (defer_ask s.defer) Idle (defer_left s.defer)
entering_left s Defers = passed_alone (defer_asks_left s.defer) (defer_ask s.defer) Idle (defer_left s.defer)

pub enter_left : (s : EnterState) → AsksWhereLeft (enter_asks_left s) (enter_ask s)
enter_left s = entering_left s s.step

pub enter_begun_left : (s : EnterState) (number : Version) → enter_asks_left (enter_begun s number) ≤ 2 * drain_slots + 4
unfolding entering_asks_left deferring_asks_left raise_asks_left sum_left
enter_begun_left s number = omega arith

seek_left : (s : EnterState) (old : ℕ) (ask : Ask DeferAnswer) → s.step ≡ Seeks → 0 < old → defer_asks_left s.defer < old → (ask ≡ Done Held → defer_asks_later s.defer ≤ most_raise_asks)
    → enter_asks_left (seek_led s ask) < sum_left old most_raise_asks
unfolding seek_led entering_asks_left
seek_left s old (Done Held) at some fewer held =
    let whole = sum_whole old most_raise_asks some in
    let on = defer_on_left s.defer (EntersPhase WaitPending (version_after s.number)) in
    let later = held refl in
    omega (arith, whole, on, some, later)
seek_left s old (Done Spent) at some fewer held = let whole = sum_whole old most_raise_asks some in omega (arith, whole, some)
seek_left s old (Done its) at some fewer held = let whole = sum_whole old most_raise_asks some in omega (arith, whole, some)
seek_left s old ask at some fewer held =
    let whole = sum_whole old most_raise_asks some in
    let most = sum_most (defer_asks_left s.defer) most_raise_asks in
    rw at (omega (arith, whole, most, fewer))

ends_left : (s : EnterState) (ask : Ask DeferAnswer) → s.step ≡ Defers → enter_asks_left (defer_led s ask) ≤ defer_asks_left s.defer
unfolding defer_led entering_asks_left
ends_left s (Done (Armed epoch)) at = omega arith
ends_left s (Done its) at = omega arith
ends_left s ask at = rw at (omega arith)

entering_fewer : (s : EnterState) (step : Entering) (reply : ℕ) → s.step ≡ step → 0 < entering_asks_left s step → enter_asks_left (entering_next s step reply) < entering_asks_left s step
unfolding entering_asks_left entering_next
entering_fewer s (Ended its) reply at some = none some
entering_fewer s Seeks reply at some =
    let inside = some_inside (defer_asks_left s.defer) most_raise_asks some in
    seek_left (record s { defer = defer_next s.defer reply }) (defer_asks_left s.defer) (defer_ask (defer_next s.defer reply)) at inside (defer_fewer s.defer reply inside) (λ e. defer_held s.defer reply inside e)
entering_fewer s Defers reply at some =
    let fewer = defer_fewer s.defer reply some in
    let ends = ends_left (record s { defer = defer_next s.defer reply }) (defer_ask (defer_next s.defer reply)) at in
    omega (arith, fewer, ends)

pub enter_fewer : (s : EnterState) (reply : ℕ) → 0 < enter_asks_left s → enter_asks_left (enter_next s reply) < enter_asks_left s
enter_fewer s reply some = entering_fewer s s.step reply refl some
