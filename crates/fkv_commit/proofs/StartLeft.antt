-- The start of a commit asks just where asks are left to it, and each reply leaves fewer.
use Rattle.std.proofs.Common.{◌≡◌, ℕ, ◌+◌, ◌<◌, ◌≤◌, refl, arith, Bool, true, false}
use Rattle.std.specs.Prelude.{nat_le, if◌then◌else◌}
use Rattle.fkv_base.specs.declared.faults.Fault.TheVariants.{VersionsSpent, LostFull}
use Rattle.fkv_base.specs.declared.numbers.Addr.{Addr}
use Rattle.fkv_base.specs.declared.numbers.Version.{Version}
use Rattle.fkv_base.specs.declared.phases.Phase.TheVariants as phase
use Rattle.fkv_words.specs.declared.phase_words.PhaseSaid.{PhaseSaid}
use Rattle.fkv_words.specs.declared.phase_words.PhaseSaid.TheVariants.{Says}
use Rattle.fkv_words.specs.PhaseWords.{phase_said}
use Rattle.fkv_plane.specs.declared.asks.Ask.{Ask}
use Rattle.fkv_plane.specs.declared.asks.Ask.TheVariants.{Done}
use Rattle.fkv_epoch.specs.Raising.{raise_asks_left}
use Rattle.fkv_commit.specs.declared.deferring.Deferred.TheVariants.{EntersPhase}
use Rattle.fkv_commit.specs.declared.deferring.DeferAnswer.{DeferAnswer}
use Rattle.fkv_commit.specs.declared.deferring.DeferAnswer.TheVariants.{Held, Spent, Armed}
use Rattle.fkv_commit.specs.declared.starting.Starting.{Starting}
use Rattle.fkv_commit.specs.declared.starting.Starting.TheVariants.{Ended, LoadsPhase, Seeks, StoresPrepare, LoadsTail, Defers}
use Rattle.fkv_commit.specs.declared.starting.StartAnswer.TheVariants.{Idle}
use Rattle.fkv_commit.specs.Commits.{version_after}
use Rattle.fkv_commit.specs.Deferring.{defer_begun, defer_ask, defer_next}
use Rattle.fkv_base.specs.Limits.{last_of}
use Rattle.fkv_commit.specs.Starting.{StartState, starting_ask, start_ask, starting_next, start_next, phase_found, refused, is_lost_full, seek_led, defer_led}
use Rattle.fkv_plane.specs.AsksLeft.{AsksWhereLeft, sum_left}
use Rattle.fkv_commit.specs.AsksLeft.{deferring_asks_left, defer_asks_left, defer_asks_later, most_slot_asks, most_raise_asks, starting_asks_left, start_asks_left}
use Rattle.fkv_plane.proofs.Shown.{never, none, some_inside, sum_most, sum_whole, passed_left, passed_alone}
use Rattle.fkv_commit.proofs.Left.{defer_left, defer_fewer, defer_on_left, defer_held}

starting_left : (s : StartState) (step : Starting) → AsksWhereLeft (starting_asks_left s step) (starting_ask s step)
unfolding starting_asks_left starting_ask
starting_left s (Ended its) = (never, none)
starting_left s LoadsPhase = (λ asks. omega arith, λ some. refl)
starting_left s (Seeks number) = passed_left (defer_asks_left s.defer) (most_raise_asks + 2) (defer_ask s.defer) Idle (defer_left s.defer)
starting_left s (StoresPrepare number) = (λ asks. omega arith, λ some. refl)
starting_left s (LoadsTail number) = (λ asks. omega arith, λ some. refl)
starting_left s (Defers number first) = passed_alone (defer_asks_left s.defer) (defer_ask s.defer) Idle (defer_left s.defer)

pub start_left : (s : StartState) → AsksWhereLeft (start_asks_left s) (start_ask s)
start_left s = starting_left s s.step

begun_left : (s : StartState) (number : Version) (a b : Bool)
    → start_asks_left (if a then refused s VersionsSpent else if b then refused s LostFull else record s { defer = defer_begun s.defer; step = Seeks number }) ≤ most_slot_asks + most_raise_asks + 2
unfolding starting_asks_left deferring_asks_left raise_asks_left sum_left
begun_left s number true b = omega arith
begun_left s number false true = omega arith
begun_left s number false false = omega arith

phase_left : (s : StartState) (said : PhaseSaid) → start_asks_left (phase_found s said) ≤ most_slot_asks + most_raise_asks + 2
unfolding starting_asks_left
phase_left s (Says phase.Rest number) = begun_left s number (nat_le (last_of s.asked.class) number.0) (is_lost_full s.asked number.0)
phase_left s said = omega arith

seek_left : (s : StartState) (number : Version) (old : ℕ) (ask : Ask DeferAnswer) → s.step ≡ Seeks number → 0 < old → defer_asks_left s.defer < old → (ask ≡ Done Held → defer_asks_later s.defer ≤ most_raise_asks)
    → start_asks_left (seek_led number s ask) < sum_left old (most_raise_asks + 2)
unfolding seek_led starting_asks_left
seek_left s number old (Done Held) at some fewer held =
    let whole = sum_whole old (most_raise_asks + 2) some in
    let later = held refl in
    omega (arith, whole, some, later)
seek_left s number old (Done Spent) at some fewer held = let whole = sum_whole old (most_raise_asks + 2) some in omega (arith, whole, some)
seek_left s number old (Done its) at some fewer held = let whole = sum_whole old (most_raise_asks + 2) some in omega (arith, whole, some)
seek_left s number old ask at some fewer held =
    let whole = sum_whole old (most_raise_asks + 2) some in
    let most = sum_most (defer_asks_left s.defer) (most_raise_asks + 2) in
    rw at (omega (arith, whole, most, fewer))

ends_left : (s : StartState) (number : Version) (first : Addr) (ask : Ask DeferAnswer) → s.step ≡ Defers number first → start_asks_left (defer_led number first s ask) ≤ defer_asks_left s.defer
unfolding defer_led starting_asks_left
ends_left s number first (Done (Armed epoch)) at = omega arith
ends_left s number first (Done its) at = omega arith
ends_left s number first ask at = rw at (omega arith)

starting_fewer : (s : StartState) (step : Starting) (reply : ℕ) → s.step ≡ step → 0 < starting_asks_left s step → start_asks_left (starting_next s step reply) < starting_asks_left s step
unfolding starting_asks_left starting_next
starting_fewer s (Ended its) reply at some = none some
starting_fewer s LoadsPhase reply at some = let found = phase_left s (phase_said reply) in omega (arith, found)
starting_fewer s (Seeks number) reply at some =
    let inside = some_inside (defer_asks_left s.defer) (most_raise_asks + 2) some in
    seek_left (record s { defer = defer_next s.defer reply }) number (defer_asks_left s.defer) (defer_ask (defer_next s.defer reply)) at inside (defer_fewer s.defer reply inside) (λ e. defer_held s.defer reply inside e)
starting_fewer s (StoresPrepare number) reply at some = omega arith
starting_fewer s (LoadsTail number) reply at some = let on = defer_on_left s.defer (EntersPhase phase.InProgress (version_after number)) in omega (arith, on)
starting_fewer s (Defers number first) reply at some =
    let fewer = defer_fewer s.defer reply some in
    let ends = ends_left (record s { defer = defer_next s.defer reply }) number first (defer_ask (defer_next s.defer reply)) at in
    omega (arith, fewer, ends)

pub start_fewer : (s : StartState) (reply : ℕ) → 0 < start_asks_left s → start_asks_left (start_next s reply) < start_asks_left s
start_fewer s reply some = starting_fewer s s.step reply refl some
