-- The search for points asks just where asks are left to it, and each reply leaves fewer.
use Rattle.std.proofs.Common.{◌≡◌, ℕ, ◌+◌, ◌-◌, ◌*◌, ◌<◌, ◌≤◌, refl, arith, Bool, true, false, length}
use Rattle.std.specs.Prelude.{List, [], ◌==◌, ◌∷◌, ◌++◌, not, nat_lt, max, if◌then◌else◌}
use Rattle.std.proofs.lemmas.Bool.Decides.{nat_tests}
use Rattle.std.proofs.lemmas.List.{length-append}
use Rattle.fkv_base.specs.Limits.{drain_slots}
use Rattle.fkv_base.specs.declared.numbers.Addr.{Addr}
use Rattle.fkv_base.specs.declared.numbers.Serial.{Serial}
use Rattle.fkv_base.specs.declared.numbers.Version.{Version}
use Rattle.fkv_plane.specs.declared.asks.Ask.{Ask}
use Rattle.fkv_plane.specs.declared.asks.Ask.TheVariants.{Done}
use Rattle.fkv_epoch.specs.Raising.{raise_asks_left}
use Rattle.fkv_commit.specs.declared.deferring.Deferred.TheVariants.{ShowsReadOnly}
use Rattle.fkv_commit.specs.declared.deferring.DeferAnswer.{DeferAnswer}
use Rattle.fkv_commit.specs.declared.deferring.DeferAnswer.TheVariants.{Held, Spent, Armed}
use Rattle.fkv_commit.specs.declared.seeking.Seeking.{Seeking}
use Rattle.fkv_commit.specs.declared.seeking.Seeking.TheVariants.{Ended, LoadsOwing, SeeksSlot, LoadsCut, LoadsOther, LoadsAgain, StoresWaitFlush, LoadsTail, RaisesReadOnly, Defers}
use Rattle.fkv_commit.specs.declared.seeking.SeekAnswer.TheVariants.{Idle, Owing}
use Rattle.fkv_commit.specs.Cuts.{serial_said, is_cut_of}
use Rattle.fkv_commit.specs.Deferring.{defer_begun, defer_ask, defer_next}
use Rattle.fkv_commit.specs.Seeking.{SeekState, seek_begun, owing_from, seeking_ask, seek_ask, seeking_next, seek_next, points_from, point_taken, floor_of, with_point, slot_led, defer_led}
use Rattle.fkv_plane.specs.AsksLeft.{AsksWhereLeft, sum_left}
use Rattle.fkv_commit.specs.AsksLeft.{deferring_asks_left, defer_asks_left, defer_asks_later, most_slot_asks, most_raise_asks, points_left, seeking_asks_left, seek_asks_left}
use Rattle.fkv_plane.proofs.Shown.{never, none, some_inside, sum_most, sum_whole, passed_left, passed_alone}
use Rattle.fkv_commit.proofs.Left.{defer_left, defer_fewer, defer_on_left, defer_held}

seeking_left : (s : SeekState) (step : Seeking) → AsksWhereLeft (seeking_asks_left s step) (seeking_ask s step)
unfolding seeking_asks_left seeking_ask
seeking_left s (Ended its) = (never, none)
seeking_left s SeeksSlot = passed_left (defer_asks_left s.defer) (points_left s 0 + most_raise_asks) (defer_ask s.defer) Idle (defer_left s.defer)
seeking_left s (Defers end) = passed_alone (defer_asks_left s.defer) (defer_ask s.defer) Idle (defer_left s.defer)
seeking_left s (LoadsOwing session) = (λ asks. omega arith, λ some. refl)
seeking_left s LoadsCut = (λ asks. omega arith, λ some. refl)
seeking_left s (LoadsOther first) = (λ asks. omega arith, λ some. refl)
seeking_left s LoadsAgain = (λ asks. omega arith, λ some. refl)
seeking_left s StoresWaitFlush = (λ asks. omega arith, λ some. refl)
seeking_left s LoadsTail = (λ asks. omega arith, λ some. refl)
seeking_left s (RaisesReadOnly end) = (λ asks. omega arith, λ some. refl)

pub seek_left : (s : SeekState) → AsksWhereLeft (seek_asks_left s) (seek_ask s)
seek_left s = seeking_left s s.step

-- from a session's owing word on
owing_left : (s : SeekState) (session : ℕ) → seek_asks_left (owing_from s session) ≤ (s.sessions - session) + most_slot_asks + points_left s 0 + most_raise_asks
unfolding seeking_asks_left deferring_asks_left raise_asks_left sum_left
owing_left s session = tested (nat_lt session s.sessions) refl
  where
    tested : (b : Bool) → nat_lt session s.sessions ≡ b
        → seek_asks_left (if b then record s { step = LoadsOwing session } else record s { defer = defer_begun s.defer; step = SeeksSlot }) ≤ (s.sessions - session) + most_slot_asks + points_left s 0 + most_raise_asks
    tested true e = let h : session < s.sessions = grind (arith, nat_tests, e) in omega (arith, h)
    tested false e = omega arith

pub seek_begun_left : (s : SeekState) (number : Version) (floor : List Serial) → seek_asks_left (seek_begun s number floor) ≤ 4 * s.sessions + 2 * drain_slots + 7
seek_begun_left s number floor = let all = owing_left (record s { number = number; floor = floor; points = [] }) 0 in omega (arith, all)

-- from the session on that has no point yet
from_left : (s : SeekState) → seek_asks_left (points_from s) ≤ points_left s (length s.points) + defer_asks_later s.defer
unfolding seeking_asks_left
from_left s = tested (nat_lt (length s.points) s.sessions) refl
  where
    tested : (b : Bool) → nat_lt (length s.points) s.sessions ≡ b
        → seek_asks_left (if b then record s { step = LoadsCut } else record s { step = StoresWaitFlush }) ≤ points_left s (length s.points) + defer_asks_later s.defer
    tested true e = let h : length s.points < s.sessions = grind (arith, nat_tests, e) in omega (arith, h)
    tested false e = omega arith

taken_left : (s : SeekState) (serial : ℕ) → seek_asks_left (point_taken s serial) ≤ points_left s (length s.points + 1) + defer_asks_later s.defer
taken_left s serial =
    let least = max (floor_of s.floor (length s.points)) serial in
    let more : length (s.points ++ record { 0 = least } ∷ []) ≡ length s.points + 1 = length-append s.points (record { 0 = least } ∷ []) in
    let all = from_left (with_point s serial) in
    omega (arith, more, all)

slot_left : (s : SeekState) (old : ℕ) (ask : Ask DeferAnswer) → s.step ≡ SeeksSlot → 0 < old → defer_asks_left s.defer < old → (ask ≡ Done Held → defer_asks_later s.defer ≤ most_raise_asks)
    → seek_asks_left (slot_led s ask) < sum_left old (points_left s 0 + most_raise_asks)
unfolding slot_led seeking_asks_left
slot_left s old (Done Held) at some fewer held =
    let whole = sum_whole old (points_left s 0 + most_raise_asks) some in
    let all = from_left s in
    let later = held refl in
    omega (arith, whole, all, some, later)
slot_left s old (Done Spent) at some fewer held = let whole = sum_whole old (points_left s 0 + most_raise_asks) some in omega (arith, whole, some)
slot_left s old (Done its) at some fewer held = let whole = sum_whole old (points_left s 0 + most_raise_asks) some in omega (arith, whole, some)
slot_left s old ask at some fewer held =
    let whole = sum_whole old (points_left s 0 + most_raise_asks) some in
    let most = sum_most (defer_asks_left s.defer) (points_left s 0 + most_raise_asks) in
    rw at (omega (arith, whole, most, fewer))

ends_left : (s : SeekState) (end : Addr) (ask : Ask DeferAnswer) → s.step ≡ Defers end → seek_asks_left (defer_led end s ask) ≤ defer_asks_left s.defer
unfolding defer_led seeking_asks_left
ends_left s end (Done (Armed epoch)) at = omega arith
ends_left s end (Done its) at = omega arith
ends_left s end ask at = rw at (omega arith)

seeking_fewer : (s : SeekState) (step : Seeking) (reply : ℕ) → s.step ≡ step → 0 < seeking_asks_left s step → seek_asks_left (seeking_next s step reply) < seeking_asks_left s step
unfolding seeking_asks_left seeking_next
seeking_fewer s (Ended its) reply at some = none some
seeking_fewer s (LoadsOwing session) reply at some = tested (reply == 0)
  where
    tested : (b : Bool) → seek_asks_left (if b then owing_from s (session + 1) else record s { step = Ended Owing }) < (s.sessions - (session + 1)) + most_slot_asks + points_left s 0 + most_raise_asks + 1
    tested true = let all = owing_left s (session + 1) in omega (arith, all)
    tested false = omega arith
seeking_fewer s SeeksSlot reply at some =
    let inside = some_inside (defer_asks_left s.defer) (points_left s 0 + most_raise_asks) some in
    slot_left (record s { defer = defer_next s.defer reply }) (defer_asks_left s.defer) (defer_ask (defer_next s.defer reply)) at inside (defer_fewer s.defer reply inside) (λ e. defer_held s.defer reply inside e)
seeking_fewer s LoadsCut reply at some = tested (is_cut_of s.number.0 reply)
  where
    tested : (b : Bool) → seek_asks_left (if b then point_taken s (serial_said reply) else record s { step = LoadsOther reply }) < points_left s (length s.points + 1) + defer_asks_later s.defer + 3
    tested true = let all = taken_left s (serial_said reply) in omega (arith, all)
    tested false = omega arith
seeking_fewer s (LoadsOther first) reply at some = tested (not (is_cut_of (s.number.0 + 1) reply))
  where
    tested : (b : Bool) → seek_asks_left (if b then point_taken s (max (serial_said first) (serial_said reply)) else record s { step = LoadsAgain }) < points_left s (length s.points + 1) + defer_asks_later s.defer + 2
    tested true = let all = taken_left s (max (serial_said first) (serial_said reply)) in omega (arith, all)
    tested false = omega arith
seeking_fewer s LoadsAgain reply at some = let all = taken_left s (serial_said reply) in omega (arith, all)
seeking_fewer s StoresWaitFlush reply at some = omega arith
seeking_fewer s LoadsTail reply at some = omega arith
seeking_fewer s (RaisesReadOnly end) reply at some = let on = defer_on_left s.defer (ShowsReadOnly end) in omega (arith, on)
seeking_fewer s (Defers end) reply at some =
    let fewer = defer_fewer s.defer reply some in
    let ends = ends_left (record s { defer = defer_next s.defer reply }) end (defer_ask (defer_next s.defer reply)) at in
    omega (arith, fewer, ends)

pub seek_fewer : (s : SeekState) (reply : ℕ) → 0 < seek_asks_left s → seek_asks_left (seek_next s reply) < seek_asks_left s
seek_fewer s reply some = seeking_fewer s s.step reply refl some
