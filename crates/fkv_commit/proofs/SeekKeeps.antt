-- A search for points is of as many sessions as it began with.
use Rattle.std.proofs.Common.{◌≡◌, ℕ, ◌+◌, refl, Bool, true, false, length}
use Rattle.std.specs.Prelude.{List, [], ◌==◌, not, nat_lt, max, if◌then◌else◌}
use Rattle.fkv_base.specs.declared.numbers.Addr.{Addr}
use Rattle.fkv_base.specs.declared.numbers.Serial.{Serial}
use Rattle.fkv_base.specs.declared.numbers.Version.{Version}
use Rattle.fkv_plane.specs.declared.asks.Ask.{Ask}
use Rattle.fkv_plane.specs.declared.asks.Ask.TheVariants.{Load, Store, Swap, Cas, Add, Max, Put, Take, Done}
use Rattle.fkv_commit.specs.declared.deferring.DeferAnswer.{DeferAnswer}
use Rattle.fkv_commit.specs.declared.deferring.DeferAnswer.TheVariants.{Held, NoSlot, Spent, Armed}
use Rattle.fkv_commit.specs.declared.seeking.SeekAnswer.TheVariants.{Owing}
use Rattle.fkv_commit.specs.declared.seeking.Seeking.{Seeking}
use Rattle.fkv_commit.specs.declared.seeking.Seeking.TheVariants.{Ended, LoadsOwing, SeeksSlot, LoadsCut, LoadsOther, LoadsAgain, StoresWaitFlush, LoadsTail, RaisesReadOnly, Defers}
use Rattle.fkv_commit.specs.Cuts.{serial_said, is_cut_of}
use Rattle.fkv_commit.specs.Deferring.{defer_begun, defer_ask, defer_next}
use Rattle.fkv_commit.specs.Seeking.{SeekState, seek_begun, owing_from, points_from, point_taken, with_point, slot_led, defer_led, seeking_next, seek_next}

either : (b : Bool) (x y : SeekState) (n : ℕ) → x.sessions ≡ n → y.sessions ≡ n → (if b then x else y).sessions ≡ n
either true x y n ex ey = ex
either false x y n ex ey = ey

owing_keeps : (s : SeekState) (session : ℕ) → (owing_from s session).sessions ≡ s.sessions
owing_keeps s session = either (nat_lt session s.sessions) (record s { step = LoadsOwing session }) (record s { defer = defer_begun s.defer; step = SeeksSlot }) s.sessions refl refl

from_keeps : (s : SeekState) → (points_from s).sessions ≡ s.sessions
from_keeps s = either (nat_lt (length s.points) s.sessions) (record s { step = LoadsCut }) (record s { step = StoresWaitFlush }) s.sessions refl refl

taken_keeps : (s : SeekState) (serial : ℕ) → (point_taken s serial).sessions ≡ s.sessions
taken_keeps s serial = from_keeps (with_point s serial)

slot_keeps : (s : SeekState) (ask : Ask DeferAnswer) → (slot_led s ask).sessions ≡ s.sessions
unfolding slot_led
slot_keeps s (Done Held) = from_keeps s
slot_keeps s (Done Spent) = refl
slot_keeps s (Done NoSlot) = refl
slot_keeps s (Done (Armed epoch)) = refl
slot_keeps s (Load place) = refl
slot_keeps s (Store place value) = refl
slot_keeps s (Swap place value) = refl
slot_keeps s (Cas place old new) = refl
slot_keeps s (Add place value) = refl
slot_keeps s (Max place value) = refl
slot_keeps s (Put slot action) = refl
slot_keeps s (Take slot) = refl

defer_keeps : (end : Addr) (s : SeekState) (ask : Ask DeferAnswer) → (defer_led end s ask).sessions ≡ s.sessions
unfolding defer_led
defer_keeps end s (Done Held) = refl
defer_keeps end s (Done Spent) = refl
defer_keeps end s (Done NoSlot) = refl
defer_keeps end s (Done (Armed epoch)) = refl
defer_keeps end s (Load place) = refl
defer_keeps end s (Store place value) = refl
defer_keeps end s (Swap place value) = refl
defer_keeps end s (Cas place old new) = refl
defer_keeps end s (Add place value) = refl
defer_keeps end s (Max place value) = refl
defer_keeps end s (Put slot action) = refl
defer_keeps end s (Take slot) = refl

stepped : (s : SeekState) (step : Seeking) (reply : ℕ) → (seeking_next s step reply).sessions ≡ s.sessions
unfolding seeking_next
stepped s (Ended its) reply = refl
stepped s (LoadsOwing session) reply = either (reply == 0) (owing_from s (session + 1)) (record s { step = Ended Owing }) s.sessions (owing_keeps s (session + 1)) refl
stepped s SeeksSlot reply = slot_keeps (record s { defer = defer_next s.defer reply }) (defer_ask (defer_next s.defer reply))
stepped s LoadsCut reply = either (is_cut_of s.number.0 reply) (point_taken s (serial_said reply)) (record s { step = LoadsOther reply }) s.sessions (taken_keeps s (serial_said reply)) refl
stepped s (LoadsOther first) reply =
    either (not (is_cut_of (s.number.0 + 1) reply)) (point_taken s (max (serial_said first) (serial_said reply))) (record s { step = LoadsAgain }) s.sessions (taken_keeps s (max (serial_said first) (serial_said reply))) refl
stepped s LoadsAgain reply = taken_keeps s (serial_said reply)
stepped s StoresWaitFlush reply = refl
stepped s LoadsTail reply = refl
stepped s (RaisesReadOnly end) reply = refl
stepped s (Defers end) reply = defer_keeps end (record s { defer = defer_next s.defer reply }) (defer_ask (defer_next s.defer reply))

pub seek_keeps : (s : SeekState) (reply : ℕ) → (seek_next s reply).sessions ≡ s.sessions
seek_keeps s reply = stepped s s.step reply

pub seek_begun_keeps : (s : SeekState) (number : Version) (floor : List Serial) → (seek_begun s number floor).sessions ≡ s.sessions
seek_begun_keeps s number floor = owing_keeps (record s { number = number; floor = floor; points = [] }) 0
