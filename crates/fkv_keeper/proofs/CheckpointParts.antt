-- The drain slots of the parts of a commit are among the eight, whatever the replies.
use Rattle.std.proofs.Common.{◌≡◌, ℕ, ◌+◌, List, [], sym, subst, Bool, true, false}
use Rattle.std.specs.Prelude.{not, ⊤, nat_lt, nat_le, ◌==◌, if◌then◌else◌, length, max}
use Rattle.fkv_base.specs.declared.numbers.Addr.{Addr}
use Rattle.fkv_base.specs.declared.numbers.Serial.{Serial}
use Rattle.fkv_base.specs.declared.numbers.Version.{Version}
use Rattle.fkv_base.specs.declared.phases.Phase.TheVariants as phase
use Rattle.fkv_words.specs.declared.phase_words.PhaseSaid.{PhaseSaid}
use Rattle.fkv_words.specs.declared.phase_words.PhaseSaid.TheVariants.{Says}
use Rattle.fkv_words.specs.PhaseWords.{phase_said}
use Rattle.fkv_plane.specs.declared.asks.Ask.{Ask}
use Rattle.fkv_plane.specs.declared.asks.Ask.TheVariants.{Done}
use Rattle.fkv_commit.specs.declared.deferring.DeferAnswer.{DeferAnswer}
use Rattle.fkv_commit.specs.declared.deferring.DeferAnswer.TheVariants as deferred
use Rattle.fkv_commit.specs.declared.entering.Entering.{Entering}
use Rattle.fkv_commit.specs.declared.entering.Entering.TheVariants as enters
use Rattle.fkv_commit.specs.declared.seeking.Seeking.{Seeking}
use Rattle.fkv_commit.specs.declared.seeking.Seeking.TheVariants as seeks
use Rattle.fkv_commit.specs.declared.starting.Starting.{Starting}
use Rattle.fkv_commit.specs.declared.starting.Starting.TheVariants as starts
use Rattle.fkv_commit.specs.Cuts.{is_cut_of, serial_said}
use Rattle.fkv_commit.specs.Deferring.{defer_ask, defer_next}
use Rattle.fkv_commit.specs.Entering.{EnterState, entering_next, seek_led as enter_sought, defer_led as enter_deferred}
use Rattle.fkv_commit.specs.Seeking.{SeekState, seeking_next, seek_begun, owing_from, points_from, point_taken, with_point, slot_led, defer_led as seek_deferred}
use Rattle.fkv_base.specs.Limits.{last_of}
use Rattle.fkv_commit.specs.Starting.{StartState, starting_next, phase_found, is_lost_full, seek_led as start_sought, defer_led as start_deferred}
use Rattle.fkv_keeper.proofs.CheckpointRanges.{IsDeferredIn, defer_in, defer_on_in}

-- the start of a commit
abbrev pub IsStartAt : Starting → StartState → Type 0
IsStartAt (starts.Ended its) s = ⊤
IsStartAt starts.LoadsPhase s = ⊤
IsStartAt step s = IsDeferredIn s.defer

abbrev pub IsStartIn : StartState → Type 0
IsStartIn s = IsStartAt s.step s

either_start : (b : Bool) (x y : StartState) → IsStartIn x → IsStartIn y → IsStartIn (if b then x else y)
either_start true x y one other = one
either_start false x y one other = other

found_in : (s : StartState) (said : PhaseSaid) → IsStartIn (phase_found s said)
found_in s (Says phase.Rest number) = either_start (nat_le (last_of s.asked.class) number.0) _ _ tt (either_start (is_lost_full s.asked number.0) _ _ tt tt)
found_in s said = tt

start_at : (step : Starting) (s : StartState) → s.step ≡ step → IsStartAt step s → IsStartIn s
start_at step s e fits = subst (λ (x : Starting). IsStartAt x s) (sym e) fits

start_sought_in : (number : Version) (s : StartState) (ask : Ask DeferAnswer) → s.step ≡ starts.Seeks number → IsDeferredIn s.defer → IsStartIn (start_sought number s ask)
unfolding start_sought
start_sought_in number s (Done deferred.Held) e fits = fits
start_sought_in number s (Done deferred.Spent) e fits = tt
start_sought_in number s (Done its) e fits = tt
start_sought_in number s ask e fits = start_at (starts.Seeks number) s e fits

start_deferred_in : (number : Version) (first : Addr) (s : StartState) (ask : Ask DeferAnswer) → s.step ≡ starts.Defers number first → IsDeferredIn s.defer → IsStartIn (start_deferred number first s ask)
unfolding start_deferred
start_deferred_in number first s (Done (deferred.Armed epoch)) e fits = tt
start_deferred_in number first s (Done its) e fits = tt
start_deferred_in number first s ask e fits = start_at (starts.Defers number first) s e fits

pub start_in : (s : StartState) (step : Starting) (reply : ℕ) → s.step ≡ step → IsStartAt step s → IsStartIn (starting_next s step reply)
unfolding starting_next
start_in s (starts.Ended its) reply e fits = start_at (starts.Ended its) s e tt
start_in s starts.LoadsPhase reply e fits = found_in s (phase_said reply)
start_in s (starts.Seeks number) reply e fits = start_sought_in number (record s { defer = defer_next s.defer reply }) (defer_ask (defer_next s.defer reply)) e (defer_in s.defer reply fits)
start_in s (starts.StoresPrepare number) reply e fits = fits
start_in s (starts.LoadsTail number) reply e fits = defer_on_in s.defer _ fits
start_in s (starts.Defers number first) reply e fits = start_deferred_in number first (record s { defer = defer_next s.defer reply }) (defer_ask (defer_next s.defer reply)) e (defer_in s.defer reply fits)

-- wait-pending
abbrev pub IsEnterAt : Entering → EnterState → Type 0
IsEnterAt (enters.Ended its) s = ⊤
IsEnterAt step s = IsDeferredIn s.defer

abbrev pub IsEnterIn : EnterState → Type 0
IsEnterIn s = IsEnterAt s.step s

enter_at : (step : Entering) (s : EnterState) → s.step ≡ step → IsEnterAt step s → IsEnterIn s
enter_at step s e fits = subst (λ (x : Entering). IsEnterAt x s) (sym e) fits

enter_sought_in : (s : EnterState) (ask : Ask DeferAnswer) → s.step ≡ enters.Seeks → IsDeferredIn s.defer → IsEnterIn (enter_sought s ask)
unfolding enter_sought
enter_sought_in s (Done deferred.Held) e fits = defer_on_in s.defer _ fits
enter_sought_in s (Done deferred.Spent) e fits = tt
enter_sought_in s (Done its) e fits = tt
enter_sought_in s ask e fits = enter_at enters.Seeks s e fits

enter_deferred_in : (s : EnterState) (ask : Ask DeferAnswer) → s.step ≡ enters.Defers → IsDeferredIn s.defer → IsEnterIn (enter_deferred s ask)
unfolding enter_deferred
enter_deferred_in s (Done (deferred.Armed epoch)) e fits = tt
enter_deferred_in s (Done its) e fits = tt
enter_deferred_in s ask e fits = enter_at enters.Defers s e fits

pub enter_in : (s : EnterState) (step : Entering) (reply : ℕ) → s.step ≡ step → IsEnterAt step s → IsEnterIn (entering_next s step reply)
unfolding entering_next
enter_in s (enters.Ended its) reply e fits = enter_at (enters.Ended its) s e tt
enter_in s enters.Seeks reply e fits = enter_sought_in (record s { defer = defer_next s.defer reply }) (defer_ask (defer_next s.defer reply)) e (defer_in s.defer reply fits)
enter_in s enters.Defers reply e fits = enter_deferred_in (record s { defer = defer_next s.defer reply }) (defer_ask (defer_next s.defer reply)) e (defer_in s.defer reply fits)

-- the points
abbrev pub IsSeekAt : Seeking → SeekState → Type 0
IsSeekAt (seeks.Ended its) s = ⊤
IsSeekAt (seeks.LoadsOwing session) s = ⊤
IsSeekAt step s = IsDeferredIn s.defer

abbrev pub IsSeekIn : SeekState → Type 0
IsSeekIn s = IsSeekAt s.step s

seek_at : (step : Seeking) (s : SeekState) → s.step ≡ step → IsSeekAt step s → IsSeekIn s
seek_at step s e fits = subst (λ (x : Seeking). IsSeekAt x s) (sym e) fits

either_seek : (b : Bool) (x y : SeekState) → IsSeekIn x → IsSeekIn y → IsSeekIn (if b then x else y)
either_seek true x y one other = one
either_seek false x y one other = other

owing_in : (s : SeekState) (session : ℕ) → IsSeekIn (owing_from s session)
owing_in s session = either_seek (nat_lt session s.sessions) _ _ tt tt

points_in : (s : SeekState) → IsDeferredIn s.defer → IsSeekIn (points_from s)
points_in s fits = either_seek (nat_lt (length s.points) s.sessions) _ _ fits fits

taken_in : (s : SeekState) (serial : ℕ) → IsDeferredIn s.defer → IsSeekIn (point_taken s serial)
taken_in s serial fits = points_in (with_point s serial) fits

pub seek_begun_in : (s : SeekState) (number : Version) (floor : List Serial) → IsSeekIn (seek_begun s number floor)
seek_begun_in s number floor = owing_in (record s { number = number; floor = floor; points = [] }) 0

slot_in : (s : SeekState) (ask : Ask DeferAnswer) → s.step ≡ seeks.SeeksSlot → IsDeferredIn s.defer → IsSeekIn (slot_led s ask)
unfolding slot_led
slot_in s (Done deferred.Held) e fits = points_in s fits
slot_in s (Done deferred.Spent) e fits = tt
slot_in s (Done its) e fits = tt
slot_in s ask e fits = seek_at seeks.SeeksSlot s e fits

seek_deferred_in : (end : Addr) (s : SeekState) (ask : Ask DeferAnswer) → s.step ≡ seeks.Defers end → IsDeferredIn s.defer → IsSeekIn (seek_deferred end s ask)
unfolding seek_deferred
seek_deferred_in end s (Done (deferred.Armed epoch)) e fits = tt
seek_deferred_in end s (Done its) e fits = tt
seek_deferred_in end s ask e fits = seek_at (seeks.Defers end) s e fits

pub seek_in : (s : SeekState) (step : Seeking) (reply : ℕ) → s.step ≡ step → IsSeekAt step s → IsSeekIn (seeking_next s step reply)
unfolding seeking_next
seek_in s (seeks.Ended its) reply e fits = seek_at (seeks.Ended its) s e tt
seek_in s (seeks.LoadsOwing session) reply e fits = either_seek (reply == 0) _ _ (owing_in s (session + 1)) tt
seek_in s seeks.SeeksSlot reply e fits = slot_in (record s { defer = defer_next s.defer reply }) (defer_ask (defer_next s.defer reply)) e (defer_in s.defer reply fits)
seek_in s seeks.LoadsCut reply e fits = either_seek (is_cut_of s.number.0 reply) _ _ (taken_in s (serial_said reply) fits) fits
seek_in s (seeks.LoadsOther first) reply e fits = either_seek (not (is_cut_of (s.number.0 + 1) reply)) _ _ (taken_in s (max (serial_said first) (serial_said reply)) fits) fits
seek_in s seeks.LoadsAgain reply e fits = taken_in s (serial_said reply) fits
seek_in s seeks.StoresWaitFlush reply e fits = fits
seek_in s seeks.LoadsTail reply e fits = fits
seek_in s (seeks.RaisesReadOnly end) reply e fits = defer_on_in s.defer _ fits
seek_in s (seeks.Defers end) reply e fits = seek_deferred_in end (record s { defer = defer_next s.defer reply }) (defer_ask (defer_next s.defer reply)) e (defer_in s.defer reply fits)
