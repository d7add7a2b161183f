-- The machines of a commit spare each part.
use Rattle.std.proofs.Common.{◌≡◌, ◌≢◌, ℕ, ◌+◌, ◌<◌, refl, sym, subst, arith, List, [], length, Bool, true, false}
use Rattle.std.specs.Prelude.{not, if◌then◌else◌, ◌==◌, nat_lt, nat_le, max, ⊤}
use Rattle.std.proofs.lemmas.Bool.Decides.{nat_tests}
use Rattle.fkv_base.specs.Limits.{last_of}
use Rattle.fkv_base.specs.declared.faults.Fault.TheVariants as fault
use Rattle.fkv_base.specs.declared.numbers.Addr.{Addr}
use Rattle.fkv_base.specs.declared.numbers.Serial.{Serial}
use Rattle.fkv_base.specs.declared.numbers.Version.{Version}
use Rattle.fkv_base.specs.declared.phases.Phase.TheVariants as phase
use Rattle.fkv_words.specs.declared.phase_words.PhaseSaid.{PhaseSaid}
use Rattle.fkv_words.specs.declared.phase_words.PhaseSaid.TheVariants.{Says, Spoiled}
use Rattle.fkv_words.specs.PhaseWords.{phase_said}
use Rattle.fkv_plane.specs.declared.asks.Ask.{Ask}
use Rattle.fkv_plane.specs.declared.asks.Ask.TheVariants.{Done}
use Rattle.fkv_plane.specs.declared.places.Places.{Places}
use Rattle.fkv_plane.specs.declared.places.SharedWord.TheVariants as one
use Rattle.fkv_base.specs.declared.commits.CommitKind.{CommitKind}
use Rattle.law_world.specs.Below.fkv_commit.Deferred.TheVariants.{EntersPhase, ShowsReadOnly}
use Rattle.law_world.specs.Below.fkv_commit.DeferAnswer.{DeferAnswer}
use Rattle.law_world.specs.Below.fkv_commit.DeferAnswer.TheVariants.{Held, Spent, Armed}
use Rattle.law_world.specs.Below.fkv_commit.TheEntering.{Entering}
use Rattle.law_world.specs.Below.fkv_commit.TheEntering.TheVariants as entering
use Rattle.law_world.specs.Below.fkv_commit.TheFinishing.{Finishing}
use Rattle.law_world.specs.Below.fkv_commit.TheFinishing.TheVariants as finishing
use Rattle.law_world.specs.Below.fkv_commit.TheSeeking.{Seeking}
use Rattle.law_world.specs.Below.fkv_commit.TheSeeking.TheVariants as seeking
use Rattle.law_world.specs.Below.fkv_commit.TheStarting.{Starting}
use Rattle.law_world.specs.Below.fkv_commit.TheStarting.TheVariants as starting
use Rattle.law_world.specs.Below.fkv_commit.TheWaiting.{Waiting}
use Rattle.law_world.specs.Below.fkv_commit.TheWaiting.TheVariants as waiting
use Rattle.law_world.specs.Below.fkv_commit.Commits.{version_after}
use Rattle.law_world.specs.Below.fkv_commit.Cuts.{serial_said, is_cut_of}
use Rattle.law_world.specs.Below.fkv_commit.Deferring.{defer_begun, defer_next}
use Rattle.law_world.specs.Below.fkv_commit.Entering as enters
use Rattle.law_world.specs.Below.fkv_commit.Entering.{EnterState, entering_ask, enter_ask, enter_begun, entering_next, enter_next}
use Rattle.law_world.specs.Below.fkv_commit.Finishing.{FinishState, durable_from, finish_begun, finishing_ask, finish_ask, finishing_next, finish_next}
use Rattle.law_world.specs.Below.fkv_commit.Seeking as seeks
use Rattle.law_world.specs.Below.fkv_commit.Seeking.{SeekState, owing_from, seek_begun, seeking_ask, seek_ask, points_from, point_taken, with_point, slot_led, cut_met, other_met, seeking_next, seek_next}
use Rattle.law_world.specs.Below.fkv_keeper.Keeping.{KeeperState, asked_for}
use Rattle.law_world.specs.Below.fkv_commit.Starting as starts
use Rattle.law_world.specs.Below.fkv_commit.Starting.{StartState, start_begun, is_lost_full, starting_ask, start_ask, refused, phase_found, starting_next, start_next}
use Rattle.law_world.specs.Below.fkv_commit.Waiting.{WaitState, waiting_ask, wait_ask}
use Rattle.law_refine.specs.Footprint.{Part, ThePhase, TheDurable, HasSeats, Spares}
use Rattle.law_refine.proofs.Footprint.Latching.{passed_spares}
use Rattle.law_refine.proofs.Footprint.Outside.{shared_outside, phase_outside, durable_outside, seat_of}
use Rattle.law_refine.proofs.Footprint.Epochs.{stores_not}
use Rattle.law_refine.proofs.Footprint.Deferred.{IsDeferSparing, defer_spares, defer_next_spares, defer_on_spares, defer_begun_spares}

-- how a commit starts
abbrev pub StartBounds : StartState → Starting → Type 0
StartBounds s (starting.Ended its) = ⊤
StartBounds s starting.LoadsPhase = ⊤
StartBounds s step = IsDeferSparing s.defer

abbrev pub IsStartSparing : StartState → Type 0
IsStartSparing s = StartBounds s s.step

-- it is about to store prepare
abbrev pub start_stores : Starting → Bool
start_stores (starting.StoresPrepare number) = true
start_stores step = false

starting_spares : (part : Part) (p : Places) (s : StartState) (step : Starting) → (part ≡ ThePhase → start_stores step ≡ false) → StartBounds s step → Spares part p (starting_ask s step)
unfolding starting_ask
starting_spares part p s (starting.Seeks number) apart bounds = passed_spares part p _ _ (defer_spares part p s.defer bounds)
starting_spares part p s (starting.StoresPrepare number) apart bounds = phase_outside part p (stores_not part apart)
starting_spares part p s (starting.Defers number first) apart bounds = passed_spares part p _ _ (defer_spares part p s.defer bounds)
starting_spares part p s step apart bounds = tt

pub start_spares : (part : Part) (p : Places) (s : StartState) → (part ≡ ThePhase → start_stores s.step ≡ false) → IsStartSparing s → Spares part p (start_ask s)
start_spares part p s apart bounds = starting_spares part p s s.step apart bounds

start_stays : (s : StartState) (step : Starting) → s.step ≡ step → StartBounds s step → IsStartSparing s
start_stays s step at bounds = subst (λ x. StartBounds s x) (sym at) bounds

start_either : (c : Bool) (a b : StartState) → IsStartSparing a → IsStartSparing b → IsStartSparing (if c then a else b)
start_either true a b one other = one
start_either false a b one other = other

found_spares : (s : StartState) (said : PhaseSaid) → IsStartSparing (phase_found s said)
found_spares s (Says phase.Rest number) =
    start_either (nat_le (last_of s.asked.class) number.0) (refused s fault.VersionsSpent) _ tt
    (start_either (is_lost_full s.asked number.0) (refused s fault.LostFull) (record s { defer = defer_begun s.defer; step = starting.Seeks number }) tt (defer_begun_spares s.defer))
found_spares s (Says phase.Prepare number) = tt
found_spares s (Says phase.InProgress number) = tt
found_spares s (Says phase.WaitPending number) = tt
found_spares s (Says phase.WaitFlush number) = tt
found_spares s Spoiled = tt

start_sought : (number : Version) (s : StartState) (ask : Ask DeferAnswer) → s.step ≡ starting.Seeks number → IsDeferSparing s.defer → IsStartSparing (starts.seek_led number s ask)
unfolding starts.seek_led
start_sought number s (Done Held) at bounds = bounds
start_sought number s (Done Spent) at bounds = tt
start_sought number s (Done its) at bounds = tt
start_sought number s ask at bounds = start_stays s (starting.Seeks number) at bounds

start_deferred : (number : Version) (first : Addr) (s : StartState) (ask : Ask DeferAnswer) → s.step ≡ starting.Defers number first → IsDeferSparing s.defer → IsStartSparing (starts.defer_led number first s ask)
unfolding starts.defer_led
start_deferred number first s (Done (Armed epoch)) at bounds = tt
start_deferred number first s (Done its) at bounds = tt
start_deferred number first s ask at bounds = start_stays s (starting.Defers number first) at bounds

start_led : (s : StartState) (step : Starting) (reply : ℕ) → s.step ≡ step → StartBounds s step → IsStartSparing (starting_next s step reply)
unfolding starting_next
start_led s (starting.Ended its) reply at bounds = start_stays s (starting.Ended its) at bounds
start_led s starting.LoadsPhase reply at bounds = found_spares s (phase_said reply)
start_led s (starting.Seeks number) reply at bounds = start_sought number (record s { defer = defer_next s.defer reply }) _ at (defer_next_spares s.defer reply bounds)
start_led s (starting.StoresPrepare number) reply at bounds = bounds
start_led s (starting.LoadsTail number) reply at bounds = defer_on_spares s.defer (EntersPhase phase.InProgress (version_after number)) bounds
start_led s (starting.Defers number first) reply at bounds = start_deferred number first (record s { defer = defer_next s.defer reply }) _ at (defer_next_spares s.defer reply bounds)

pub start_next_spares : (s : StartState) (reply : ℕ) → IsStartSparing s → IsStartSparing (start_next s reply)
start_next_spares s reply bounds = start_led s s.step reply refl bounds

pub start_begun_spares : (s : KeeperState) (kind : CommitKind) → IsStartSparing (start_begun s.start (asked_for s kind))
start_begun_spares s kind = tt

-- how it goes on to wait-pending
abbrev pub EnterBounds : EnterState → Entering → Type 0
EnterBounds s (entering.Ended its) = ⊤
EnterBounds s step = IsDeferSparing s.defer

abbrev pub IsEnterSparing : EnterState → Type 0
IsEnterSparing s = EnterBounds s s.step

entering_spares : (part : Part) (p : Places) (s : EnterState) (step : Entering) → EnterBounds s step → Spares part p (entering_ask s step)
unfolding entering_ask
entering_spares part p s (entering.Ended its) bounds = tt
entering_spares part p s entering.Seeks bounds = passed_spares part p _ _ (defer_spares part p s.defer bounds)
entering_spares part p s entering.Defers bounds = passed_spares part p _ _ (defer_spares part p s.defer bounds)

pub enter_spares : (part : Part) (p : Places) (s : EnterState) → IsEnterSparing s → Spares part p (enter_ask s)
enter_spares part p s bounds = entering_spares part p s s.step bounds

enter_stays : (s : EnterState) (step : Entering) → s.step ≡ step → EnterBounds s step → IsEnterSparing s
enter_stays s step at bounds = subst (λ x. EnterBounds s x) (sym at) bounds

enter_sought : (s : EnterState) (ask : Ask DeferAnswer) → s.step ≡ entering.Seeks → IsDeferSparing s.defer → IsEnterSparing (enters.seek_led s ask)
unfolding enters.seek_led
enter_sought s (Done Held) at bounds = defer_on_spares s.defer (EntersPhase phase.WaitPending (version_after s.number)) bounds
enter_sought s (Done Spent) at bounds = tt
enter_sought s (Done its) at bounds = tt
enter_sought s ask at bounds = enter_stays s entering.Seeks at bounds

enter_deferred : (s : EnterState) (ask : Ask DeferAnswer) → s.step ≡ entering.Defers → IsDeferSparing s.defer → IsEnterSparing (enters.defer_led s ask)
unfolding enters.defer_led
enter_deferred s (Done (Armed epoch)) at bounds = tt
enter_deferred s (Done its) at bounds = tt
enter_deferred s ask at bounds = enter_stays s entering.Defers at bounds

enter_led : (s : EnterState) (step : Entering) (reply : ℕ) → s.step ≡ step → EnterBounds s step → IsEnterSparing (entering_next s step reply)
unfolding entering_next
enter_led s (entering.Ended its) reply at bounds = enter_stays s (entering.Ended its) at bounds
enter_led s entering.Seeks reply at bounds = enter_sought (record s { defer = defer_next s.defer reply }) _ at (defer_next_spares s.defer reply bounds)
enter_led s entering.Defers reply at bounds = enter_deferred (record s { defer = defer_next s.defer reply }) _ at (defer_next_spares s.defer reply bounds)

pub enter_next_spares : (s : EnterState) (reply : ℕ) → IsEnterSparing s → IsEnterSparing (enter_next s reply)
enter_next_spares s reply bounds = enter_led s s.step reply refl bounds

pub enter_begun_spares : (s : EnterState) (number : Version) → IsEnterSparing (enter_begun s number)
enter_begun_spares s number = defer_begun_spares s.defer

-- how it finds the points
abbrev pub SeekBounds : SeekState → Seeking → Type 0
SeekBounds s (seeking.Ended its) = ⊤
SeekBounds s (seeking.LoadsOwing session) = ⊤
SeekBounds s step = IsDeferSparing s.defer

abbrev pub IsSeekSparing : SeekState → Type 0
IsSeekSparing s = SeekBounds s s.step

-- it is about to store wait-flush
abbrev pub seek_stores : Seeking → Bool
seek_stores seeking.StoresWaitFlush = true
seek_stores step = false

seeking_spares : (part : Part) (p : Places) (s : SeekState) (step : Seeking) → (part ≡ ThePhase → seek_stores step ≡ false) → SeekBounds s step → Spares part p (seeking_ask s step)
unfolding seeking_ask
seeking_spares part p s seeking.SeeksSlot apart bounds = passed_spares part p _ _ (defer_spares part p s.defer bounds)
seeking_spares part p s seeking.StoresWaitFlush apart bounds = phase_outside part p (stores_not part apart)
seeking_spares part p s (seeking.RaisesReadOnly end) apart bounds = shared_outside part p one.ReadOnly (λ e. cc) (λ e. cc)
seeking_spares part p s (seeking.Defers end) apart bounds = passed_spares part p _ _ (defer_spares part p s.defer bounds)
seeking_spares part p s step apart bounds = tt

pub seek_spares : (part : Part) (p : Places) (s : SeekState) → (part ≡ ThePhase → seek_stores s.step ≡ false) → IsSeekSparing s → Spares part p (seek_ask s)
seek_spares part p s apart bounds = seeking_spares part p s s.step apart bounds

seek_stays : (s : SeekState) (step : Seeking) → s.step ≡ step → SeekBounds s step → IsSeekSparing s
seek_stays s step at bounds = subst (λ x. SeekBounds s x) (sym at) bounds

seek_either : (c : Bool) (a b : SeekState) → IsSeekSparing a → IsSeekSparing b → IsSeekSparing (if c then a else b)
seek_either true a b one other = one
seek_either false a b one other = other

owing_spares : (s : SeekState) (session : ℕ) → IsSeekSparing (owing_from s session)
owing_spares s session = seek_either (nat_lt session s.sessions) (record s { step = seeking.LoadsOwing session }) (record s { defer = defer_begun s.defer; step = seeking.SeeksSlot }) tt (defer_begun_spares s.defer)

points_spares : (s : SeekState) → IsDeferSparing s.defer → IsSeekSparing (points_from s)
points_spares s bounds = seek_either (nat_lt (length s.points) s.sessions) (record s { step = seeking.LoadsCut }) (record s { step = seeking.StoresWaitFlush }) bounds bounds

taken_spares : (s : SeekState) (serial : ℕ) → IsDeferSparing s.defer → IsSeekSparing (point_taken s serial)
taken_spares s serial bounds = points_spares (with_point s serial) bounds

seek_sought : (s : SeekState) (ask : Ask DeferAnswer) → s.step ≡ seeking.SeeksSlot → IsDeferSparing s.defer → IsSeekSparing (slot_led s ask)
unfolding slot_led
seek_sought s (Done Held) at bounds = points_spares s bounds
seek_sought s (Done Spent) at bounds = tt
seek_sought s (Done its) at bounds = tt
seek_sought s ask at bounds = seek_stays s seeking.SeeksSlot at bounds

cut_spares : (s : SeekState) (word : ℕ) → IsDeferSparing s.defer → IsSeekSparing (cut_met s word)
cut_spares s word bounds = seek_either (is_cut_of s.number.0 word) (point_taken s (serial_said word)) (record s { step = seeking.LoadsOther word }) (taken_spares s (serial_said word) bounds) bounds

other_spares : (s : SeekState) (first word : ℕ) → IsDeferSparing s.defer → IsSeekSparing (other_met s first word)
other_spares s first word bounds =
    seek_either (not (is_cut_of (s.number.0 + 1) word)) (point_taken s (max (serial_said first) (serial_said word))) (record s { step = seeking.LoadsAgain }) (taken_spares s (max (serial_said first) (serial_said word)) bounds) bounds

seek_deferred : (end : Addr) (s : SeekState) (ask : Ask DeferAnswer) → s.step ≡ seeking.Defers end → IsDeferSparing s.defer → IsSeekSparing (seeks.defer_led end s ask)
unfolding seeks.defer_led
seek_deferred end s (Done (Armed epoch)) at bounds = tt
seek_deferred end s (Done its) at bounds = tt
seek_deferred end s ask at bounds = seek_stays s (seeking.Defers end) at bounds

owing_met : (s : SeekState) (session reply : ℕ) → IsSeekSparing (seeking_next s (seeking.LoadsOwing session) reply)
unfolding seeking_next
owing_met s session reply = seek_either (reply == 0) (owing_from s (session + 1)) _ (owing_spares s (session + 1)) tt

seek_led : (s : SeekState) (step : Seeking) (reply : ℕ) → s.step ≡ step → SeekBounds s step → IsSeekSparing (seeking_next s step reply)
unfolding seeking_next
seek_led s (seeking.Ended its) reply at bounds = seek_stays s (seeking.Ended its) at bounds
seek_led s (seeking.LoadsOwing session) reply at bounds = owing_met s session reply
seek_led s seeking.SeeksSlot reply at bounds = seek_sought (record s { defer = defer_next s.defer reply }) _ at (defer_next_spares s.defer reply bounds)
seek_led s seeking.LoadsCut reply at bounds = cut_spares s reply bounds
seek_led s (seeking.LoadsOther first) reply at bounds = other_spares s first reply bounds
seek_led s seeking.LoadsAgain reply at bounds = taken_spares s (serial_said reply) bounds
seek_led s seeking.StoresWaitFlush reply at bounds = bounds
seek_led s seeking.LoadsTail reply at bounds = bounds
seek_led s (seeking.RaisesReadOnly end) reply at bounds = defer_on_spares s.defer (ShowsReadOnly end) bounds
seek_led s (seeking.Defers end) reply at bounds = seek_deferred end (record s { defer = defer_next s.defer reply }) _ at (defer_next_spares s.defer reply bounds)

pub seek_next_spares : (s : SeekState) (reply : ℕ) → IsSeekSparing s → IsSeekSparing (seek_next s reply)
seek_next_spares s reply bounds = seek_led s s.step reply refl bounds

pub seek_begun_spares : (s : SeekState) (number : Version) (floor : List Serial) → IsSeekSparing (seek_begun s number floor)
seek_begun_spares s number floor = owing_spares (record s { number = number; floor = floor; points = [] }) 0

-- how it waits
waiting_spares : (part : Part) (p : Places) (step : Waiting) → Spares part p (waiting_ask step)
unfolding waiting_ask
waiting_spares part p (waiting.Ended its) = tt
waiting_spares part p waiting.LoadsSafe = tt
waiting_spares part p waiting.LoadsFlushed = tt

pub wait_spares : (part : Part) (p : Places) (s : WaitState) → Spares part p (wait_ask s)
wait_spares part p s = waiting_spares part p s.step

-- how it finishes: the durable words are those of so many sessions
abbrev pub FinishBounds : ℕ → Finishing → Type 0
FinishBounds n (finishing.Ended its) = ⊤
FinishBounds n (finishing.StoresDurable session) = session < n
FinishBounds n finishing.StoresRest = ⊤

-- the part is a durable word that isn't stored
abbrev pub IsStoredNot : Part → Finishing → Type 0
IsStoredNot part step = (session : ℕ) → part ≡ TheDurable session → step ≢ finishing.StoresDurable session

-- it is about to store rest
abbrev pub finish_stores : Finishing → Bool
finish_stores finishing.StoresRest = true
finish_stores step = false

finishing_spares : (part : Part) (p : Places) (n : ℕ) (points : List Serial) (s : FinishState) (step : Finishing) → (part ≡ ThePhase → finish_stores step ≡ false) → HasSeats part p n → FinishBounds n step → IsStoredNot part step → Spares part p (finishing_ask points s step)
unfolding finishing_ask
finishing_spares part p n points s (finishing.Ended its) apart few low none = tt
finishing_spares part p n points s (finishing.StoresDurable session) apart few low none = durable_outside part p session (seat_of part p n session few low) (λ same. none session same refl)
finishing_spares part p n points s finishing.StoresRest apart few low none = phase_outside part p (stores_not part apart)

pub finish_spares : (part : Part) (p : Places) (points : List Serial) (s : FinishState) → (part ≡ ThePhase → finish_stores s.step ≡ false) → HasSeats part p s.sessions → FinishBounds s.sessions s.step → IsStoredNot part s.step → Spares part p (finish_ask points s)
finish_spares part p points s apart few low none = finishing_spares part p s.sessions points s s.step apart few low none

durable_spares : (n session : ℕ) → FinishBounds n (durable_from n session)
unfolding durable_from
durable_spares n session = by_test (nat_lt session n) refl
  where
    by_test : (b : Bool) → nat_lt session n ≡ b → FinishBounds n (if b then finishing.StoresDurable session else finishing.StoresRest)
    by_test true e = grind (arith, nat_tests, e)
    by_test false e = tt

finish_led : (s : FinishState) (step : Finishing) → FinishBounds s.sessions (finishing_next s step)
unfolding finishing_next
finish_led s (finishing.Ended its) = tt
finish_led s (finishing.StoresDurable session) = durable_spares s.sessions (session + 1)
finish_led s finishing.StoresRest = tt

pub finish_next_spares : (s : FinishState) (reply : ℕ) → FinishBounds s.sessions (finish_next s reply).step
finish_next_spares s reply = finish_led s s.step

pub finish_begun_spares : (s : FinishState) (number : Version) → FinishBounds s.sessions (finish_begun s number).step
finish_begun_spares s number = durable_spares s.sessions 0
