-- What the parts of a commit have met of the drain slots, as each seeks one.
use Rattle.std.proofs.Common.{◌≡◌, ℕ, ◌+◌, refl, sym, subst, List, Bool, true, false}
use Rattle.std.specs.Prelude.{not, ⊤, [], ◌==◌, nat_lt, nat_le, max, if◌then◌else◌, length}
use Rattle.fkv_base.specs.Limits.{drain_slots, last_of}
use Rattle.fkv_base.specs.declared.faults.Fault.{Fault}
use Rattle.fkv_base.specs.declared.faults.Fault.TheVariants as fault
use Rattle.fkv_base.specs.declared.numbers.Addr.{Addr}
use Rattle.fkv_base.specs.declared.numbers.Serial.{Serial}
use Rattle.fkv_base.specs.declared.numbers.Version.{Version}
use Rattle.fkv_base.specs.declared.phases.Phase.TheVariants as phase
use Rattle.fkv_words.specs.declared.phase_words.PhaseSaid.{PhaseSaid}
use Rattle.fkv_words.specs.declared.phase_words.PhaseSaid.TheVariants.{Says}
use Rattle.fkv_words.specs.PhaseWords.{phase_said}
use Rattle.fkv_plane.specs.declared.asks.Ask.{Ask}
use Rattle.fkv_plane.specs.declared.asks.Ask.TheVariants.{Done}
use Rattle.fkv_plane.specs.Passing.{is_done}
use Rattle.fkv_commit.specs.declared.deferring.DeferAnswer.{DeferAnswer}
use Rattle.fkv_commit.specs.declared.deferring.DeferAnswer.TheVariants.{Armed}
use Rattle.fkv_commit.specs.declared.entering.Entering.{Entering}
use Rattle.fkv_commit.specs.declared.entering.Entering.TheVariants as enters
use Rattle.fkv_commit.specs.declared.entering.EnterAnswer.TheVariants as enter
use Rattle.fkv_commit.specs.declared.seeking.Seeking.{Seeking}
use Rattle.fkv_commit.specs.declared.seeking.Seeking.TheVariants as seeks
use Rattle.fkv_commit.specs.declared.seeking.SeekAnswer.TheVariants as seek
use Rattle.fkv_commit.specs.declared.starting.Starting.{Starting}
use Rattle.fkv_commit.specs.declared.starting.Starting.TheVariants as starts
use Rattle.fkv_commit.specs.declared.starting.StartAnswer.TheVariants as start
use Rattle.fkv_commit.specs.Cuts.{serial_said, is_cut_of}
use Rattle.fkv_commit.specs.Deferring.{defer_begun, defer_ask, defer_next}
use Rattle.fkv_commit.specs.Entering.{EnterState, enter_begun, seek_led as enter_led, defer_led as enter_deferred, entering_ask, enter_ask, entering_next, enter_next}
use Rattle.fkv_commit.specs.Seeking.{SeekState, seek_begun, owing_from, points_from, point_taken, with_point, slot_led, defer_led as seek_deferred, seeking_ask, seek_ask, seeking_next, seek_next}
use Rattle.fkv_commit.specs.Starting.{StartState, is_lost_full, phase_found, seek_led as start_led, defer_led as start_deferred, starting_ask, start_ask, starting_next, start_next}
use Rattle.fkv_commit.specs.Exchanges.{Exchange, exchanged}
use Rattle.fkv_keeper.specs.DrainLaws.{WereSought}
use Rattle.fkv_keeper.proofs.DrainSought.{passed_told, passed_alone, IsDeferSought, DeferOutcome, SeeksOn, HasHeld, HasNone, IsSpent, defer_step, defer_begins}

-- the step to wait-pending
abbrev pub EnterKnows : EnterState → Entering → List Exchange → Type 0
EnterKnows s (enters.Ended enter.DrainFull) told = WereSought drain_slots told
EnterKnows s (enters.Ended its) told = ⊤
EnterKnows s enters.Seeks told = IsDeferSought s.defer told
EnterKnows s enters.Defers told = ⊤

enter_on : (s : EnterState) (ask : Ask DeferAnswer) → is_done ask ≡ false → enter_led s ask ≡ s
unfolding enter_led
enter_on s (Done its) e = cc
enter_on s ask e = refl

enter_sought : (s : EnterState) (told : List Exchange) → s.step ≡ enters.Seeks → DeferOutcome s.defer told → EnterKnows (enter_led s (defer_ask s.defer)) (enter_led s (defer_ask s.defer)).step told
unfolding enter_led
enter_sought s told e (SeeksOn on its) = rw (enter_on s (defer_ask s.defer) on, e) its
enter_sought s told e (HasHeld asks) = rw asks tt
enter_sought s told e (HasNone asks its) = rw asks its
enter_sought s told e (IsSpent asks) = rw asks tt

enter_defers : (s : EnterState) (ask : Ask DeferAnswer) (told : List Exchange) → s.step ≡ enters.Defers → EnterKnows (enter_deferred s ask) (enter_deferred s ask).step told
unfolding enter_deferred
enter_defers s (Done (Armed epoch)) told e = tt
enter_defers s (Done its) told e = tt
enter_defers s ask told e = subst (λ (x : Entering). EnterKnows s x told) (sym e) tt

enter_at : (s : EnterState) (step : Entering) (told : List Exchange) (reply : ℕ) → s.step ≡ step → EnterKnows s step told
    → EnterKnows (entering_next s step reply) (entering_next s step reply).step (exchanged (entering_ask s step) reply told)
unfolding entering_next entering_ask exchanged
enter_at s (enters.Ended its) told reply e knows = subst (λ (x : Entering). EnterKnows s x told) (sym e) knows
enter_at s enters.Seeks told reply e knows = rw (passed_told (defer_ask s.defer) enter.Idle reply told)
    (enter_sought (record s { defer = defer_next s.defer reply }) (exchanged (defer_ask s.defer) reply told) e (defer_step s.defer told reply knows))
enter_at s enters.Defers told reply e knows = enter_defers (record s { defer = defer_next s.defer reply }) (defer_ask (defer_next s.defer reply)) _ e

pub enter_step : (s : EnterState) (told : List Exchange) (reply : ℕ) → EnterKnows s s.step told → EnterKnows (enter_next s reply) (enter_next s reply).step (exchanged (enter_ask s) reply told)
enter_step s told reply knows = enter_at s s.step told reply refl knows

pub enter_begins : (s : EnterState) (number : Version) (told : List Exchange) → EnterKnows (enter_begun s number) (enter_begun s number).step told
enter_begins s number told = defer_begins s.defer told

pub enter_none : (s : EnterState) (step : Entering) (told : List Exchange) → entering_ask s step ≡ Done enter.DrainFull → EnterKnows s step told → WereSought drain_slots told
unfolding entering_ask
enter_none s (enters.Ended enter.DrainFull) told asks knows = knows
enter_none s (enters.Ended enter.Idle) told asks knows = cc
enter_none s (enters.Ended enter.Entered) told asks knows = cc
enter_none s (enters.Ended enter.EpochsSpent) told asks knows = cc
enter_none s enters.Seeks told asks knows = let clash : enter.Idle ≡ enter.DrainFull = passed_alone (defer_ask s.defer) enter.Idle enter.DrainFull asks in cc
enter_none s enters.Defers told asks knows = let clash : enter.Idle ≡ enter.DrainFull = passed_alone (defer_ask s.defer) enter.Idle enter.DrainFull asks in cc

-- the search for the points
abbrev pub SeekKnows : SeekState → Seeking → List Exchange → Type 0
SeekKnows s (seeks.Ended seek.DrainFull) told = WereSought drain_slots told
SeekKnows s seeks.SeeksSlot told = IsDeferSought s.defer told
SeekKnows s step told = ⊤

either_seek : (b : Bool) (x y : SeekState) (told : List Exchange) → SeekKnows x x.step told → SeekKnows y y.step told → SeekKnows (if b then x else y) (if b then x else y).step told
either_seek true x y told one other = one
either_seek false x y told one other = other

owing_knows : (s : SeekState) (session : ℕ) (told : List Exchange) → SeekKnows (owing_from s session) (owing_from s session).step told
owing_knows s session told = either_seek (nat_lt session s.sessions) (record s { step = seeks.LoadsOwing session }) (record s { defer = defer_begun s.defer; step = seeks.SeeksSlot }) told tt (defer_begins s.defer told)

points_knows : (s : SeekState) (told : List Exchange) → SeekKnows (points_from s) (points_from s).step told
points_knows s told = either_seek (nat_lt (length s.points) s.sessions) (record s { step = seeks.LoadsCut }) (record s { step = seeks.StoresWaitFlush }) told tt tt

taken_knows : (s : SeekState) (serial : ℕ) (told : List Exchange) → SeekKnows (point_taken s serial) (point_taken s serial).step told
taken_knows s serial told = points_knows (with_point s serial) told

slot_on : (s : SeekState) (ask : Ask DeferAnswer) → is_done ask ≡ false → slot_led s ask ≡ s
unfolding slot_led
slot_on s (Done its) e = cc
slot_on s ask e = refl

slot_sought : (s : SeekState) (told : List Exchange) → s.step ≡ seeks.SeeksSlot → DeferOutcome s.defer told → SeekKnows (slot_led s (defer_ask s.defer)) (slot_led s (defer_ask s.defer)).step told
unfolding slot_led
slot_sought s told e (SeeksOn on its) = rw (slot_on s (defer_ask s.defer) on, e) its
slot_sought s told e (HasHeld asks) = rw asks (points_knows s told)
slot_sought s told e (HasNone asks its) = rw asks its
slot_sought s told e (IsSpent asks) = rw asks tt

seek_defers : (end : Addr) (s : SeekState) (ask : Ask DeferAnswer) (told : List Exchange) → s.step ≡ seeks.Defers end → SeekKnows (seek_deferred end s ask) (seek_deferred end s ask).step told
unfolding seek_deferred
seek_defers end s (Done (Armed epoch)) told e = tt
seek_defers end s (Done its) told e = tt
seek_defers end s ask told e = subst (λ (x : Seeking). SeekKnows s x told) (sym e) tt

seek_at : (s : SeekState) (step : Seeking) (told : List Exchange) (reply : ℕ) → s.step ≡ step → SeekKnows s step told
    → SeekKnows (seeking_next s step reply) (seeking_next s step reply).step (exchanged (seeking_ask s step) reply told)
unfolding seeking_next seeking_ask exchanged
seek_at s (seeks.Ended its) told reply e knows = subst (λ (x : Seeking). SeekKnows s x told) (sym e) knows
seek_at s (seeks.LoadsOwing session) told reply e knows = either_seek (reply == 0) (owing_from s (session + 1)) (record s { step = seeks.Ended seek.Owing }) _ (owing_knows s (session + 1) _) tt
seek_at s seeks.SeeksSlot told reply e knows = rw (passed_told (defer_ask s.defer) seek.Idle reply told)
    (slot_sought (record s { defer = defer_next s.defer reply }) (exchanged (defer_ask s.defer) reply told) e (defer_step s.defer told reply knows))
seek_at s seeks.LoadsCut told reply e knows =
    either_seek (is_cut_of s.number.0 reply) (point_taken s (serial_said reply)) (record s { step = seeks.LoadsOther reply }) _ (taken_knows s (serial_said reply) _) tt
seek_at s (seeks.LoadsOther first) told reply e knows =
    either_seek (not (is_cut_of (s.number.0 + 1) reply)) (point_taken s (max (serial_said first) (serial_said reply))) (record s { step = seeks.LoadsAgain }) _ (taken_knows s (max (serial_said first) (serial_said reply)) _) tt
seek_at s seeks.LoadsAgain told reply e knows = taken_knows s (serial_said reply) _
seek_at s seeks.StoresWaitFlush told reply e knows = tt
seek_at s seeks.LoadsTail told reply e knows = tt
seek_at s (seeks.RaisesReadOnly end) told reply e knows = tt
seek_at s (seeks.Defers end) told reply e knows = seek_defers end (record s { defer = defer_next s.defer reply }) (defer_ask (defer_next s.defer reply)) _ e

pub seek_step : (s : SeekState) (told : List Exchange) (reply : ℕ) → SeekKnows s s.step told → SeekKnows (seek_next s reply) (seek_next s reply).step (exchanged (seek_ask s) reply told)
seek_step s told reply knows = seek_at s s.step told reply refl knows

pub seek_begins : (s : SeekState) (number : Version) (floor : List Serial) (told : List Exchange) → SeekKnows (seek_begun s number floor) (seek_begun s number floor).step told
seek_begins s number floor told = owing_knows (record s { number = number; floor = floor; points = [] }) 0 told

pub seek_none : (s : SeekState) (step : Seeking) (told : List Exchange) → seeking_ask s step ≡ Done seek.DrainFull → SeekKnows s step told → WereSought drain_slots told
unfolding seeking_ask
seek_none s (seeks.Ended seek.DrainFull) told asks knows = knows
seek_none s (seeks.Ended (seek.Taken end epoch)) told asks knows = cc
seek_none s (seeks.Ended seek.Idle) told asks knows = cc
seek_none s (seeks.Ended seek.Owing) told asks knows = cc
seek_none s (seeks.Ended seek.EpochsSpent) told asks knows = cc
seek_none s (seeks.LoadsOwing session) told asks knows = cc
seek_none s seeks.SeeksSlot told asks knows = let clash : seek.Idle ≡ seek.DrainFull = passed_alone (defer_ask s.defer) seek.Idle seek.DrainFull asks in cc
seek_none s seeks.LoadsCut told asks knows = cc
seek_none s (seeks.LoadsOther first) told asks knows = cc
seek_none s seeks.LoadsAgain told asks knows = cc
seek_none s seeks.StoresWaitFlush told asks knows = cc
seek_none s seeks.LoadsTail told asks knows = cc
seek_none s (seeks.RaisesReadOnly end) told asks knows = cc
seek_none s (seeks.Defers end) told asks knows = let clash : seek.Idle ≡ seek.DrainFull = passed_alone (defer_ask s.defer) seek.Idle seek.DrainFull asks in cc

-- a start
abbrev pub StartKnows : StartState → Starting → List Exchange → Type 0
StartKnows s (starts.Ended (start.Refused fault.DrainFull)) told = WereSought drain_slots told
StartKnows s (starts.Seeks number) told = IsDeferSought s.defer told
StartKnows s step told = ⊤

either_start : (b : Bool) (x y : StartState) (told : List Exchange) → StartKnows x x.step told → StartKnows y y.step told → StartKnows (if b then x else y) (if b then x else y).step told
either_start true x y told one other = one
either_start false x y told one other = other

found_knows : (s : StartState) (said : PhaseSaid) (told : List Exchange) → StartKnows (phase_found s said) (phase_found s said).step told
found_knows s (Says phase.Rest number) told =
    either_start (nat_le (last_of s.asked.class) number.0) _ _ told tt (either_start (is_lost_full s.asked number.0) _ (record s { defer = defer_begun s.defer; step = starts.Seeks number }) told tt (defer_begins s.defer told))
found_knows s said told = tt

start_on : (number : Version) (s : StartState) (ask : Ask DeferAnswer) → is_done ask ≡ false → start_led number s ask ≡ s
unfolding start_led
start_on number s (Done its) e = cc
start_on number s ask e = refl

start_sought : (number : Version) (s : StartState) (told : List Exchange) → s.step ≡ starts.Seeks number → DeferOutcome s.defer told → StartKnows (start_led number s (defer_ask s.defer)) (start_led number s (defer_ask s.defer)).step told
unfolding start_led
start_sought number s told e (SeeksOn on its) = rw (start_on number s (defer_ask s.defer) on, e) its
start_sought number s told e (HasHeld asks) = rw asks tt
start_sought number s told e (HasNone asks its) = rw asks its
start_sought number s told e (IsSpent asks) = rw asks tt

start_defers : (number : Version) (first : Addr) (s : StartState) (ask : Ask DeferAnswer) (told : List Exchange) → s.step ≡ starts.Defers number first → StartKnows (start_deferred number first s ask) (start_deferred number first s ask).step told
unfolding start_deferred
start_defers number first s (Done (Armed epoch)) told e = tt
start_defers number first s (Done its) told e = tt
start_defers number first s ask told e = subst (λ (x : Starting). StartKnows s x told) (sym e) tt

start_at : (s : StartState) (step : Starting) (told : List Exchange) (reply : ℕ) → s.step ≡ step → StartKnows s step told
    → StartKnows (starting_next s step reply) (starting_next s step reply).step (exchanged (starting_ask s step) reply told)
unfolding starting_next starting_ask exchanged
start_at s (starts.Ended its) told reply e knows = subst (λ (x : Starting). StartKnows s x told) (sym e) knows
start_at s starts.LoadsPhase told reply e knows = found_knows s (phase_said reply) _
start_at s (starts.Seeks number) told reply e knows = rw (passed_told (defer_ask s.defer) start.Idle reply told)
    (start_sought number (record s { defer = defer_next s.defer reply }) (exchanged (defer_ask s.defer) reply told) e (defer_step s.defer told reply knows))
start_at s (starts.StoresPrepare number) told reply e knows = tt
start_at s (starts.LoadsTail number) told reply e knows = tt
start_at s (starts.Defers number first) told reply e knows = start_defers number first (record s { defer = defer_next s.defer reply }) (defer_ask (defer_next s.defer reply)) _ e

pub start_step : (s : StartState) (told : List Exchange) (reply : ℕ) → StartKnows s s.step told → StartKnows (start_next s reply) (start_next s reply).step (exchanged (start_ask s) reply told)
start_step s told reply knows = start_at s s.step told reply refl knows

refused_same : (why other : Fault) → Done (start.Refused why) ≡ Done (start.Refused other) → why ≡ other
refused_same why other e = cc

pub start_none : (s : StartState) (step : Starting) (told : List Exchange) → starting_ask s step ≡ Done (start.Refused fault.DrainFull) → StartKnows s step told → WereSought drain_slots told
unfolding starting_ask
start_none s (starts.Ended (start.Refused why)) told asks knows = subst (λ (x : Fault). StartKnows s (starts.Ended (start.Refused x)) told) (refused_same why fault.DrainFull asks) knows
start_none s (starts.Ended (start.Begun number first)) told asks knows = cc
start_none s (starts.Ended start.Idle) told asks knows = cc
start_none s starts.LoadsPhase told asks knows = cc
start_none s (starts.Seeks number) told asks knows = let clash : start.Idle ≡ start.Refused fault.DrainFull = passed_alone (defer_ask s.defer) start.Idle (start.Refused fault.DrainFull) asks in cc
start_none s (starts.StoresPrepare number) told asks knows = cc
start_none s (starts.LoadsTail number) told asks knows = cc
start_none s (starts.Defers number first) told asks knows = let clash : start.Idle ≡ start.Refused fault.DrainFull = passed_alone (defer_ask s.defer) start.Idle (start.Refused fault.DrainFull) asks in cc
