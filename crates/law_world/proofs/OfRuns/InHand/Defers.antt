-- Behind an action that it has put a defer goes on: it arms the slot. So do the parts of a commit that defer.
use Rattle.std.proofs.Common.{◌≡◌, ℕ, ◌+◌, ◌∙◌, refl, ap, sym, subst, Bool, true, false, length}
use Rattle.std.specs.Prelude.{not, ⊤, nat_lt, nat_le, ◌==◌, max, if◌then◌else◌}
use Rattle.fkv_base.specs.declared.numbers.Addr.{Addr}
use Rattle.fkv_base.specs.declared.numbers.Version.{Version}
use Rattle.fkv_base.specs.declared.phases.Phase.TheVariants.{Rest}
use Rattle.fkv_words.specs.declared.phase_words.PhaseSaid.{PhaseSaid}
use Rattle.fkv_words.specs.declared.phase_words.PhaseSaid.TheVariants.{Says}
use Rattle.fkv_words.specs.PhaseWords.{phase_said}
use Rattle.fkv_commit.specs.Cuts.{serial_said, is_cut_of}
use Rattle.fkv_plane.specs.declared.asks.Ask.{Ask}
use Rattle.fkv_plane.specs.declared.asks.Ask.TheVariants.{Done}
use Rattle.fkv_plane.specs.Passing.{is_done}
use Rattle.fkv_plane.proofs.Shown.{passed_done}
use Rattle.fkv_epoch.specs.declared.raising.RaiseAnswer.{RaiseAnswer}
use Rattle.fkv_epoch.specs.declared.raising.RaiseAnswer.TheVariants as raised
use Rattle.fkv_epoch.specs.Arming.{arm_ask, arm_next}
use Rattle.fkv_epoch.specs.Raising.{raise_ask, raise_next, raise_next_ask}
use Rattle.fkv_commit.specs.declared.deferring.Deferred.{Deferred}
use Rattle.fkv_commit.specs.declared.deferring.DeferAnswer.{DeferAnswer}
use Rattle.fkv_commit.specs.declared.deferring.DeferAnswer.TheVariants as told
use Rattle.fkv_commit.specs.declared.deferring.Deferring.{Deferring}
use Rattle.fkv_commit.specs.declared.deferring.Deferring.TheVariants as defer
use Rattle.fkv_commit.specs.declared.entering.EnterAnswer.TheVariants as enter_told
use Rattle.fkv_commit.specs.declared.entering.Entering.{Entering}
use Rattle.fkv_commit.specs.declared.entering.Entering.TheVariants as enter
use Rattle.fkv_commit.specs.declared.seeking.SeekAnswer.TheVariants as seek_told
use Rattle.fkv_commit.specs.declared.seeking.Seeking.{Seeking}
use Rattle.fkv_commit.specs.declared.seeking.Seeking.TheVariants as seek
use Rattle.fkv_commit.specs.declared.starting.StartAnswer.TheVariants as start_told
use Rattle.fkv_commit.specs.declared.starting.Starting.{Starting}
use Rattle.fkv_commit.specs.declared.starting.Starting.TheVariants as start
use Rattle.fkv_commit.specs.Deferring.{DeferState, defer_ask, defer_next, deferring_ask, deferring_next, deferring_on, seek_ledto, raise_ledto, arm_ledto}
use Rattle.fkv_commit.specs.Entering as entering
use Rattle.fkv_commit.specs.Entering.{EnterState, enter_ask, enter_next, entering_ask, entering_next}
use Rattle.fkv_commit.specs.Seeking as seeking
use Rattle.fkv_commit.specs.Seeking.{SeekState, owing_from, point_taken, with_point, points_from, seek_ask, seek_next, seeking_ask, seeking_next, slot_led}
use Rattle.fkv_commit.specs.Starting as starting
use Rattle.fkv_base.specs.Limits.{last_of}
use Rattle.fkv_commit.specs.Starting.{StartState, phase_found, start_ask, start_next, starting_ask, starting_next, is_lost_full}
use Rattle.law_world.proofs.OfRuns.InHand.Asks.{AtSlot, at_more, off_at, passed_at, raise_off}
use Rattle.law_world.proofs.OfRuns.InHand.Moved.{arm_off}

-- where a defer puts its action, the slot is armed next
abbrev DeferFits : DeferState → Deferring → Type 0
DeferFits d (defer.Puts its slot epoch) = is_done (arm_ask (arm_next d.arming)) ≡ false
DeferFits d step = ⊤

abbrev pub DeferNow : DeferState → Type 0
DeferNow d = DeferFits d d.step

defer_there : (d : DeferState) (step : Deferring) → d.step ≡ step → DeferFits d step → DeferNow d
defer_there d step at its = subst (λ (x : Deferring). DeferFits d x) (sym at) its

sought : (d : DeferState) (ask : Ask RaiseAnswer) → d.step ≡ defer.Seeks → DeferNow (seek_ledto d ask)
unfolding seek_ledto
sought d (Done (raised.HasSlot slot)) at = tt
sought d (Done raised.Spent) at = tt
sought d (Done raised.NoSlot) at = tt
sought d (Done (raised.Raised slot epoch)) at = tt
sought d ask at = defer_there d defer.Seeks at tt

raises : (its : Deferred) (d : DeferState) (ask : Ask RaiseAnswer) → d.step ≡ defer.Raises its → DeferNow (raise_ledto its d ask)
unfolding raise_ledto arm_ask arm_next
raises its d (Done (raised.Raised slot epoch)) at = refl
raises its d (Done raised.NoSlot) at = tt
raises its d (Done raised.Spent) at = tt
raises its d (Done (raised.HasSlot slot)) at = tt
raises its d ask at = defer_there d (defer.Raises its) at tt

arms : (epoch : ℕ) (d : DeferState) (ask : Ask (Unit {0})) → DeferNow (arm_ledto epoch d ask)
unfolding arm_ledto
arms epoch d (Done its) = tt
arms epoch d ask = tt

deferring_fits : (d : DeferState) (step : Deferring) (reply : ℕ) → d.step ≡ step → DeferNow (deferring_next d step reply)
unfolding deferring_next
deferring_fits d (defer.Ended its) reply at = defer_there d (defer.Ended its) at tt
deferring_fits d defer.Seeks reply at = sought (record d { raising = raise_next d.raising reply }) (raise_next_ask d.raising reply) at
deferring_fits d defer.Holds reply at = defer_there d defer.Holds at tt
deferring_fits d (defer.Raises its) reply at = raises its (record d { raising = raise_next d.raising reply }) (raise_next_ask d.raising reply) at
deferring_fits d (defer.Puts its slot epoch) reply at = arms epoch (record d { arming = arm_next d.arming }) (arm_ask (arm_next d.arming))
deferring_fits d (defer.Arms epoch) reply at = arms epoch (record d { arming = arm_next d.arming }) (arm_ask (arm_next d.arming))

defer_next_fits : (d : DeferState) (reply : ℕ) → DeferNow (defer_next d reply)
defer_next_fits d reply = deferring_fits d d.step reply refl

going_on : (d : DeferState) (step : Deferring) (its : Deferred) → DeferNow d → DeferNow (deferring_on d step its)
unfolding deferring_on
going_on d defer.Holds its now = tt
going_on d step its now = now

-- so it goes on
abbrev DeferStays : DeferState → Type 0
DeferStays d = is_done (defer_ask (defer_next d 0)) ≡ false

armed_stays : (epoch : ℕ) (d : DeferState) (ask : Ask (Unit {0})) → arm_ask d.arming ≡ ask → is_done ask ≡ false → is_done (defer_ask (arm_ledto epoch d ask)) ≡ false
unfolding arm_ledto deferring_ask
armed_stays epoch d (Done its) same asks = cc
armed_stays epoch d ask same asks = passed_done (arm_ask d.arming) (told.Armed epoch) ∙ (ap is_done same ∙ asks)

deferring_at : (took : Type 0) (d : DeferState) (step : Deferring) → DeferFits d step → AtSlot (is_done (defer_ask (deferring_next d step 0)) ≡ false) took (deferring_ask d step)
unfolding deferring_ask deferring_next
deferring_at took d (defer.Ended its) fits = tt
deferring_at took d defer.Seeks fits = passed_at _ took (raise_ask d.raising) told.NoSlot (off_at _ took (raise_ask d.raising) (raise_off d.raising))
deferring_at took d defer.Holds fits = tt
deferring_at took d (defer.Raises its) fits = passed_at _ took (raise_ask d.raising) told.NoSlot (off_at _ took (raise_ask d.raising) (raise_off d.raising))
deferring_at took d (defer.Puts its slot epoch) fits = armed_stays epoch (record d { arming = arm_next d.arming }) (arm_ask (arm_next d.arming)) refl fits
deferring_at took d (defer.Arms epoch) fits = passed_at _ took (arm_ask d.arming) (told.Armed epoch) (off_at _ took (arm_ask d.arming) (arm_off d.arming))

defer_at : (took more : Type 0) (d : DeferState) → DeferNow d → (DeferStays d → more) → AtSlot more took (defer_ask d)
defer_at took more d now f = at_more (DeferStays d) took more took (defer_ask d) f (λ x. x) (deferring_at took d d.step now)

-- the start of a commit
abbrev StartFits : StartState → Starting → Type 0
StartFits s (start.Ended its) = ⊤
StartFits s start.LoadsPhase = ⊤
StartFits s step = DeferNow s.defer

abbrev pub StartNow : StartState → Type 0
StartNow s = StartFits s s.step

start_there : (s : StartState) (step : Starting) → s.step ≡ step → StartFits s step → StartNow s
start_there s step at its = subst (λ (x : Starting). StartFits s x) (sym at) its

either_start : (b : Bool) (s t : StartState) → StartNow s → StartNow t → StartNow (if b then s else t)
either_start true s t one other = one
either_start false s t one other = other

found_fits : (s : StartState) (said : PhaseSaid) → StartNow (phase_found s said)
found_fits s (Says Rest number) = either_start (nat_le (last_of s.asked.class) number.0) _ _ tt (either_start (is_lost_full s.asked number.0) _ _ tt tt)
found_fits s said = tt

slot_fits : (number : Version) (s : StartState) (ask : Ask DeferAnswer) → s.step ≡ start.Seeks number → DeferNow s.defer → StartNow (starting.seek_led number s ask)
unfolding starting.seek_led
slot_fits number s (Done told.Held) at now = now
slot_fits number s (Done told.Spent) at now = tt
slot_fits number s (Done its) at now = tt
slot_fits number s ask at now = start_there s (start.Seeks number) at now

deferred_fits : (number : Version) (first : Addr) (s : StartState) (ask : Ask DeferAnswer) → s.step ≡ start.Defers number first → DeferNow s.defer → StartNow (starting.defer_led number first s ask)
unfolding starting.defer_led
deferred_fits number first s (Done (told.Armed epoch)) at now = tt
deferred_fits number first s (Done its) at now = tt
deferred_fits number first s ask at now = start_there s (start.Defers number first) at now

starting_fits : (s : StartState) (step : Starting) (reply : ℕ) → s.step ≡ step → StartFits s step → StartNow (starting_next s step reply)
unfolding starting_next
starting_fits s (start.Ended its) reply at now = start_there s (start.Ended its) at tt
starting_fits s start.LoadsPhase reply at now = found_fits s (phase_said reply)
starting_fits s (start.Seeks number) reply at now = slot_fits number (record s { defer = defer_next s.defer reply }) (defer_ask (defer_next s.defer reply)) at (defer_next_fits s.defer reply)
starting_fits s (start.StoresPrepare number) reply at now = now
starting_fits s (start.LoadsTail number) reply at now = going_on s.defer s.defer.step _ now
starting_fits s (start.Defers number first) reply at now = deferred_fits number first (record s { defer = defer_next s.defer reply }) (defer_ask (defer_next s.defer reply)) at (defer_next_fits s.defer reply)

pub start_fits : (s : StartState) (reply : ℕ) → StartNow s → StartNow (start_next s reply)
start_fits s reply now = starting_fits s s.step reply refl now

start_asks : (s : StartState) (step : Starting) → s.step ≡ step → is_done (starting_ask s step) ≡ false → is_done (start_ask s) ≡ false
start_asks s step at asks = ap (λ (x : Starting). is_done (starting_ask s x)) at ∙ asks

slot_stays : (number : Version) (s : StartState) (ask : Ask DeferAnswer) → s.step ≡ start.Seeks number → defer_ask s.defer ≡ ask → is_done ask ≡ false → is_done (start_ask (starting.seek_led number s ask)) ≡ false
unfolding starting.seek_led starting_ask
slot_stays number s (Done its) at same asks = cc
slot_stays number s ask at same asks = start_asks s (start.Seeks number) at (passed_done (defer_ask s.defer) start_told.Idle ∙ (ap is_done same ∙ asks))

deferred_stays : (number : Version) (first : Addr) (s : StartState) (ask : Ask DeferAnswer) → s.step ≡ start.Defers number first → defer_ask s.defer ≡ ask → is_done ask ≡ false → is_done (start_ask (starting.defer_led number first s ask)) ≡ false
unfolding starting.defer_led starting_ask
deferred_stays number first s (Done its) at same asks = cc
deferred_stays number first s ask at same asks = start_asks s (start.Defers number first) at (passed_done (defer_ask s.defer) start_told.Idle ∙ (ap is_done same ∙ asks))

starting_at : (took : Type 0) (s : StartState) (step : Starting) → s.step ≡ step → StartFits s step → AtSlot (is_done (start_ask (starting_next s step 0)) ≡ false) took (starting_ask s step)
unfolding starting_ask starting_next
starting_at took s (start.Ended its) at now = tt
starting_at took s start.LoadsPhase at now = tt
starting_at took s (start.Seeks number) at now = passed_at _ took (defer_ask s.defer) start_told.Idle (defer_at took _ s.defer now
    (λ asks. slot_stays number (record s { defer = defer_next s.defer 0 }) (defer_ask (defer_next s.defer 0)) at refl asks))
starting_at took s (start.StoresPrepare number) at now = tt
starting_at took s (start.LoadsTail number) at now = tt
starting_at took s (start.Defers number first) at now = passed_at _ took (defer_ask s.defer) start_told.Idle (defer_at took _ s.defer now
    (λ asks. deferred_stays number first (record s { defer = defer_next s.defer 0 }) (defer_ask (defer_next s.defer 0)) at refl asks))

pub start_at : (took : Type 0) (s : StartState) → StartNow s → AtSlot (is_done (start_ask (start_next s 0)) ≡ false) took (start_ask s)
start_at took s now = starting_at took s s.step refl now

-- the step to wait-pending
abbrev EnterFits : EnterState → Entering → Type 0
EnterFits s (enter.Ended its) = ⊤
EnterFits s step = DeferNow s.defer

abbrev pub EnterNow : EnterState → Type 0
EnterNow s = EnterFits s s.step

enter_there : (s : EnterState) (step : Entering) → s.step ≡ step → EnterFits s step → EnterNow s
enter_there s step at its = subst (λ (x : Entering). EnterFits s x) (sym at) its

enter_slot : (s : EnterState) (ask : Ask DeferAnswer) → s.step ≡ enter.Seeks → DeferNow s.defer → EnterNow (entering.seek_led s ask)
unfolding entering.seek_led
enter_slot s (Done told.Held) at now = going_on s.defer s.defer.step _ now
enter_slot s (Done told.Spent) at now = tt
enter_slot s (Done its) at now = tt
enter_slot s ask at now = enter_there s enter.Seeks at now

enter_deferred : (s : EnterState) (ask : Ask DeferAnswer) → s.step ≡ enter.Defers → DeferNow s.defer → EnterNow (entering.defer_led s ask)
unfolding entering.defer_led
enter_deferred s (Done (told.Armed epoch)) at now = tt
enter_deferred s (Done its) at now = tt
enter_deferred s ask at now = enter_there s enter.Defers at now

entering_fits : (s : EnterState) (step : Entering) (reply : ℕ) → s.step ≡ step → EnterNow (entering_next s step reply)
unfolding entering_next
entering_fits s (enter.Ended its) reply at = enter_there s (enter.Ended its) at tt
entering_fits s enter.Seeks reply at = enter_slot (record s { defer = defer_next s.defer reply }) (defer_ask (defer_next s.defer reply)) at (defer_next_fits s.defer reply)
entering_fits s enter.Defers reply at = enter_deferred (record s { defer = defer_next s.defer reply }) (defer_ask (defer_next s.defer reply)) at (defer_next_fits s.defer reply)

pub enter_fits : (s : EnterState) (reply : ℕ) → EnterNow (enter_next s reply)
enter_fits s reply = entering_fits s s.step reply refl

enter_asks : (s : EnterState) (step : Entering) → s.step ≡ step → is_done (entering_ask s step) ≡ false → is_done (enter_ask s) ≡ false
enter_asks s step at asks = ap (λ (x : Entering). is_done (entering_ask s x)) at ∙ asks

enter_slot_stays : (s : EnterState) (ask : Ask DeferAnswer) → s.step ≡ enter.Seeks → defer_ask s.defer ≡ ask → is_done ask ≡ false → is_done (enter_ask (entering.seek_led s ask)) ≡ false
unfolding entering.seek_led entering_ask
enter_slot_stays s (Done its) at same asks = cc
enter_slot_stays s ask at same asks = enter_asks s enter.Seeks at (passed_done (defer_ask s.defer) enter_told.Idle ∙ (ap is_done same ∙ asks))

enter_defer_stays : (s : EnterState) (ask : Ask DeferAnswer) → s.step ≡ enter.Defers → defer_ask s.defer ≡ ask → is_done ask ≡ false → is_done (enter_ask (entering.defer_led s ask)) ≡ false
unfolding entering.defer_led entering_ask
enter_defer_stays s (Done its) at same asks = cc
enter_defer_stays s ask at same asks = enter_asks s enter.Defers at (passed_done (defer_ask s.defer) enter_told.Idle ∙ (ap is_done same ∙ asks))

entering_at : (took : Type 0) (s : EnterState) (step : Entering) → s.step ≡ step → EnterFits s step → AtSlot (is_done (enter_ask (entering_next s step 0)) ≡ false) took (entering_ask s step)
unfolding entering_ask entering_next
entering_at took s (enter.Ended its) at now = tt
entering_at took s enter.Seeks at now = passed_at _ took (defer_ask s.defer) enter_told.Idle (defer_at took _ s.defer now
    (λ asks. enter_slot_stays (record s { defer = defer_next s.defer 0 }) (defer_ask (defer_next s.defer 0)) at refl asks))
entering_at took s enter.Defers at now = passed_at _ took (defer_ask s.defer) enter_told.Idle (defer_at took _ s.defer now
    (λ asks. enter_defer_stays (record s { defer = defer_next s.defer 0 }) (defer_ask (defer_next s.defer 0)) at refl asks))

pub enter_at : (took : Type 0) (s : EnterState) → EnterNow s → AtSlot (is_done (enter_ask (enter_next s 0)) ≡ false) took (enter_ask s)
enter_at took s now = entering_at took s s.step refl now

-- the search for the sessions' points
abbrev SeekFits : SeekState → Seeking → Type 0
SeekFits s (seek.Ended its) = ⊤
SeekFits s (seek.LoadsOwing session) = ⊤
SeekFits s step = DeferNow s.defer

abbrev pub SeekNow : SeekState → Type 0
SeekNow s = SeekFits s s.step

seek_there : (s : SeekState) (step : Seeking) → s.step ≡ step → SeekFits s step → SeekNow s
seek_there s step at its = subst (λ (x : Seeking). SeekFits s x) (sym at) its

either_seek : (b : Bool) (s t : SeekState) → SeekNow s → SeekNow t → SeekNow (if b then s else t)
either_seek true s t one other = one
either_seek false s t one other = other

pub owing_fits : (s : SeekState) (session : ℕ) → SeekNow (owing_from s session)
owing_fits s session = either_seek (nat_lt session s.sessions) _ _ tt tt

points_fit : (s : SeekState) → DeferNow s.defer → SeekNow (points_from s)
points_fit s now = either_seek (nat_lt (length s.points) s.sessions) (record s { step = seek.LoadsCut }) (record s { step = seek.StoresWaitFlush }) now now

point_fits : (s : SeekState) (serial : ℕ) → DeferNow s.defer → SeekNow (point_taken s serial)
point_fits s serial now = points_fit (with_point s serial) now

seek_slot : (s : SeekState) (ask : Ask DeferAnswer) → s.step ≡ seek.SeeksSlot → DeferNow s.defer → SeekNow (slot_led s ask)
unfolding slot_led
seek_slot s (Done told.Held) at now = points_fit s now
seek_slot s (Done told.Spent) at now = tt
seek_slot s (Done its) at now = tt
seek_slot s ask at now = seek_there s seek.SeeksSlot at now

seek_deferred : (end : Addr) (s : SeekState) (ask : Ask DeferAnswer) → s.step ≡ seek.Defers end → DeferNow s.defer → SeekNow (seeking.defer_led end s ask)
unfolding seeking.defer_led
seek_deferred end s (Done (told.Armed epoch)) at now = tt
seek_deferred end s (Done its) at now = tt
seek_deferred end s ask at now = seek_there s (seek.Defers end) at now

seeking_fits : (s : SeekState) (step : Seeking) (reply : ℕ) → s.step ≡ step → SeekFits s step → SeekNow (seeking_next s step reply)
unfolding seeking_next
seeking_fits s (seek.Ended its) reply at now = seek_there s (seek.Ended its) at tt
seeking_fits s (seek.LoadsOwing session) reply at now = either_seek (reply == 0) _ _ (owing_fits s (session + 1)) tt
seeking_fits s seek.SeeksSlot reply at now = seek_slot (record s { defer = defer_next s.defer reply }) (defer_ask (defer_next s.defer reply)) at (defer_next_fits s.defer reply)
seeking_fits s seek.LoadsCut reply at now = either_seek (is_cut_of s.number.0 reply) (point_taken s (serial_said reply)) (record s { step = seek.LoadsOther reply }) (point_fits s (serial_said reply) now) now
seeking_fits s (seek.LoadsOther first) reply at now =
    either_seek (not (is_cut_of (s.number.0 + 1) reply)) (point_taken s (max (serial_said first) (serial_said reply))) (record s { step = seek.LoadsAgain }) (point_fits s (max (serial_said first) (serial_said reply)) now) now
seeking_fits s seek.LoadsAgain reply at now = point_fits s (serial_said reply) now
seeking_fits s seek.StoresWaitFlush reply at now = now
seeking_fits s seek.LoadsTail reply at now = now
seeking_fits s (seek.RaisesReadOnly end) reply at now = going_on s.defer s.defer.step _ now
seeking_fits s (seek.Defers end) reply at now = seek_deferred end (record s { defer = defer_next s.defer reply }) (defer_ask (defer_next s.defer reply)) at (defer_next_fits s.defer reply)

pub seek_fits : (s : SeekState) (reply : ℕ) → SeekNow s → SeekNow (seek_next s reply)
seek_fits s reply now = seeking_fits s s.step reply refl now

seek_asks : (s : SeekState) (step : Seeking) → s.step ≡ step → is_done (seeking_ask s step) ≡ false → is_done (seek_ask s) ≡ false
seek_asks s step at asks = ap (λ (x : Seeking). is_done (seeking_ask s x)) at ∙ asks

seek_slot_stays : (s : SeekState) (ask : Ask DeferAnswer) → s.step ≡ seek.SeeksSlot → defer_ask s.defer ≡ ask → is_done ask ≡ false → is_done (seek_ask (slot_led s ask)) ≡ false
unfolding slot_led seeking_ask
seek_slot_stays s (Done its) at same asks = cc
seek_slot_stays s ask at same asks = seek_asks s seek.SeeksSlot at (passed_done (defer_ask s.defer) seek_told.Idle ∙ (ap is_done same ∙ asks))

seek_defer_stays : (end : Addr) (s : SeekState) (ask : Ask DeferAnswer) → s.step ≡ seek.Defers end → defer_ask s.defer ≡ ask → is_done ask ≡ false → is_done (seek_ask (seeking.defer_led end s ask)) ≡ false
unfolding seeking.defer_led seeking_ask
seek_defer_stays end s (Done its) at same asks = cc
seek_defer_stays end s ask at same asks = seek_asks s (seek.Defers end) at (passed_done (defer_ask s.defer) seek_told.Idle ∙ (ap is_done same ∙ asks))

seeking_at : (took : Type 0) (s : SeekState) (step : Seeking) → s.step ≡ step → SeekFits s step → AtSlot (is_done (seek_ask (seeking_next s step 0)) ≡ false) took (seeking_ask s step)
unfolding seeking_ask seeking_next
seeking_at took s seek.SeeksSlot at now = passed_at _ took (defer_ask s.defer) seek_told.Idle (defer_at took _ s.defer now
    (λ asks. seek_slot_stays (record s { defer = defer_next s.defer 0 }) (defer_ask (defer_next s.defer 0)) at refl asks))
seeking_at took s (seek.Defers end) at now = passed_at _ took (defer_ask s.defer) seek_told.Idle (defer_at took _ s.defer now
    (λ asks. seek_defer_stays end (record s { defer = defer_next s.defer 0 }) (defer_ask (defer_next s.defer 0)) at refl asks))
seeking_at took s step at now = tt

pub seek_at : (took : Type 0) (s : SeekState) → SeekNow s → AtSlot (is_done (seek_ask (seek_next s 0)) ≡ false) took (seek_ask s)
seek_at took s now = seeking_at took s s.step refl now
