-- Each reply to a part of a commit keeps what the keeper knows of its raises.
use Rattle.std.proofs.Common.{◌≡◌, ℕ, ◌+◌, ◌^◌, ◌<◌, ◌≤◌, length, refl, arith, sym, subst, Bool, true, false}
use Rattle.std.specs.Prelude.{not, ⊤, if◌then◌else◌, nat_le, nat_lt, ◌==◌, max, Option, None}
use Rattle.std.proofs.lemmas.Bool.Decides.{nat_tests}
use Rattle.fkv_base.specs.Limits.{last_of}
use Rattle.fkv_base.specs.declared.numbers.Addr.{Addr}
use Rattle.fkv_base.specs.declared.numbers.Version.{Version}
use Rattle.fkv_base.specs.declared.phases.Phase.TheVariants.{InProgress, WaitPending, Rest, Prepare, WaitFlush}
use Rattle.fkv_words.specs.declared.phase_words.PhaseSaid.{PhaseSaid}
use Rattle.fkv_words.specs.declared.phase_words.PhaseSaid.TheVariants.{Says, Spoiled}
use Rattle.fkv_words.specs.PhaseWords.{phase_said}
use Rattle.fkv_plane.specs.declared.asks.Ask.{Ask}
use Rattle.fkv_plane.specs.declared.asks.Ask.TheVariants.{Done}
use Rattle.fkv_plane.specs.Passing.{passed}
use Rattle.fkv_epoch.specs.declared.arming.Arming.{Arming}
use Rattle.fkv_epoch.specs.declared.raising.RaiseAnswer.{RaiseAnswer}
use Rattle.fkv_epoch.specs.declared.raising.Raising.{Raising}
use Rattle.fkv_epoch.specs.declared.raising.Raising.TheVariants as raise
use Rattle.fkv_epoch.specs.Arming.{arm_ask, arm_next}
use Rattle.fkv_epoch.specs.Raising.{raise_ask, raise_next, raise_next_ask}
use Rattle.law_refine.specs.Below.fkv_commit.Commit.{Commit}
use Rattle.law_refine.specs.Below.fkv_commit.Deferred.{Deferred}
use Rattle.law_refine.specs.Below.fkv_commit.Deferred.TheVariants.{EntersPhase, ShowsReadOnly}
use Rattle.law_refine.specs.Below.fkv_commit.DeferAnswer.{DeferAnswer}
use Rattle.law_refine.specs.Below.fkv_commit.DeferAnswer.TheVariants.{Held, NoSlot, Spent, Armed}
use Rattle.law_refine.specs.Below.fkv_commit.TheDeferring.{Deferring}
use Rattle.law_refine.specs.Below.fkv_commit.TheDeferring.TheVariants as defer
use Rattle.law_refine.specs.Below.fkv_commit.TheEntering.{Entering}
use Rattle.law_refine.specs.Below.fkv_commit.TheEntering.TheVariants as enter
use Rattle.law_refine.specs.Below.fkv_commit.SeekAnswer.{SeekAnswer}
use Rattle.law_refine.specs.Below.fkv_commit.SeekAnswer.TheVariants as sought
use Rattle.law_refine.specs.Below.fkv_commit.TheSeeking.{Seeking}
use Rattle.law_refine.specs.Below.fkv_commit.TheSeeking.TheVariants as seek
use Rattle.law_refine.specs.Below.fkv_commit.StartAnswer.{StartAnswer}
use Rattle.law_refine.specs.Below.fkv_commit.StartAnswer.TheVariants as started
use Rattle.law_refine.specs.Below.fkv_commit.TheStarting.{Starting}
use Rattle.law_refine.specs.Below.fkv_commit.TheStarting.TheVariants as start
use Rattle.law_refine.specs.Below.fkv_commit.WaitAnswer.TheVariants.{Idle, NotYet, Flushed}
use Rattle.law_refine.specs.Below.fkv_commit.TheWaiting.{Waiting}
use Rattle.law_refine.specs.Below.fkv_commit.TheWaiting.TheVariants as waiting
use Rattle.law_refine.specs.Below.fkv_commit.Commits.{version_after}
use Rattle.law_refine.specs.Below.fkv_commit.Cuts.{is_cut_of, serial_said}
use Rattle.law_refine.specs.Below.fkv_commit.Deferring.{DeferState, arm_ledto, armed_epoch, defer_ask, defer_begun, defer_next, deferring_ask, deferring_next, raise_ledto}
use Rattle.law_refine.specs.Below.fkv_commit.Entering as entering
use Rattle.law_refine.specs.Below.fkv_commit.Entering.{EnterState, entering_next}
use Rattle.law_refine.specs.Below.fkv_commit.Seeking as seeking
use Rattle.law_refine.specs.Below.fkv_commit.Seeking.{SeekState, owing_from, point_taken, with_point, points_from, seeking_ask, seeking_next, slot_led}
use Rattle.law_refine.specs.Below.fkv_commit.Starting as starting
use Rattle.law_refine.specs.Below.fkv_commit.Starting.{StartState, is_lost_full, phase_found, starting_ask, starting_next}
use Rattle.law_refine.specs.Below.fkv_commit.Waiting.{WaitState, waiting_next}
use Rattle.law_refine.specs.Below.fkv_flush.GuardLevels.{Levels}
use Rattle.law_refine.specs.Below.law_world.GuardKeeper.CommitShown.{EnterKnows, IsDeferring, SeekKnows, StartKnows}
use Rattle.law_commit.specs.Phases.Staged.{Stage, SeekAt, StartAt, EnterAt}
use Rattle.law_commit.proofs.OfFloor.KeeperFits.{DeferFits, EndingFits, EnterFits, Ground, IsEnding, PendingFits, ProgressFits, SeekFits, StartFits, WaitFits}
use Rattle.law_commit.proofs.OfPhases.CommitStages.{SoughtAt, goes_on, slot_sought}
use Rattle.law_refine.proofs.Footprint.Commits.{seek_stores, start_stores}

-- ---- a deferral
-- what it tells
abbrev pub TellsArmed : (ℕ → Type 0) → Ask DeferAnswer → Type 0
TellsArmed C (Done (Armed epoch)) = C epoch
TellsArmed C ask = ⊤

module _ (A : Type 0) (B C : ℕ → Type 0) where
  abbrev Fits : Deferring → Type 0
  Fits step = DeferFits A B C step

  pub armed_fits : (epoch : ℕ) (d : DeferState) (ask : Ask (Unit {0})) → C epoch → Fits (arm_ledto epoch d ask).step
  unfolding arm_ledto
  armed_fits epoch d (Done told) its = its
  armed_fits epoch d ask its = its

  pub arms_fits : (d : DeferState) (epoch reply : ℕ) → C epoch → Fits (deferring_next d (defer.Arms epoch) reply).step
  unfolding deferring_next
  arms_fits d epoch reply armed = armed_fits epoch (record d { arming = arm_next d.arming }) (arm_ask (arm_next d.arming)) armed

  -- the action is put
  pub put_fits : (d : DeferState) (its : Deferred) (slot epoch reply : ℕ) → C epoch → Fits (deferring_next d (defer.Puts its slot epoch) reply).step
  unfolding deferring_next
  put_fits d its slot epoch reply armed = armed_fits epoch (record d { arming = arm_next d.arming }) (arm_ask (arm_next d.arming)) armed

  raises_fits : (l : Levels) (its : Deferred) (d : DeferState) (raising : Raising) (arming : Arming) (reply : ℕ) → IsDeferring l (defer.Raises its) raising arming → B (armed_epoch reply)
      → Fits (raise_ledto its (record d { raising = raise_next raising reply }) (raise_next_ask raising reply)).step
  unfolding raise_ledto raise_next_ask
  raises_fits l its d (raise.RaisesEpoch slot) arming reply ready up = up
  raises_fits l its d raise.AtRest arming reply ready up = absurd ready
  raises_fits l its d raise.LoadsEpoch arming reply ready up = absurd ready
  raises_fits l its d (raise.MeetsSlot slot) arming reply ready up = absurd ready
  raises_fits l its d (raise.HoldsSlot slot) arming reply ready up = absurd ready
  raises_fits l its d (raise.HasSlot slot) arming reply ready up = absurd ready

  pub defer_goes_fits : (l : Levels) (d : DeferState) (step : Deferring) (reply : ℕ) → IsDeferring l step d.raising d.arming → (A → B (armed_epoch reply)) → Fits step → Fits (deferring_next d step reply).step
  unfolding deferring_next
  defer_goes_fits l d (defer.Raises its) reply ready up fits = raises_fits l its d d.raising d.arming reply ready (up fits)
  defer_goes_fits l d (defer.Arms epoch) reply ready up fits = armed_fits epoch (record d { arming = arm_next d.arming }) (arm_ask (arm_next d.arming)) fits
  defer_goes_fits l d (defer.Ended told) reply ready up fits = absurd ready
  defer_goes_fits l d defer.Seeks reply ready up fits = absurd ready
  defer_goes_fits l d defer.Holds reply ready up fits = absurd ready
  defer_goes_fits l d (defer.Puts its slot epoch) reply ready up fits = absurd ready

  raise_tells : (ask : Ask RaiseAnswer) → TellsArmed C (passed ask NoSlot)
  unfolding passed
  raise_tells (Done told) = tt
  raise_tells ask = tt

  arm_tells : (epoch : ℕ) (ask : Ask (Unit {0})) → C epoch → TellsArmed C (passed ask (Armed epoch))
  unfolding passed
  arm_tells epoch (Done told) its = its
  arm_tells epoch ask its = tt

  pub tells_fits : (d : DeferState) (step : Deferring) → Fits step → TellsArmed C (deferring_ask d step)
  unfolding deferring_ask
  tells_fits d (defer.Ended Held) fits = tt
  tells_fits d (defer.Ended NoSlot) fits = tt
  tells_fits d (defer.Ended Spent) fits = tt
  tells_fits d (defer.Ended (Armed epoch)) fits = fits
  tells_fits d defer.Seeks fits = raise_tells (raise_ask d.raising)
  tells_fits d defer.Holds fits = tt
  tells_fits d (defer.Raises its) fits = raise_tells (raise_ask d.raising)
  tells_fits d (defer.Puts its slot epoch) fits = tt
  tells_fits d (defer.Arms epoch) fits = arm_tells epoch (arm_ask d.arming) fits

-- what is known of one that isn't about to put its action goes over
pub defer_over : (A A' : Type 0) (B B' C C' : ℕ → Type 0) (l : Levels) (step : Deferring) (raising : Raising) (arming : Arming) → IsDeferring l step raising arming → (A → A') → ((epoch : ℕ) → C epoch → C' epoch) → DeferFits A B C step → DeferFits A' B' C' step
defer_over A A' B B' C C' l (defer.Raises its) raising arming ready over more fits = over fits
defer_over A A' B B' C C' l (defer.Arms epoch) raising arming ready over more fits = more epoch fits
defer_over A A' B B' C C' l (defer.Ended told) raising arming ready over more fits = absurd ready
defer_over A A' B B' C C' l defer.Seeks raising arming ready over more fits = absurd ready
defer_over A A' B B' C C' l defer.Holds raising arming ready over more fits = absurd ready
defer_over A A' B B' C C' l (defer.Puts its slot epoch) raising arming ready over more fits = absurd ready

-- ---- replies
-- to a raise: the epoch before it, which it has raised
pub record Raised (g : Ground) (reply : ℕ) : Type 0 where
  pub before : reply ≡ g.before
  pub low : reply < 2 ^ 49
  pub up : g.before < g.epoch

abbrev pub DeferReply : Ground → Deferring → ℕ → Type 0
DeferReply g (defer.Raises its) reply = Raised g reply
DeferReply g step reply = ⊤

-- of the tail, and of what is safe
abbrev pub StartReply : Ground → StartState → Starting → ℕ → Type 0
StartReply g s (start.LoadsTail its) reply = reply ≤ g.tail
StartReply g s (start.Defers its first) reply = DeferReply g s.defer.step reply
StartReply g s step reply = ⊤

abbrev pub EnterReply : Ground → EnterState → Entering → ℕ → Type 0
EnterReply g s enter.Defers reply = DeferReply g s.defer.step reply
EnterReply g s step reply = ⊤

abbrev pub SeekReply : Ground → SeekState → Seeking → ℕ → Type 0
SeekReply g s seek.LoadsTail reply = reply ≤ g.tail
SeekReply g s (seek.Defers end) reply = DeferReply g s.defer.step reply
SeekReply g s step reply = ⊤

abbrev pub WaitReply : Ground → Waiting → ℕ → Type 0
WaitReply g waiting.LoadsSafe reply = reply ≤ g.safe
WaitReply g step reply = ⊤

-- a deferral that raises goes on by its reply
module _ (A : Type 0) (B C : ℕ → Type 0) (g : Ground) (l : Levels) (d : DeferState) (reply : ℕ) where
  pub deferred_fits : (step : Deferring) → IsDeferring l step d.raising d.arming → DeferReply g step reply → (Raised g reply → A → B (armed_epoch reply)) → DeferFits A B C step → DeferFits A B C (deferring_next d step reply).step
  deferred_fits (defer.Raises its) ready raised up fits = defer_goes_fits A B C l d (defer.Raises its) reply ready (up raised) fits
  deferred_fits (defer.Arms epoch) ready raised up fits = arms_fits A B C d epoch reply fits
  deferred_fits (defer.Ended told) ready raised up fits = absurd ready
  deferred_fits defer.Seeks ready raised up fits = absurd ready
  deferred_fits defer.Holds ready raised up fits = absurd ready
  deferred_fits (defer.Puts its slot epoch) ready raised up fits = absurd ready

-- ---- a start
start_either : (g : Ground) (commit : Option Commit) (c : Bool) (a b : StartState) → StartFits g commit a a.step → StartFits g commit b b.step → StartFits g commit (if c then a else b) (if c then a else b).step
start_either g commit true a b one other = one
start_either g commit false a b one other = other

found_fits : (g : Ground) (commit : Option Commit) (s : StartState) (said : PhaseSaid) → StartFits g commit (phase_found s said) (phase_found s said).step
found_fits g commit s (Says Rest number) = start_either g commit (nat_le (last_of s.asked.class) number.0) _ _ tt (start_either g commit (is_lost_full s.asked number.0) _ _ tt tt)
found_fits g commit s (Says Prepare number) = tt
found_fits g commit s (Says InProgress number) = tt
found_fits g commit s (Says WaitPending number) = tt
found_fits g commit s (Says WaitFlush number) = tt
found_fits g commit s Spoiled = tt

start_stays : (g : Ground) (commit : Option Commit) (s : StartState) (step : Starting) → s.step ≡ step → StartFits g commit s step → StartFits g commit s s.step
start_stays g commit s step at is = subst (λ x. StartFits g commit s x) (sym at) is

start_sought : (g : Ground) (commit : Option Commit) (its : Version) (s : StartState) (ask : Ask DeferAnswer) → s.step ≡ start.Seeks its → StartFits g commit (starting.seek_led its s ask) (starting.seek_led its s ask).step
unfolding starting.seek_led
start_sought g commit its s (Done Held) at = tt
start_sought g commit its s (Done Spent) at = tt
start_sought g commit its s (Done told) at = tt
start_sought g commit its s ask at = start_stays g commit s (start.Seeks its) at tt

start_deferred : (g : Ground) (commit : Option Commit) (its : Version) (first : Addr) (s : StartState) (ask : Ask DeferAnswer) → s.step ≡ start.Defers its first → commit ≡ None → ProgressFits g first.0 s.defer.step
    → TellsArmed (λ epoch. first.0 ≡ g.raises.first) ask → StartFits g commit (starting.defer_led its first s ask) (starting.defer_led its first s ask).step
unfolding starting.defer_led
start_deferred g commit its first s (Done (Armed epoch)) at none fits tells = tells
start_deferred g commit its first s (Done told) at none fits tells = tt
start_deferred g commit its first s ask at none fits tells = start_stays g commit s (start.Defers its first) at (none, fits)

-- by the deferral that is led on
start_led : (g : Ground) (commit : Option Commit) (its : Version) (first : Addr) (s : StartState) (e : DeferState) → s.step ≡ start.Defers its first → commit ≡ None → ProgressFits g first.0 e.step
    → StartFits g commit (starting.defer_led its first (record s { defer = e }) (defer_ask e)) (starting.defer_led its first (record s { defer = e }) (defer_ask e)).step
start_led g commit its first s e at none fits =
    start_deferred g commit its first (record s { defer = e }) (defer_ask e) at none fits
    (tells_fits (first.0 ≤ g.tail) (λ epoch. (first.0 ≤ g.tail) × (g.before < g.epoch)) (λ epoch. first.0 ≡ g.raises.first) e e.step fits)

pub start_goes_fits : (g : Ground) (l : Levels) (commit : Option Commit) (number : Version) (stage : Stage) (s : StartState) (step : Starting) (reply : ℕ) → s.step ≡ step → StartAt number stage s step → StartKnows l s step → (start_stores step ≡ true → commit ≡ None)
    → StartReply g s step reply → StartFits g commit s step → StartFits g commit (starting_next s step reply) (starting_next s step reply).step
unfolding starting_next
start_goes_fits g l commit number stage s (start.Ended told) reply at is knows none says fits = start_stays g commit s (start.Ended told) at fits
start_goes_fits g l commit number stage s start.LoadsPhase reply at is knows none says fits = found_fits g commit s (phase_said reply)
start_goes_fits g l commit number stage s (start.Seeks its) reply at is knows none says fits = start_sought g commit its (record s { defer = defer_next s.defer reply }) (defer_ask (defer_next s.defer reply)) at
start_goes_fits g l commit number stage s (start.StoresPrepare its) reply at is knows none says fits = none refl
start_goes_fits g l commit number stage s (start.LoadsTail its) reply at is knows none says fits =
    (fits, subst (λ (x : Deferring). ProgressFits g reply x) (sym (goes_on s.defer (EntersPhase InProgress (version_after its)) is.2)) says)
start_goes_fits g l commit number stage s (start.Defers its first) reply at is knows none says fits =
    start_led g commit its first s (defer_next s.defer reply) at fits.0
    (deferred_fits (first.0 ≤ g.tail) (λ epoch. (first.0 ≤ g.tail) × (g.before < g.epoch)) (λ epoch. first.0 ≡ g.raises.first) g l s.defer reply s.defer.step knows says (λ raised low. (low, raised.up)) fits.1)

-- its action is put
pub start_put_fits : (g : Ground) (commit : Option Commit) (s : StartState) (its : Version) (first : Addr) (x : Deferred) (slot epoch reply : ℕ) → s.step ≡ start.Defers its first → s.defer.step ≡ defer.Puts x slot epoch → commit ≡ None → first.0 ≡ g.raises.first
    → StartFits g commit (starting_next s (start.Defers its first) reply) (starting_next s (start.Defers its first) reply).step
unfolding starting_next
start_put_fits g commit s its first x slot epoch reply at puts none same =
    start_led g commit its first s (defer_next s.defer reply) at none
    (subst (λ (y : Deferring). ProgressFits g first.0 (deferring_next s.defer y reply).step) (sym puts)
    (put_fits (first.0 ≤ g.tail) (λ epoch. (first.0 ≤ g.tail) × (g.before < g.epoch)) (λ epoch. first.0 ≡ g.raises.first) s.defer x slot epoch reply same))

-- what it tells
abbrev pub StartTells : Ground → Ask StartAnswer → Type 0
StartTells g (Done (started.Begun its first)) = first.0 ≡ g.raises.first
StartTells g ask = ⊤

start_passed : (g : Ground) (ask : Ask DeferAnswer) → StartTells g (passed ask started.Idle)
unfolding passed
start_passed g (Done told) = tt
start_passed g ask = tt

pub start_tells_fits : (g : Ground) (commit : Option Commit) (s : StartState) (step : Starting) → StartFits g commit s step → StartTells g (starting_ask s step)
unfolding starting_ask
start_tells_fits g commit s (start.Ended (started.Begun its first)) fits = fits
start_tells_fits g commit s (start.Ended started.Idle) fits = tt
start_tells_fits g commit s (start.Ended (started.Refused why)) fits = tt
start_tells_fits g commit s start.LoadsPhase fits = tt
start_tells_fits g commit s (start.Seeks its) fits = start_passed g (defer_ask s.defer)
start_tells_fits g commit s (start.StoresPrepare its) fits = tt
start_tells_fits g commit s (start.LoadsTail its) fits = tt
start_tells_fits g commit s (start.Defers its first) fits = start_passed g (defer_ask s.defer)

-- ---- wait-pending is deferred
enter_stays : (g : Ground) (s : EnterState) (step : Entering) → s.step ≡ step → EnterFits g s step → EnterFits g s s.step
enter_stays g s step at is = subst (λ x. EnterFits g s x) (sym at) is

enter_sought : (g : Ground) (s : EnterState) (ask : Ask DeferAnswer) → s.step ≡ enter.Seeks → SoughtAt s.defer ask → EnterFits g (entering.seek_led s ask) (entering.seek_led s ask).step
unfolding entering.seek_led
enter_sought g s (Done Held) at sought = subst (λ (x : Deferring). PendingFits g x) (sym (goes_on s.defer (EntersPhase WaitPending (version_after s.number)) sought)) tt
enter_sought g s (Done Spent) at sought = tt
enter_sought g s (Done told) at sought = tt
enter_sought g s ask at sought = enter_stays g s enter.Seeks at tt

enter_led : (g : Ground) (s : EnterState) (ask : Ask DeferAnswer) → s.step ≡ enter.Defers → PendingFits g s.defer.step → EnterFits g (entering.defer_led s ask) (entering.defer_led s ask).step
unfolding entering.defer_led
enter_led g s (Done (Armed epoch)) at fits = tt
enter_led g s (Done told) at fits = tt
enter_led g s ask at fits = enter_stays g s enter.Defers at fits

pub enter_goes_fits : (g : Ground) (l : Levels) (number : Version) (stage : Stage) (s : EnterState) (step : Entering) (reply : ℕ) → s.step ≡ step → EnterAt number stage s step → EnterKnows l s step → EnterReply g s step reply → EnterFits g s step
    → EnterFits g (entering_next s step reply) (entering_next s step reply).step
unfolding entering_next
enter_goes_fits g l number stage s (enter.Ended told) reply at is knows says fits = enter_stays g s (enter.Ended told) at fits
enter_goes_fits g l number stage s enter.Seeks reply at is knows says fits = enter_sought g (record s { defer = defer_next s.defer reply }) (defer_ask (defer_next s.defer reply)) at (slot_sought s.defer reply is.1)
enter_goes_fits g l number stage s enter.Defers reply at is knows says fits =
    enter_led g (record s { defer = defer_next s.defer reply }) (defer_ask (defer_next s.defer reply)) at
    (deferred_fits ⊤ (λ epoch. g.before < g.epoch) (λ epoch. ⊤) g l s.defer reply s.defer.step knows says (λ raised one. raised.up) fits)

pub enter_put_fits : (g : Ground) (s : EnterState) (x : Deferred) (slot epoch reply : ℕ) → s.step ≡ enter.Defers → s.defer.step ≡ defer.Puts x slot epoch → EnterFits g (entering_next s enter.Defers reply) (entering_next s enter.Defers reply).step
unfolding entering_next
enter_put_fits g s x slot epoch reply at puts =
    enter_led g (record s { defer = defer_next s.defer reply }) (defer_ask (defer_next s.defer reply)) at
    (subst (λ (y : Deferring). PendingFits g (deferring_next s.defer y reply).step) (sym puts) (put_fits ⊤ (λ epoch. g.before < g.epoch) (λ epoch. ⊤) s.defer x slot epoch reply tt))

-- ---- the search for the points
seek_either : (g : Ground) (c : Bool) (a b : SeekState) → SeekFits g a a.step → SeekFits g b b.step → SeekFits g (if c then a else b) (if c then a else b).step
seek_either g true a b one other = one
seek_either g false a b one other = other

seek_stays : (g : Ground) (s : SeekState) (step : Seeking) → s.step ≡ step → SeekFits g s step → SeekFits g s s.step
seek_stays g s step at is = subst (λ x. SeekFits g s x) (sym at) is

pub owing_fits : (g : Ground) (s : SeekState) (session : ℕ) → SeekFits g (owing_from s session) (owing_from s session).step
owing_fits g s session = seek_either g (nat_lt session s.sessions) (record s { step = seek.LoadsOwing session }) (record s { defer = defer_begun s.defer; step = seek.SeeksSlot }) tt tt

points_fit : (g : Ground) (s : SeekState) → SeekFits g (points_from s) (points_from s).step
points_fit g s = seek_either g (nat_lt (length s.points) s.sessions) (record s { step = seek.LoadsCut }) (record s { step = seek.StoresWaitFlush }) tt tt

taken_fits : (g : Ground) (s : SeekState) (serial : ℕ) → SeekFits g (point_taken s serial) (point_taken s serial).step
taken_fits g s serial = points_fit g (with_point s serial)

slot_fits : (g : Ground) (s : SeekState) (ask : Ask DeferAnswer) → s.step ≡ seek.SeeksSlot → SeekFits g (slot_led s ask) (slot_led s ask).step
unfolding slot_led
slot_fits g s (Done Held) at = points_fit g s
slot_fits g s (Done Spent) at = tt
slot_fits g s (Done told) at = tt
slot_fits g s ask at = seek_stays g s seek.SeeksSlot at tt

seek_deferred : (g : Ground) (end : Addr) (s : SeekState) (ask : Ask DeferAnswer) → s.step ≡ seek.Defers end → EndingFits g end.0 s.defer.step → TellsArmed (λ epoch. IsEnding g.raises end.0 epoch) ask → SeekFits g (seeking.defer_led end s ask) (seeking.defer_led end s ask).step
unfolding seeking.defer_led
seek_deferred g end s (Done (Armed epoch)) at fits tells = tells
seek_deferred g end s (Done told) at fits tells = tt
seek_deferred g end s ask at fits tells = seek_stays g s (seek.Defers end) at fits

seek_led : (g : Ground) (end : Addr) (s : SeekState) (e : DeferState) → s.step ≡ seek.Defers end → EndingFits g end.0 e.step
    → SeekFits g (seeking.defer_led end (record s { defer = e }) (defer_ask e)) (seeking.defer_led end (record s { defer = e }) (defer_ask e)).step
seek_led g end s e at fits =
    seek_deferred g end (record s { defer = e }) (defer_ask e) at fits
    (tells_fits ((g.raises.ending ≡ 0) × (end.0 ≤ g.tail)) (λ epoch. (g.raises.ending ≡ 0) × (end.0 ≤ g.tail) × (g.before < g.epoch) × (epoch ≡ g.before)) (λ epoch. IsEnding g.raises end.0 epoch) e e.step fits)

armed_same : (reply before : ℕ) → reply ≡ before → reply < 2 ^ 49 → armed_epoch reply ≡ before
armed_same reply before same low = omega (arith, same, low)

pub seek_goes_fits : (g : Ground) (l : Levels) (number : Version) (stage : Stage) (s : SeekState) (step : Seeking) (reply : ℕ) → s.step ≡ step → SeekAt number stage s step → SeekKnows l s step → (seek_stores step ≡ true → g.raises.ending ≡ 0)
    → SeekReply g s step reply → SeekFits g s step → SeekFits g (seeking_next s step reply) (seeking_next s step reply).step
unfolding seeking_next
seek_goes_fits g l number stage s (seek.Ended told) reply at is knows none says fits = seek_stays g s (seek.Ended told) at fits
seek_goes_fits g l number stage s (seek.LoadsOwing session) reply at is knows none says fits = seek_either g (reply == 0) _ _ (owing_fits g s (session + 1)) tt
seek_goes_fits g l number stage s seek.SeeksSlot reply at is knows none says fits = slot_fits g (record s { defer = defer_next s.defer reply }) (defer_ask (defer_next s.defer reply)) at
seek_goes_fits g l number stage s seek.LoadsCut reply at is knows none says fits =
    seek_either g (is_cut_of s.number.0 reply) (point_taken s (serial_said reply)) (record s { step = seek.LoadsOther reply }) (taken_fits g s (serial_said reply)) tt
seek_goes_fits g l number stage s (seek.LoadsOther first) reply at is knows none says fits =
    seek_either g (not (is_cut_of (s.number.0 + 1) reply)) (point_taken s (max (serial_said first) (serial_said reply))) (record s { step = seek.LoadsAgain }) (taken_fits g s (max (serial_said first) (serial_said reply))) tt
seek_goes_fits g l number stage s seek.LoadsAgain reply at is knows none says fits = taken_fits g s (serial_said reply)
seek_goes_fits g l number stage s seek.StoresWaitFlush reply at is knows none says fits = none refl
seek_goes_fits g l number stage s seek.LoadsTail reply at is knows none says fits = (fits, says)
seek_goes_fits g l number stage s (seek.RaisesReadOnly end) reply at is knows none says fits = subst (λ (x : Deferring). EndingFits g end.0 x) (sym (goes_on s.defer (ShowsReadOnly end) is.1)) fits
seek_goes_fits g l number stage s (seek.Defers end) reply at is knows none says fits =
    seek_led g end s (defer_next s.defer reply) at
    (deferred_fits ((g.raises.ending ≡ 0) × (end.0 ≤ g.tail)) (λ epoch. (g.raises.ending ≡ 0) × (end.0 ≤ g.tail) × (g.before < g.epoch) × (epoch ≡ g.before)) (λ epoch. IsEnding g.raises end.0 epoch) g l s.defer reply s.defer.step knows says
    (λ raised was. (was.0, was.1, raised.up, armed_same reply g.before raised.before raised.low)) fits)

pub seek_put_fits : (g : Ground) (s : SeekState) (end : Addr) (x : Deferred) (slot epoch reply : ℕ) → s.step ≡ seek.Defers end → s.defer.step ≡ defer.Puts x slot epoch → IsEnding g.raises end.0 epoch
    → SeekFits g (seeking_next s (seek.Defers end) reply) (seeking_next s (seek.Defers end) reply).step
unfolding seeking_next
seek_put_fits g s end x slot epoch reply at puts ending =
    seek_led g end s (defer_next s.defer reply) at
    (subst (λ (y : Deferring). EndingFits g end.0 (deferring_next s.defer y reply).step) (sym puts)
    (put_fits ((g.raises.ending ≡ 0) × (end.0 ≤ g.tail)) (λ epoch. (g.raises.ending ≡ 0) × (end.0 ≤ g.tail) × (g.before < g.epoch) × (epoch ≡ g.before)) (λ epoch. IsEnding g.raises end.0 epoch) s.defer x slot epoch reply ending))

abbrev pub SeekTells : Ground → Ask SeekAnswer → Type 0
SeekTells g (Done (sought.Taken end epoch)) = IsEnding g.raises end.0 epoch
SeekTells g ask = ⊤

seek_passed : (g : Ground) (ask : Ask DeferAnswer) → SeekTells g (passed ask sought.Idle)
unfolding passed
seek_passed g (Done told) = tt
seek_passed g ask = tt

pub seek_tells_fits : (g : Ground) (s : SeekState) (step : Seeking) → SeekFits g s step → SeekTells g (seeking_ask s step)
unfolding seeking_ask
seek_tells_fits g s (seek.Ended (sought.Taken end epoch)) fits = fits
seek_tells_fits g s (seek.Ended sought.Idle) fits = tt
seek_tells_fits g s (seek.Ended sought.Owing) fits = tt
seek_tells_fits g s (seek.Ended sought.DrainFull) fits = tt
seek_tells_fits g s (seek.Ended sought.EpochsSpent) fits = tt
seek_tells_fits g s (seek.LoadsOwing session) fits = tt
seek_tells_fits g s seek.SeeksSlot fits = seek_passed g (defer_ask s.defer)
seek_tells_fits g s seek.LoadsCut fits = tt
seek_tells_fits g s (seek.LoadsOther first) fits = tt
seek_tells_fits g s seek.LoadsAgain fits = tt
seek_tells_fits g s seek.StoresWaitFlush fits = tt
seek_tells_fits g s seek.LoadsTail fits = tt
seek_tells_fits g s (seek.RaisesReadOnly end) fits = tt
seek_tells_fits g s (seek.Defers end) fits = seek_passed g (defer_ask s.defer)

-- ---- the wait
pub wait_goes_fits : (g : Ground) (s : WaitState) (step : Waiting) (reply : ℕ) → WaitReply g step reply → WaitFits g s step → WaitFits g (record s { step = waiting_next s.end s.epoch step reply }) (waiting_next s.end s.epoch step reply)
unfolding waiting_next
wait_goes_fits g s (waiting.Ended told) reply says fits = by_told told fits
  where
    by_told : (told : _) → WaitFits g s (waiting.Ended told) → WaitFits g (record s { step = waiting.Ended told }) (waiting.Ended told)
    by_told Idle fits = tt
    by_told NotYet fits = tt
    by_told Flushed fits = fits
wait_goes_fits g s waiting.LoadsSafe reply says fits = by_test (nat_le s.epoch reply) refl
  where
    by_test : (b : Bool) → nat_le s.epoch reply ≡ b → WaitFits g (record s { step = (if b then waiting.LoadsFlushed else waiting.Ended NotYet) }) (if b then waiting.LoadsFlushed else waiting.Ended NotYet)
    by_test true e =
        let some = fits.some in
        let same = fits.epoch_is in
        let low : s.epoch ≤ reply = grind (arith, nat_tests, e) in
        (some, omega (arith, same, low, says))
    by_test false e = tt
wait_goes_fits g s waiting.LoadsFlushed reply says fits = by_test (nat_le s.end.0 reply)
  where
    by_test : (b : Bool) → WaitFits g (record s { step = (if b then waiting.Ended Flushed else waiting.Ended NotYet) }) (if b then waiting.Ended Flushed else waiting.Ended NotYet)
    by_test true = fits
    by_test false = tt
