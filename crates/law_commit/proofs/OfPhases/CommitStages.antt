-- Each reply to a part of a commit leaves it at the stage to which it leads.
use Rattle.std.proofs.Common.{◌≡◌, ◌⊎◌, inl, ℕ, ◌+◌, ◌<◌, ◌∙◌, List, [], length, refl, arith, sym, ap, subst, Bool, true, false}
use Rattle.std.specs.Prelude.{not, ⊤, if◌then◌else◌, nat_le, nat_lt, ◌==◌, max}
use Rattle.std.proofs.lemmas.Bool.Decides.{nat_tests}
use Rattle.fkv_base.specs.Limits.{last_version, last_of}
use Rattle.fkv_base.specs.declared.classes.StoreClass.{StoreClass}
use Rattle.fkv_base.specs.declared.numbers.Addr.{Addr}
use Rattle.fkv_base.specs.declared.numbers.Serial.{Serial}
use Rattle.fkv_base.specs.declared.numbers.Version.{Version}
use Rattle.fkv_base.specs.declared.phases.Phase.TheVariants.{InProgress, WaitPending}
use Rattle.fkv_words.specs.declared.phase_words.PhaseSaid.{PhaseSaid}
use Rattle.fkv_words.specs.declared.phase_words.PhaseSaid.TheVariants.{Says}
use Rattle.fkv_words.specs.PhaseWords.{phase_said}
use Rattle.fkv_plane.specs.declared.asks.Ask.{Ask}
use Rattle.fkv_plane.specs.declared.asks.Ask.TheVariants.{Done}
use Rattle.fkv_plane.specs.Passing.{is_done, passed}
use Rattle.fkv_epoch.specs.declared.raising.RaiseAnswer.{RaiseAnswer}
use Rattle.fkv_epoch.specs.declared.raising.RaiseAnswer.TheVariants as raised
use Rattle.fkv_epoch.specs.Arming.{arm_ask, arm_next}
use Rattle.fkv_epoch.specs.Raising.{raise_ask, raise_next, raise_next_ask}
use Rattle.law_refine.specs.Below.fkv_commit.Deferred.{Deferred}
use Rattle.law_refine.specs.Below.fkv_commit.Deferred.TheVariants.{EntersPhase, ShowsReadOnly}
use Rattle.law_refine.specs.Below.fkv_commit.DeferAnswer.{DeferAnswer}
use Rattle.law_refine.specs.Below.fkv_commit.DeferAnswer.TheVariants.{Held, NoSlot, Spent, Armed}
use Rattle.law_refine.specs.Below.fkv_commit.TheDeferring.{Deferring}
use Rattle.law_refine.specs.Below.fkv_commit.TheDeferring.TheVariants as defer
use Rattle.law_refine.specs.Below.fkv_commit.TheEntering.{Entering}
use Rattle.law_refine.specs.Below.fkv_commit.TheEntering.TheVariants as enter
use Rattle.law_refine.specs.Below.fkv_commit.TheSeeking.{Seeking}
use Rattle.law_refine.specs.Below.fkv_commit.TheSeeking.TheVariants as seek
use Rattle.law_refine.specs.Below.fkv_commit.TheStarting.{Starting}
use Rattle.law_refine.specs.Below.fkv_commit.TheStarting.TheVariants as start
use Rattle.law_refine.specs.Below.fkv_commit.Commits.{version_after}
use Rattle.law_refine.specs.Below.fkv_commit.Deferring.{DeferState, defer_begun, deferring_ask, defer_ask, deferring_next, defer_next, deferring_on, defer_on, seek_ledto, raise_ledto, arm_ledto}
use Rattle.law_refine.specs.Below.fkv_commit.Entering as entering
use Rattle.law_refine.specs.Below.fkv_commit.Entering.{EnterState, entering_next}
use Rattle.law_refine.specs.Below.fkv_commit.Seeking as seeking
use Rattle.law_refine.specs.Below.fkv_commit.Seeking.{SeekState, owing_from, points_from, point_taken, with_point, slot_led, seeking_next}
use Rattle.law_refine.specs.Below.fkv_commit.Cuts.{is_cut_of, serial_said}
use Rattle.law_refine.specs.Below.fkv_commit.Starting as starting
use Rattle.law_refine.proofs.Below.fkv_commit.Shown.{last_low}
use Rattle.law_refine.specs.Below.fkv_commit.Starting.{StartState, is_lost_full, phase_found, starting_next}
use Rattle.law_commit.specs.Phases.Staged.{Stage, Rests, Prepares, DefersProgress, Progresses, DefersPending, Pends, Flushes, DefersAt, IsReadOnly, DefersReadOnly, StartsIt, StartAt, EnterAt, SeekAt, stage_phase, stage_version, defer_moves, start_moves, enter_moves, seek_moves}

-- ---- a deferral
module _ (its : Deferred) (before out after : Stage) where
  abbrev At : Stage → Deferring → Type 0
  At stage step = DefersAt its before out after stage step

  abbrev IsBehind : Stage → Type 0
  IsBehind stage = (stage ≡ out) ⊎ (stage ≡ after)

  -- what it tells at its end
  abbrev Tells : Stage → Ask DeferAnswer → Type 0
  Tells stage (Done (Armed epoch)) = IsBehind stage
  Tells stage (Done told) = stage ≡ before
  Tells stage ask = ⊤

  defer_stays : (stage : Stage) (d : DeferState) (step : Deferring) → d.step ≡ step → At stage step → At stage d.step
  defer_stays stage d step at its = subst (λ x. At stage x) (sym at) its

  defer_sought : (stage : Stage) (d : DeferState) (ask : Ask RaiseAnswer) → d.step ≡ defer.Seeks → stage ≡ before → At stage (seek_ledto d ask).step
  unfolding seek_ledto
  defer_sought stage d (Done (raised.HasSlot slot)) at is = is
  defer_sought stage d (Done raised.Spent) at is = is
  defer_sought stage d (Done told) at is = is
  defer_sought stage d ask at is = defer_stays stage d defer.Seeks at is

  defer_raised : (stage : Stage) (other : Deferred) (d : DeferState) (ask : Ask RaiseAnswer) → d.step ≡ defer.Raises other → (other ≡ its) × (stage ≡ before) → At stage (raise_ledto other d ask).step
  unfolding raise_ledto
  defer_raised stage other d (Done (raised.Raised slot epoch)) at is = is
  defer_raised stage other d (Done told) at is = is.1
  defer_raised stage other d ask at is = defer_stays stage d (defer.Raises other) at is

  defer_armed : (stage : Stage) (epoch : ℕ) (d : DeferState) (ask : Ask (Unit {0})) → IsBehind stage → At stage (arm_ledto epoch d ask).step
  unfolding arm_ledto
  defer_armed stage epoch d (Done told) is = is
  defer_armed stage epoch d ask is = is

  -- a reply
  pub defer_goes : (stage : Stage) (d : DeferState) (step : Deferring) (reply : ℕ) → d.step ≡ step → At stage step → At (defer_moves stage out step) (deferring_next d step reply).step
  unfolding deferring_next
  defer_goes stage d (defer.Ended told) reply at is = defer_stays stage d (defer.Ended told) at is
  defer_goes stage d defer.Seeks reply at is = defer_sought stage (record d { raising = raise_next d.raising reply }) (raise_next_ask d.raising reply) at is
  defer_goes stage d defer.Holds reply at is = defer_stays stage d defer.Holds at is
  defer_goes stage d (defer.Raises other) reply at is = defer_raised stage other (record d { raising = raise_next d.raising reply }) (raise_next_ask d.raising reply) at is
  defer_goes stage d (defer.Puts other slot epoch) reply at is = defer_armed out epoch (record d { arming = arm_next d.arming }) (arm_ask (arm_next d.arming)) (inl refl)
  defer_goes stage d (defer.Arms epoch) reply at is = defer_armed stage epoch (record d { arming = arm_next d.arming }) (arm_ask (arm_next d.arming)) is

  raise_tells : (stage : Stage) (ask : Ask RaiseAnswer) → stage ≡ before → Tells stage (passed ask NoSlot)
  unfolding passed
  raise_tells stage (Done told) is = is
  raise_tells stage ask is = tt

  arm_tells : (stage : Stage) (epoch : ℕ) (ask : Ask (Unit {0})) → IsBehind stage → Tells stage (passed ask (Armed epoch))
  unfolding passed
  arm_tells stage epoch (Done told) is = is
  arm_tells stage epoch ask is = tt

  pub defer_tells : (stage : Stage) (d : DeferState) (step : Deferring) → At stage step → Tells stage (deferring_ask d step)
  unfolding deferring_ask
  defer_tells stage d (defer.Ended Held) is = is
  defer_tells stage d (defer.Ended NoSlot) is = is
  defer_tells stage d (defer.Ended Spent) is = is
  defer_tells stage d (defer.Ended (Armed epoch)) is = is
  defer_tells stage d defer.Seeks is = raise_tells stage (raise_ask d.raising) is
  defer_tells stage d defer.Holds is = is
  defer_tells stage d (defer.Raises other) is = raise_tells stage (raise_ask d.raising) is.1
  defer_tells stage d (defer.Puts other slot epoch) is = tt
  defer_tells stage d (defer.Arms epoch) is = arm_tells stage epoch (arm_ask d.arming) is

-- a slot is sought: it is held, or there is none, or the search goes on
abbrev pub SoughtAt : DeferState → Ask DeferAnswer → Type 0
SoughtAt d (Done Held) = d.step ≡ defer.Holds
SoughtAt d (Done told) = ⊤
SoughtAt d ask = d.step ≡ defer.Seeks

passed_sought : (d : DeferState) (ask : Ask RaiseAnswer) → d.step ≡ defer.Seeks → SoughtAt d (passed ask NoSlot)
unfolding passed
passed_sought d (Done told) at = tt
passed_sought d ask at = at

led_sought : (d : DeferState) (ask : Ask RaiseAnswer) → d.step ≡ defer.Seeks → SoughtAt (seek_ledto d ask) (deferring_ask (seek_ledto d ask) (seek_ledto d ask).step)
unfolding seek_ledto deferring_ask
led_sought d (Done (raised.HasSlot slot)) at = refl
led_sought d (Done raised.Spent) at = tt
led_sought d (Done raised.NoSlot) at = tt
led_sought d (Done (raised.Raised slot epoch)) at = tt
led_sought d ask at = subst (λ (x : Deferring). SoughtAt d (deferring_ask d x)) (sym at) (passed_sought d (raise_ask d.raising) at)

step_sought : (d : DeferState) (reply : ℕ) → d.step ≡ defer.Seeks → SoughtAt (deferring_next d defer.Seeks reply) (deferring_ask (deferring_next d defer.Seeks reply) (deferring_next d defer.Seeks reply).step)
unfolding deferring_next
step_sought d reply at = led_sought (record d { raising = raise_next d.raising reply }) (raise_next_ask d.raising reply) at

pub slot_sought : (d : DeferState) (reply : ℕ) → d.step ≡ defer.Seeks → SoughtAt (defer_next d reply) (defer_ask (defer_next d reply))
slot_sought d reply at = subst (λ (x : Deferring). SoughtAt (deferring_next d x reply) (deferring_ask (deferring_next d x reply) (deferring_next d x reply).step)) (sym at) (step_sought d reply at)

-- one that holds its slot goes on
held_goes_on : (d : DeferState) (its : Deferred) (step : Deferring) → step ≡ defer.Holds → (deferring_on d step its).step ≡ defer.Raises its
unfolding deferring_on
held_goes_on d its defer.Holds e = refl
held_goes_on d its step e = cc

pub goes_on : (d : DeferState) (its : Deferred) → d.step ≡ defer.Holds → (defer_on d its).step ≡ defer.Raises its
goes_on d its at = held_goes_on d its d.step at

-- ---- a start
start_stays : (number : Version) (stage : Stage) (s : StartState) (step : Starting) → s.step ≡ step → StartAt number stage s step → StartAt number stage s s.step
start_stays number stage s step at is = subst (λ x. StartAt number stage s x) (sym at) is

start_either : (number : Version) (stage : Stage) (c : Bool) (a b : StartState) → (c ≡ true → StartAt number stage a a.step) → (c ≡ false → StartAt number stage b b.step) → StartAt number stage (if c then a else b) (if c then a else b).step
start_either number stage true a b one other = one refl
start_either number stage false a b one other = other refl

not_last : (class : StoreClass) (version : ℕ) → nat_le (last_of class) version ≡ false → version < last_version
not_last class version e = last_low class version (grind (arith, nat_tests, e))

found_at : (number : Version) (stage : Stage) (s : StartState) → StartAt number stage (phase_found s (Says (stage_phase stage) (stage_version number stage))) (phase_found s (Says (stage_phase stage) (stage_version number stage))).step
found_at number Rests s =
    start_either number Rests (nat_le (last_of s.asked.class) number.0) _ _ (λ spent. tt)
    (λ left. start_either number Rests (is_lost_full s.asked number.0) _ _ (λ full. tt) (λ has. (record { same = refl; fits = not_last s.asked.class number.0 left }, refl, refl)))
found_at number Prepares s = tt
found_at number DefersProgress s = tt
found_at number Progresses s = tt
found_at number DefersPending s = tt
found_at number Pends s = tt
found_at number Flushes s = tt

start_sought : (number : Version) (stage : Stage) (its : Version) (s : StartState) (ask : Ask DeferAnswer) → s.step ≡ start.Seeks its → StartsIt number its → stage ≡ Rests → SoughtAt s.defer ask
    → StartAt number stage (starting.seek_led its s ask) (starting.seek_led its s ask).step
unfolding starting.seek_led
start_sought number stage its s (Done Held) at starts rests sought = (starts, rests, sought)
start_sought number stage its s (Done Spent) at starts rests sought = tt
start_sought number stage its s (Done told) at starts rests sought = tt
start_sought number stage its s ask at starts rests sought = start_stays number stage s (start.Seeks its) at (starts, rests, sought)

start_deferred : (number : Version) (stage : Stage) (its : Version) (first : Addr) (s : StartState) (ask : Ask DeferAnswer) → s.step ≡ start.Defers its first → StartsIt number its
    → DefersAt (EntersPhase InProgress (version_after number)) Prepares DefersProgress Progresses stage s.defer.step → Tells (EntersPhase InProgress (version_after number)) Prepares DefersProgress Progresses stage ask
    → StartAt number stage (starting.defer_led its first s ask) (starting.defer_led its first s ask).step
unfolding starting.defer_led
start_deferred number stage its first s (Done (Armed epoch)) at starts defers tells = (starts, tells)
start_deferred number stage its first s (Done told) at starts defers tells = tt
start_deferred number stage its first s ask at starts defers tells = start_stays number stage s (start.Defers its first) at (starts, defers)

-- the phase that is loaded as a commit starts is the stage's
abbrev pub StartSays : Version → Stage → Starting → ℕ → Type 0
StartSays number stage start.LoadsPhase reply = phase_said reply ≡ Says (stage_phase stage) (stage_version number stage)
StartSays number stage step reply = ⊤

pub start_goes : (number : Version) (stage : Stage) (s : StartState) (step : Starting) (reply : ℕ) → s.step ≡ step → StartAt number stage s step → StartSays number stage step reply
    → StartAt number (start_moves stage s step) (starting_next s step reply) (starting_next s step reply).step
unfolding starting_next
start_goes number stage s (start.Ended told) reply at is says = start_stays number stage s (start.Ended told) at is
start_goes number stage s start.LoadsPhase reply at is says = subst (λ (x : PhaseSaid). StartAt number stage (phase_found s x) (phase_found s x).step) (sym says) (found_at number stage s)
start_goes number stage s (start.Seeks its) reply at is says = start_sought number stage its (record s { defer = defer_next s.defer reply }) (defer_ask (defer_next s.defer reply)) at is.0 is.1 (slot_sought s.defer reply is.2)
start_goes number stage s (start.StoresPrepare its) reply at is says = (is.0, refl, is.2)
start_goes number stage s (start.LoadsTail its) reply at is says =
    let on = goes_on s.defer (EntersPhase InProgress (version_after its)) is.2 in
    (is.0, subst (λ (x : Deferring). DefersAt (EntersPhase InProgress (version_after number)) Prepares DefersProgress Progresses stage x) (sym on) (ap (λ (v : Version). EntersPhase InProgress (version_after v)) is.0.same, is.1))
start_goes number stage s (start.Defers its first) reply at is says =
    let target : Deferred = EntersPhase InProgress (version_after number) in
    let goes = defer_goes target Prepares DefersProgress Progresses stage s.defer s.defer.step reply refl is.1 in
    start_deferred number (defer_moves stage DefersProgress s.defer.step) its first (record s { defer = defer_next s.defer reply }) (defer_ask (defer_next s.defer reply)) at is.0 goes
    (defer_tells target Prepares DefersProgress Progresses (defer_moves stage DefersProgress s.defer.step) (defer_next s.defer reply) (defer_next s.defer reply).step goes)

-- ---- going on to wait-pending
pub record EntersAt (number : Version) (stage : Stage) (s : EnterState) : Type 0 where
  pub same : s.number ≡ number
  pub at : EnterAt number stage s s.step

enter_stays : (number : Version) (stage : Stage) (s : EnterState) (step : Entering) → s.step ≡ step → s.number ≡ number → EnterAt number stage s step → EntersAt number stage s
enter_stays number stage s step at same is = record { same = same; at = subst (λ x. EnterAt number stage s x) (sym at) is }

enter_sought : (number : Version) (stage : Stage) (s : EnterState) (ask : Ask DeferAnswer) → s.step ≡ enter.Seeks → s.number ≡ number → stage ≡ Progresses → SoughtAt s.defer ask → EntersAt number stage (entering.seek_led s ask)
unfolding entering.seek_led
enter_sought number stage s (Done Held) at same is sought =
    let on = goes_on s.defer (EntersPhase WaitPending (version_after s.number)) sought in
    record { same = same; at = (subst (λ (x : Deferring). DefersAt (EntersPhase WaitPending (version_after number)) Progresses DefersPending Pends stage x) (sym on) (ap (λ (v : Version). EntersPhase WaitPending (version_after v)) same, is), λ done. is) }
enter_sought number stage s (Done Spent) at same is sought = record { same = same; at = is }
enter_sought number stage s (Done told) at same is sought = record { same = same; at = is }
enter_sought number stage s ask at same is sought = enter_stays number stage s enter.Seeks at same (is, sought)

enter_deferred : (number : Version) (stage : Stage) (s : EnterState) (ask : Ask DeferAnswer) → s.step ≡ enter.Defers → s.number ≡ number
    → DefersAt (EntersPhase WaitPending (version_after number)) Progresses DefersPending Pends stage s.defer.step → Tells (EntersPhase WaitPending (version_after number)) Progresses DefersPending Pends stage ask
    → defer_ask s.defer ≡ ask → EntersAt number stage (entering.defer_led s ask)
unfolding entering.defer_led
enter_deferred number stage s (Done (Armed epoch)) at same defers tells asks = record { same = same; at = tells }
enter_deferred number stage s (Done told) at same defers tells asks = record { same = same; at = tells }
enter_deferred number stage s ask at same defers tells asks = enter_stays number stage s enter.Defers at same (defers, λ done. let clash : false ≡ true = sym (ap is_done asks) ∙ done in cc)

pub enter_goes : (number : Version) (stage : Stage) (s : EnterState) (step : Entering) (reply : ℕ) → s.step ≡ step → s.number ≡ number → EnterAt number stage s step → EntersAt number (enter_moves stage s step) (entering_next s step reply)
unfolding entering_next
enter_goes number stage s (enter.Ended told) reply at same is = enter_stays number stage s (enter.Ended told) at same is
enter_goes number stage s enter.Seeks reply at same is = enter_sought number stage (record s { defer = defer_next s.defer reply }) (defer_ask (defer_next s.defer reply)) at same is.0 (slot_sought s.defer reply is.1)
enter_goes number stage s enter.Defers reply at same is =
    let target : Deferred = EntersPhase WaitPending (version_after number) in
    let goes = defer_goes target Progresses DefersPending Pends stage s.defer s.defer.step reply refl is.0 in
    enter_deferred number (defer_moves stage DefersPending s.defer.step) (record s { defer = defer_next s.defer reply }) (defer_ask (defer_next s.defer reply)) at same goes
    (defer_tells target Progresses DefersPending Pends (defer_moves stage DefersPending s.defer.step) (defer_next s.defer reply) (defer_next s.defer reply).step goes) refl

-- ---- the search for the points
pub record SeeksAt (number : Version) (stage : Stage) (s : SeekState) : Type 0 where
  pub same : s.number ≡ number
  pub at : SeekAt number stage s s.step

seek_either : (number : Version) (stage : Stage) (c : Bool) (a b : SeekState) → SeeksAt number stage a → SeeksAt number stage b → SeeksAt number stage (if c then a else b)
seek_either number stage true a b one other = one
seek_either number stage false a b one other = other

seek_stays : (number : Version) (stage : Stage) (s : SeekState) (step : Seeking) → s.step ≡ step → s.number ≡ number → SeekAt number stage s step → SeeksAt number stage s
seek_stays number stage s step at same is = record { same = same; at = subst (λ x. SeekAt number stage s x) (sym at) is }

owing_at : (number : Version) (stage : Stage) (s : SeekState) (session : ℕ) → s.number ≡ number → stage ≡ Pends → SeeksAt number stage (owing_from s session)
owing_at number stage s session same is = seek_either number stage (nat_lt session s.sessions) (record s { step = seek.LoadsOwing session }) (record s { defer = defer_begun s.defer; step = seek.SeeksSlot }) (record { same = same; at = is }) (record { same = same; at = (is, refl) })

pub seek_begins : (number : Version) (stage : Stage) (s : SeekState) (its : Version) (floor : List Serial) → its ≡ number → stage ≡ Pends → SeeksAt number stage (seeking.seek_begun s its floor)
seek_begins number stage s its floor same is = owing_at number stage (record s { number = its; floor = floor; points = [] }) 0 same is

points_at : (number : Version) (stage : Stage) (s : SeekState) → s.number ≡ number → stage ≡ Pends → s.defer.step ≡ defer.Holds → SeeksAt number stage (points_from s)
points_at number stage s same is holds = seek_either number stage (nat_lt (length s.points) s.sessions) (record s { step = seek.LoadsCut }) (record s { step = seek.StoresWaitFlush }) (record { same = same; at = (is, holds) }) (record { same = same; at = (is, holds) })

taken_at : (number : Version) (stage : Stage) (s : SeekState) (serial : ℕ) → s.number ≡ number → stage ≡ Pends → s.defer.step ≡ defer.Holds → SeeksAt number stage (point_taken s serial)
taken_at number stage s serial same is holds = points_at number stage (with_point s serial) same is holds

slot_at : (number : Version) (stage : Stage) (s : SeekState) (ask : Ask DeferAnswer) → s.step ≡ seek.SeeksSlot → s.number ≡ number → stage ≡ Pends → SoughtAt s.defer ask → SeeksAt number stage (slot_led s ask)
unfolding slot_led
slot_at number stage s (Done Held) at same is sought = points_at number stage s same is sought
slot_at number stage s (Done Spent) at same is sought = record { same = same; at = tt }
slot_at number stage s (Done told) at same is sought = record { same = same; at = tt }
slot_at number stage s ask at same is sought = seek_stays number stage s seek.SeeksSlot at same (is, sought)

-- what is deferred there stores no phase
read_only_stays : (d : DeferState) (step : Deferring) → d.step ≡ step → DefersReadOnly step → DefersReadOnly d.step
read_only_stays d step at is = subst (λ x. DefersReadOnly x) (sym at) is

read_only_sought : (d : DeferState) (ask : Ask RaiseAnswer) → d.step ≡ defer.Seeks → DefersReadOnly (seek_ledto d ask).step
unfolding seek_ledto
read_only_sought d (Done (raised.HasSlot slot)) at = tt
read_only_sought d (Done raised.Spent) at = tt
read_only_sought d (Done told) at = tt
read_only_sought d ask at = read_only_stays d defer.Seeks at tt

read_only_raised : (its : Deferred) (d : DeferState) (ask : Ask RaiseAnswer) → d.step ≡ defer.Raises its → IsReadOnly its → DefersReadOnly (raise_ledto its d ask).step
unfolding raise_ledto
read_only_raised its d (Done (raised.Raised slot epoch)) at is = is
read_only_raised its d (Done told) at is = tt
read_only_raised its d ask at is = read_only_stays d (defer.Raises its) at is

read_only_armed : (epoch : ℕ) (d : DeferState) (ask : Ask (Unit {0})) → DefersReadOnly (arm_ledto epoch d ask).step
unfolding arm_ledto
read_only_armed epoch d (Done told) = tt
read_only_armed epoch d ask = tt

read_only_goes : (d : DeferState) (step : Deferring) (reply : ℕ) → d.step ≡ step → DefersReadOnly step → DefersReadOnly (deferring_next d step reply).step
unfolding deferring_next
read_only_goes d (defer.Ended told) reply at is = read_only_stays d (defer.Ended told) at tt
read_only_goes d defer.Seeks reply at is = read_only_sought (record d { raising = raise_next d.raising reply }) (raise_next_ask d.raising reply) at
read_only_goes d defer.Holds reply at is = read_only_stays d defer.Holds at tt
read_only_goes d (defer.Raises its) reply at is = read_only_raised its (record d { raising = raise_next d.raising reply }) (raise_next_ask d.raising reply) at is
read_only_goes d (defer.Puts its slot epoch) reply at is = read_only_armed epoch (record d { arming = arm_next d.arming }) (arm_ask (arm_next d.arming))
read_only_goes d (defer.Arms epoch) reply at is = read_only_armed epoch (record d { arming = arm_next d.arming }) (arm_ask (arm_next d.arming))

seek_deferred : (number : Version) (stage : Stage) (end : Addr) (s : SeekState) (ask : Ask DeferAnswer) → s.step ≡ seek.Defers end → s.number ≡ number → stage ≡ Flushes → DefersReadOnly s.defer.step
    → SeeksAt number stage (seeking.defer_led end s ask)
unfolding seeking.defer_led
seek_deferred number stage end s (Done (Armed epoch)) at same is defers = record { same = same; at = tt }
seek_deferred number stage end s (Done told) at same is defers = record { same = same; at = tt }
seek_deferred number stage end s ask at same is defers = seek_stays number stage s (seek.Defers end) at same (is, defers)

pub seek_goes : (number : Version) (stage : Stage) (s : SeekState) (step : Seeking) (reply : ℕ) → s.step ≡ step → s.number ≡ number → SeekAt number stage s step → SeeksAt number (seek_moves stage step) (seeking_next s step reply)
unfolding seeking_next
seek_goes number stage s (seek.Ended told) reply at same is = seek_stays number stage s (seek.Ended told) at same tt
seek_goes number stage s (seek.LoadsOwing session) reply at same is = seek_either number stage (reply == 0) _ _ (owing_at number stage s (session + 1) same is) (record { same = same; at = tt })
seek_goes number stage s seek.SeeksSlot reply at same is = slot_at number stage (record s { defer = defer_next s.defer reply }) (defer_ask (defer_next s.defer reply)) at same is.0 (slot_sought s.defer reply is.1)
seek_goes number stage s seek.LoadsCut reply at same is =
    seek_either number stage (is_cut_of s.number.0 reply) (point_taken s (serial_said reply)) (record s { step = seek.LoadsOther reply }) (taken_at number stage s (serial_said reply) same is.0 is.1) (record { same = same; at = is })
seek_goes number stage s (seek.LoadsOther first) reply at same is =
    seek_either number stage (not (is_cut_of (s.number.0 + 1) reply)) (point_taken s (max (serial_said first) (serial_said reply))) (record s { step = seek.LoadsAgain }) (taken_at number stage s (max (serial_said first) (serial_said reply)) same is.0 is.1) (record { same = same; at = is })
seek_goes number stage s seek.LoadsAgain reply at same is = taken_at number stage s (serial_said reply) same is.0 is.1
seek_goes number stage s seek.StoresWaitFlush reply at same is = record { same = same; at = (refl, is.1) }
seek_goes number stage s seek.LoadsTail reply at same is = record { same = same; at = is }
seek_goes number stage s (seek.RaisesReadOnly end) reply at same is = record { same = same; at = (is.0, subst (λ (x : Deferring). DefersReadOnly x) (sym (goes_on s.defer (ShowsReadOnly end) is.1)) tt) }
seek_goes number stage s (seek.Defers end) reply at same is = seek_deferred number stage end (record s { defer = defer_next s.defer reply }) (defer_ask (defer_next s.defer reply)) at same is.0 (read_only_goes s.defer s.defer.step reply refl is.1)
