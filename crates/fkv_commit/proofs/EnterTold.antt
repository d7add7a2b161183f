-- What the step to wait-pending tells.
use Rattle.std.proofs.Common.{◌≡◌, ℕ, refl, subst, List, false}
use Rattle.std.specs.Prelude.{[]}
use Rattle.fkv_base.specs.declared.numbers.Version.{Version}
use Rattle.fkv_base.specs.declared.phases.Phase.TheVariants.{WaitPending}
use Rattle.fkv_plane.specs.declared.asks.Ask.{Ask}
use Rattle.fkv_plane.specs.declared.asks.Ask.TheVariants.{Done}
use Rattle.fkv_plane.specs.Passing.{is_done}
use Rattle.fkv_commit.specs.declared.deferring.Deferred.TheVariants.{EntersPhase}
use Rattle.fkv_commit.specs.declared.deferring.DeferAnswer.{DeferAnswer}
use Rattle.fkv_commit.specs.declared.entering.Entering.{Entering}
use Rattle.fkv_commit.specs.declared.entering.Entering.TheVariants.{Ended, Seeks, Defers}
use Rattle.fkv_commit.specs.declared.entering.EnterAnswer.TheVariants.{Idle}
use Rattle.fkv_commit.specs.Commits.{version_after}
use Rattle.fkv_commit.specs.Deferring.{defer_ask, defer_next}
use Rattle.fkv_commit.specs.Entering.{EnterState, enter_begun, entering_ask, enter_ask, entering_next, enter_next, seek_led, defer_led}
use Rattle.fkv_commit.specs.Exchanges.{Exchange, exchanged, AreIdle, AreSlotsBehind, HoldsSlot}
use Rattle.fkv_commit.specs.Phases.{IsEnterEnd, EntersEndRight, entered, enter_told}
use Rattle.fkv_commit.proofs.Replies.{by_replies, passed_exchanged}
use Rattle.fkv_commit.proofs.DeferTold.{IsSeeking, SeekOutcome, SeeksOn, HasHeld, HasNone, IsSpent, seek_step, begins_seeking, IsDeferring, DeferOutcome, DefersOn, HasArmed, defer_step, goes_on_deferring, seek_behind, defer_behind}

record IsAtDeferral (s : EnterState) (number : Version) (told : List Exchange) : Type 0 where
  pub before : List Exchange
  pub slot : ℕ
  pub held : HoldsSlot slot before
  pub deferring : IsDeferring (EntersPhase WaitPending (version_after number)) slot before s.defer told

abbrev KnowsAt : Version → EnterState → Entering → List Exchange → Type 0
KnowsAt number s (Ended its) told = IsEnterEnd number its told
KnowsAt number s Seeks told = IsSeeking s.defer told × AreIdle told
KnowsAt number s Defers told = IsAtDeferral s number told

abbrev Knows : Version → EnterState → List Exchange → Type 0
Knows number s told = (s.number ≡ number) × KnowsAt number s s.step told

seeks_on : (s : EnterState) (ask : Ask DeferAnswer) → is_done ask ≡ false → seek_led s ask ≡ s
unfolding seek_led
seeks_on s (Done its) e = cc
seeks_on s ask e = refl

defers_on : (s : EnterState) (ask : Ask DeferAnswer) → is_done ask ≡ false → defer_led s ask ≡ s
unfolding defer_led
defers_on s (Done its) e = cc
defers_on s ask e = refl

sought : (number : Version) (s : EnterState) (told : List Exchange) → s.number ≡ number → s.step ≡ Seeks → SeekOutcome s.defer told → Knows number (seek_led s (defer_ask s.defer)) told
unfolding seek_led
sought number s told same at (SeeksOn e seeking idle) = rw (seeks_on s (defer_ask s.defer) e, at) (same, (seeking, idle))
sought number s told same at (HasHeld slot e holding held) =
    rw e (same, record { before = told; slot = slot; held = held; deferring = rw same (goes_on_deferring (EntersPhase WaitPending (version_after number)) slot told s.defer holding) })
sought number s told same at (HasNone e taken idle) = rw e (same, (idle, taken))
sought number s told same at (IsSpent e last idle) = rw e (same, (idle, last))

deferred : (number : Version) (slot : ℕ) (before : List Exchange) (s : EnterState) (told : List Exchange) → s.number ≡ number → s.step ≡ Defers → HoldsSlot slot before
    → DeferOutcome (EntersPhase WaitPending (version_after number)) slot before s.defer told → Knows number (defer_led s (defer_ask s.defer)) told
unfolding defer_led
deferred number slot before s told same at held (DefersOn e deferring) = rw (defers_on s (defer_ask s.defer) e, at) (same, record { before = before; slot = slot; held = held; deferring = deferring })
deferred number slot before s told same at held (HasArmed epoch e its) = rw e (same, record { slot = slot; epoch = epoch; before = before; held = held; deferred = its })

entering_keeps : (number : Version) (s : EnterState) (step : Entering) (told : List Exchange) (reply : ℕ) → s.number ≡ number → s.step ≡ step → KnowsAt number s step told
    → Knows number (entering_next s step reply) (exchanged (entering_ask s step) reply told)
unfolding entering_next entering_ask exchanged
entering_keeps number s (Ended its) told reply same at knows = (same, rw at knows)
entering_keeps number s Seeks told reply same at knows = rw (passed_exchanged (defer_ask s.defer) Idle reply told)
    (sought number (record s { defer = defer_next s.defer reply }) (exchanged (defer_ask s.defer) reply told) same at (seek_step s.defer told reply knows.0 knows.1))
entering_keeps number s Defers told reply same at knows = rw (passed_exchanged (defer_ask s.defer) Idle reply told)
    (deferred number knows.slot knows.before (record s { defer = defer_next s.defer reply }) (exchanged (defer_ask s.defer) reply told) same at knows.held
    (defer_step (EntersPhase WaitPending (version_after number)) knows.slot knows.before s.defer told reply knows.deferring))

keeps : (number : Version) (s : EnterState) (told : List Exchange) (reply : ℕ) → Knows number s told → Knows number (enter_next s reply) (exchanged (enter_ask s) reply told)
keeps number s told reply knows = entering_keeps number s s.step told reply knows.0 refl knows.1

pub enters_end : EntersEndRight
enters_end opening number replies its ended =
    let s : EnterState = entered opening number replies in
    let knows : Knows number s (enter_told opening number replies) =
    by_replies enter_ask enter_next (Knows number) (enter_begun opening number) (refl, (begins_seeking opening.defer [], tt)) (keeps number) replies in
    subst (λ step. KnowsAt number s step (enter_told opening number replies)) ended knows.1

behind_at : (number : Version) (s : EnterState) (step : Entering) (told : List Exchange) (reply : ℕ) → KnowsAt number s step told → AreSlotsBehind told → AreSlotsBehind (exchanged (entering_ask s step) reply told)
unfolding entering_ask exchanged
behind_at number s (Ended its) told reply knows behind = behind
behind_at number s Seeks told reply knows behind = rw (passed_exchanged (defer_ask s.defer) Idle reply told) (seek_behind s.defer told reply knows.0 behind)
behind_at number s Defers told reply knows behind = rw (passed_exchanged (defer_ask s.defer) Idle reply told)
    (defer_behind (EntersPhase WaitPending (version_after number)) knows.slot knows.before s.defer told reply knows.deferring behind)

abbrev Both : Version → EnterState → List Exchange → Type 0
Both number s told = Knows number s told × AreSlotsBehind told

pub enters_behind : (opening : EnterState) (number : Version) (replies : List ℕ) → AreSlotsBehind (enter_told opening number replies)
enters_behind opening number replies =
    let s : EnterState = entered opening number replies in
    let both : Both number s (enter_told opening number replies) =
    by_replies enter_ask enter_next (Both number) (enter_begun opening number) ((refl, (begins_seeking opening.defer [], tt)), tt)
    (λ s told reply knows. (keeps number s told reply knows.0, behind_at number s s.step told reply knows.0.1 knows.1)) replies in
    both.1
