-- The life with two commits is one of a new store, so the order law speaks of it.
use Rattle.std.proofs.Common.{ℕ, zero, suc, List, [], refl, arith}
use Rattle.fkv_base.specs.declared.commits.CommitKind.TheVariants.{Full, Log}
use Rattle.law_opening.specs.Below.fkv_core.Openings.{IsOpeningWorld}
use Rattle.law_opening.specs.Below.fkv_creating.Created.{IsCreated, IsNewStore, created_bytes}
use Rattle.fkv_map.specs.declared.operations.Call.{Call}
use Rattle.fkv_map.specs.declared.operations.Call.TheVariants as call
use Rattle.law_opening.specs.Below.fkv_opening.TheOpened.{Opened}
use Rattle.law_commit.specs.Below.fkv_session.Sessions.{SessionState}
use Rattle.law_commit.specs.Below.fkv_world.World.{Event, Commits, Turns, Now}
use Rattle.law_log.specs.Worked.{adds_5, gives_70}
use Rattle.law_order.specs.OneHistory.Committed.{CommittedLife, CrashedLife, begun_events, both_refresh, committed_events, crashed_events, full_events, keeper_call, session_call}
use Rattle.law_order.specs.OneHistory.EachLife.{IsLife, Life}
use Rattle.law_order.specs.OneHistory.NewLives.{AreCreated, HoldNew}
use Rattle.law_order.specs.Served.Fits.{CallFits, CallsFit, EventFits}
use Rattle.law_order.specs.Tickets.Few.{HasFewCalls}
use Rattle.law_order.proofs.OfOneHistory.CommittedRun.{IsComputed, computed}
use Rattle.law_order.proofs.OfOneHistory.CommittedWorld.{committed_opens, new_keeper}
use Rattle.law_order.proofs.OfOneHistory.NewLives.{AreNew, HaveWorlds}
use Rattle.law_order.proofs.OfOneHistory.WorkedLives.{OrderLaw, adds_fit, gives_fit, has_floor, has_session, ordered_life}
use Rattle.law_order.proofs.OfOneHistory.WorkedShape.{shape}
use Rattle.law_order.proofs.OfOneHistory.WorkedWorld.{worked_now}

-- ---- its calls are of numbers below 2^64, and few
record Fit (events : List Event) : Type 0 where
  all : CallsFit events

none_fit : Fit []
none_fit = record { all = tt }

session_fits : {before : List Event} (session : ℕ) (its : Call) (steps : ℕ) → CallFits its → Fit before → Fit (session_call session its steps before)
session_fits session its zero fits so_far = record { all = (fits, so_far.all) }
session_fits session its (suc steps) fits so_far = record { all = (tt, (session_fits session its steps fits so_far).all) }

keeper_fits : {before : List Event} (its : Event) (steps : ℕ) → EventFits its → Fit before → Fit (keeper_call its steps before)
keeper_fits its zero fits so_far = record { all = (fits, so_far.all) }
keeper_fits its (suc steps) fits so_far = record { all = (tt, (keeper_fits its steps fits so_far).all) }

refreshes_fit : {before : List Event} (steps : ℕ) → Fit before → Fit (both_refresh steps before)
refreshes_fit steps so_far = session_fits 1 call.Refresh steps tt (session_fits 0 call.Refresh steps tt so_far)

begun_fit : Fit begun_events
begun_fit = keeper_fits Turns 29 tt (refreshes_fit 5 (keeper_fits (Commits Full) 8 tt (session_fits 0 (call.Op gives_70) 8 gives_fit none_fit)))

full_fit : Fit full_events
full_fit =
    refreshes_fit 5 (keeper_fits Turns 44 tt (refreshes_fit 5 (keeper_fits Turns 32 tt (keeper_fits Turns 32 tt (session_fits 1 (call.Op adds_5) 14 adds_fit (refreshes_fit 7 begun_fit))))))

crashed_fit : Fit crashed_events
crashed_fit = keeper_fits (Commits Log) 8 tt full_fit

committed_fit : Fit committed_events
committed_fit = refreshes_fit 5 (keeper_fits Turns 36 tt (refreshes_fit 5 (keeper_fits Turns 22 tt (keeper_fits Turns 36 tt (refreshes_fit 7 (keeper_fits Turns 29 tt (refreshes_fit 5 crashed_fit)))))))

few : HasFewCalls committed_events
few = omega arith

few_then : HasFewCalls crashed_events
few_then = omega arith

-- ---- the life
pub committed_life : HaveWorlds → AreCreated → AreNew → HoldNew → OrderLaw → CommittedLife
committed_life worlds created opened holds law =
    let bytes : List ℕ = created_bytes [] shape in
    let made : IsCreated shape bytes = created [] shape in
    let o : Opened = (opened shape).0 in
    let new : IsNewStore shape o = (opened shape).1 in
    let n : Now = (worlds o).0 in
    let opens : IsOpeningWorld o n = (worlds o).1 in
    let s : SessionState = has_session o n new opens in
    let its : Life = record { bytes = bytes; opened = o; world = worked_now (new_keeper n.keeper) s s; events = committed_events } in
    let life : IsLife its = record { store = (holds bytes shape o made).1 new; begins = committed_opens o new n s s (has_floor o n new opens) (has_floor o n new opens) opens; fits = committed_fit.all; few = few } in
    let is : IsComputed n.keeper s s bytes = computed n.keeper s s bytes in
    record {
      its = its;
      shape = shape;
      is_new = record { life = life; created = made; store = new };
      events = refl;
      full = is.full;
      log = is.log;
      effects = is.effects;
      ordered = ordered_life law its life;
    }

-- and the one that a crash ends before the log commit is written
pub crashed_life : HaveWorlds → AreCreated → AreNew → HoldNew → CrashedLife
crashed_life worlds created opened holds =
    let bytes : List ℕ = created_bytes [] shape in
    let made : IsCreated shape bytes = created [] shape in
    let o : Opened = (opened shape).0 in
    let new : IsNewStore shape o = (opened shape).1 in
    let n : Now = (worlds o).0 in
    let opens : IsOpeningWorld o n = (worlds o).1 in
    let s : SessionState = has_session o n new opens in
    let its : Life = record { bytes = bytes; opened = o; world = worked_now (new_keeper n.keeper) s s; events = crashed_events } in
    let life : IsLife its = record { store = (holds bytes shape o made).1 new; begins = committed_opens o new n s s (has_floor o n new opens) (has_floor o n new opens) opens; fits = crashed_fit.all; few = few_then } in
    let is : IsComputed n.keeper s s bytes = computed n.keeper s s bytes in
    record { its = its; shape = shape; is_new = record { life = life; created = made; store = new }; events = refl; begun = is.begun; effects = is.effects_then }
