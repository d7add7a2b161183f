-- The worked life is one of a new store, so the order law speaks of it.
use Rattle.std.proofs.Common.{◌≡◌, ℕ, ◌≤◌, List, [], ◌∷◌, length, refl, arith}
use Rattle.law_opening.specs.Below.fkv_creating.Created.{IsCreated, IsNewStore, created_bytes}
use Rattle.law_opening.specs.Below.fkv_core.Openings.{IsOpeningWorld}
use Rattle.law_commit.specs.Below.fkv_keeper.Keeping.{KeeperState}
use Rattle.fkv_map.specs.Fits.{OpFits}
use Rattle.fkv_map.specs.declared.operations.Op.TheVariants.{Read}
use Rattle.law_opening.specs.Below.fkv_opening.TheOpened.{Opened}
use Rattle.law_commit.specs.Below.fkv_session.Sessions.{SessionState}
use Rattle.law_commit.specs.Below.fkv_world.World.{Now}
use Rattle.law_commit.specs.WorkedRuns.{resting_keeper}
use Rattle.law_log.specs.Worked.{adds_5, gives_70}
use Rattle.law_commit.specs.Below.law_refine.Events.Worked.{worked_events}
use Rattle.law_order.specs.OneHistory.EachLife.{InEachLife, IsLife, Life}
use Rattle.law_order.specs.OneHistory.NewLives.{AreCreated, BeginsAsWorked, HoldNew, IsOrderedLife, WorkedLife}
use Rattle.law_order.specs.Rules.InTime.{ReadsInTime}
use Rattle.law_order.specs.Rules.Ordered.{HasLegalHistory, IsGuarded, OrdersItsCalls, ReadsFreshly, RunsActionsOnce}
use Rattle.law_order.specs.Served.Fits.{CallsFit}
use Rattle.law_order.specs.Tickets.Few.{HasFewCalls}
use Rattle.law_order.proofs.OfOneHistory.NewLives.{AreNew, HaveWorlds}
use Rattle.law_order.proofs.OfOneHistory.WorkedEffects.{worked_effects}
use Rattle.law_order.proofs.OfOneHistory.WorkedShape.{places, shape}
use Rattle.law_order.proofs.OfOneHistory.WorkedWorld.{world_opens, worked_now, swept_keeper}

-- what the order law says of each life
pub record OrderLaw : Type 0 where
  pub legal : InEachLife HasLegalHistory
  pub ordered : InEachLife OrdersItsCalls
  pub fresh : InEachLife ReadsFreshly
  pub in_time : InEachLife ReadsInTime
  pub guarded : InEachLife IsGuarded
  pub once : InEachLife RunsActionsOnce

pub ordered_life : OrderLaw → (its : Life) → IsLife its → IsOrderedLife its
ordered_life law its is = record {
  legal = law.legal its is;
  ordered = law.ordered its is;
  fresh = law.fresh its is;
  in_time = law.in_time its is;
  guarded = law.guarded its is;
  once = law.once its is;
}

-- ---- its events
reads_fit : OpFits (Read (record { 0 = 5 }))
reads_fit = omega arith

pub adds_fit : OpFits adds_5
adds_fit = (omega arith, omega arith)

pub gives_fit : OpFits gives_70
gives_fit = (omega arith, omega arith)

fits : CallsFit worked_events
fits = (tt, (tt, (tt, (tt, (tt, (tt, (reads_fit, (tt, (tt, (tt, (adds_fit, (tt, (tt, (tt, (tt, (tt, (tt, (tt, (tt, (gives_fit, tt))))))))))))))))))))

few : HasFewCalls worked_events
few = omega arith

-- ---- the life
some_session : (sessions : List SessionState) → 1 ≤ length sessions → SessionState
some_session [] some = absurd (omega (arith, some))
some_session (s ∷ sessions) some = s

pub has_session : (o : Opened) (n : Now) → IsNewStore shape o → IsOpeningWorld o n → SessionState
has_session o n new its = record (some_session n.sessions (omega (arith, its.seats, o.shape.limits.some_session))) { floor = o.begin }

pub has_floor : (o : Opened) (n : Now) (new : IsNewStore shape o) (its : IsOpeningWorld o n) → (has_session o n new its).floor ≡ o.begin
unfolding has_session
has_floor o n new its = refl

as_worked : (its : Life) → IsLife its → IsCreated shape its.bytes → IsNewStore shape its.opened → (k : KeeperState) (s : SessionState) → its.world ≡ worked_now (resting_keeper k) s s → BeginsAsWorked its
unfolding worked_now
as_worked its life made new k s same = record {
  shape = shape;
  is_new = record { life = life; created = made; store = new };
  places = places;
  keeper = resting_keeper k;
  one = s;
  other = s;
  first = same;
  past = same;
}

pub worked_life : HaveWorlds → AreCreated → AreNew → HoldNew → OrderLaw → WorkedLife
worked_life worlds created opened holds law =
    let bytes : List ℕ = created_bytes [] shape in
    let made : IsCreated shape bytes = created [] shape in
    let o : Opened = (opened shape).0 in
    let new : IsNewStore shape o = (opened shape).1 in
    let n : Now = (worlds o).0 in
    let opens : IsOpeningWorld o n = (worlds o).1 in
    let s : SessionState = has_session o n new opens in
    let keeper : KeeperState = resting_keeper (swept_keeper n.keeper) in
    let its : Life = record { bytes = bytes; opened = o; world = worked_now keeper s s; events = worked_events } in
    let life : IsLife its = record { store = (holds bytes shape o made).1 new; begins = world_opens o new n s s (has_floor o n new opens) (has_floor o n new opens) opens; fits = fits; few = few } in
    record {
      its = its;
      begins = as_worked its life made new (swept_keeper n.keeper) s refl;
      events = refl;
      effects = worked_effects keeper s s bytes;
      ordered = ordered_life law its life;
    }
