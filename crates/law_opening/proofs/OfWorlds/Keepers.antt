-- The keeper of a store that opens: nothing is in hand, and its machines rest.
use Rattle.std.proofs.Common.{[], None, true, false, refl}
use Rattle.fkv_base.specs.declared.commits.CommitKind.TheVariants.{Full}
use Rattle.law_refine.specs.Below.fkv_commit.Deferring.{DeferState}
use Rattle.law_refine.specs.Below.fkv_commit.DeferAnswer.TheVariants.{NoSlot}
use Rattle.law_refine.specs.Below.fkv_commit.TheDeferring.TheVariants as defer
use Rattle.law_refine.specs.Below.fkv_commit.EnterAnswer.TheVariants as enter
use Rattle.law_refine.specs.Below.fkv_commit.TheEntering.TheVariants as entering
use Rattle.law_refine.specs.Below.fkv_commit.FinishAnswer.TheVariants as finish
use Rattle.law_refine.specs.Below.fkv_commit.TheFinishing.TheVariants as finishing
use Rattle.law_refine.specs.Below.fkv_commit.SeekAnswer.TheVariants as seek
use Rattle.law_refine.specs.Below.fkv_commit.TheSeeking.TheVariants as seeking
use Rattle.law_refine.specs.Below.fkv_commit.StartAnswer.TheVariants as start
use Rattle.law_refine.specs.Below.fkv_commit.TheStarting.TheVariants as starting
use Rattle.law_refine.specs.Below.fkv_commit.WaitAnswer.TheVariants as wait
use Rattle.law_refine.specs.Below.fkv_commit.TheWaiting.TheVariants as waiting
use Rattle.fkv_epoch.specs.declared.arming.Arming.TheVariants as arm
use Rattle.fkv_epoch.specs.declared.claiming.Claiming.TheVariants as claim
use Rattle.fkv_epoch.specs.declared.raising.Raising.TheVariants as raise
use Rattle.fkv_epoch.specs.declared.scanning.Scanning.TheVariants as scan
use Rattle.law_refine.specs.Below.fkv_flush.TheFlushing.TheVariants as flush
use Rattle.law_refine.specs.Below.fkv_flush.TheServing.TheVariants as serve
use Rattle.law_refine.specs.Below.fkv_keeper.Keeping.{KeeperState, no_writes}
use Rattle.law_refine.specs.Below.fkv_keeper.NewKeepers.{IsNewKeeper}
use Rattle.law_refine.specs.Below.fkv_keeper.KeeperTold.TheVariants.{Turned}
use Rattle.law_refine.specs.Below.fkv_keeper.TheKeeping.TheVariants.{Ended}
use Rattle.law_refine.specs.Below.fkv_log.Moving.{move_at_rest}
use Rattle.law_refine.specs.Below.fkv_log.Shifting.{shift_at}
use Rattle.law_refine.specs.Below.fkv_log.Turning.{turn_at}
use Rattle.law_refine.specs.Below.fkv_log.TheShifting.TheVariants as shift
use Rattle.law_refine.specs.Below.fkv_log.TheTurning.TheVariants as turn
use Rattle.law_refine.specs.Below.fkv_maintain.Maintaining.{MaintainState}
use Rattle.law_refine.specs.Below.fkv_maintain.TheMaintaining.TheVariants.{Through}
use Rattle.law_paper.specs.Below.fkv_opening.TheOpened.{Opened}
use Rattle.fkv_core.specs.Openings.{newest_commit}
use Rattle.fkv_sweep.specs.Sweeping.{sweep_begun}
use Rattle.law_opening.proofs.OfWorlds.Places.{places_fit, places_of}

defer_rested : DeferState
defer_rested = record { raising = raise.AtRest; arming = arm.AtRest; step = defer.Ended NoSlot }

maintain_rested : Opened → MaintainState
maintain_rested o = record {
  scanning = scan.AtRest;
  claiming = claim.AtRest;
  bytes = [];
  flushing = flush.AtRest;
  shift = shift_at shift.AtRest move_at_rest;
  turn = turn_at turn.AtRest move_at_rest;
  begin = o.begin;
  serving = serve.AtRest;
  is_drain_full = false;
  step = Through;
}

pub keeper_of : Opened → KeeperState
keeper_of o = record {
  maintain = maintain_rested o;
  start = record { asked = record { class = o.shape.class; kind = Full; lost = 0; checkpoint = record { 0 = 0 } }; defer = defer_rested; step = starting.Ended start.Idle };
  enter = record { number = record { 0 = 1 }; defer = defer_rested; step = entering.Ended enter.Idle };
  copy = None;
  seek = record { sessions = o.shape.sessions; number = record { 0 = 1 }; floor = []; points = []; defer = defer_rested; step = seeking.Ended seek.Idle };
  wait = record { end = record { 0 = 0 }; epoch = 0; step = waiting.Ended wait.Idle };
  writes = no_writes;
  finish = record { sessions = o.shape.sessions; number = record { 0 = 1 }; step = finishing.Ended finish.Idle };
  sweep = sweep_begun o.shape (places_of o.shape) o.begin o.begin;
  commit = None;
  has_entered = false;
  has_points = false;
  is_granted = true;
  is_broken = false;
  is_drain_full = false;
  has_finished = false;
  rests = false;
  used = (newest_commit o).checkpoint;
  last = newest_commit o;
  lost = o.lost.items;
  step = Ended (Turned false false);
}

pub keeper_opens : (o : Opened) → IsNewKeeper o.shape (newest_commit o) o.lost.items (record { shape = o.shape; places = places_of o.shape; state = keeper_of o })
unfolding keeper_of maintain_rested
keeper_opens o = record {
  its_shape = refl;
  its_places = places_fit o.shape;
  newest = refl;
  serves_from = refl;
  used = refl;
  class = refl;
  in_hand = refl;
  its_sessions = refl;
  sought = refl;
  no_call = refl;
  turns_rest = refl;
  no_commit = refl;
  no_copy = refl;
  not_entered = refl;
  no_points = refl;
  none_finished = refl;
  none_left_out = refl;
  works = refl;
  granted = refl;
  none_rest = refl;
  none_flushed = refl;
  none_swept = refl;
}
