-- A turn is its start and its pieces.
use Rattle.std.proofs.Common.{◌+◌, Bool, sym, subst}
use Rattle.fkv_table.specs.declared.happenings.Happening.TheVariants.{Turns}
use Rattle.fkv_table.specs.Planes.{opening_of}
use Rattle.fkv_table.specs.Turns.{IsCounted}
use Rattle.fkv_table.proofs.ByDevice.{counts_more, counts_none}
use Rattle.fkv_table.proofs.KeeperCalled.{kept_on, leaves_after}
use Rattle.fkv_table.proofs.KeeperMoments.{moments_on, moments_started, moments_stepped}
use Rattle.fkv_table.proofs.keepers.Keeper.make_turn.Goals as goal

pub pieces-init : goal.pieces-init
pieces-init g c =
    let d = g.D.Device in
    let began = c.start_turn.ensures in
    let after = leaves_after (opening_of d.seen) _ _ _ _ _ began.device c.requires.after in
    record {
      at_work = began.at_work;
      kept = began.kept;
      honest = c.requires.honest;
      after = after;
      moments = moments_started (opening_of d.seen) d.moment d.left_since _ c.args.d.now Turns _ _ (d.seen c.args.d.now) (d.may_leave c.args.d.now) began.kept after
          (λ image left. g.met.D.Device.only_now c.args.d.now image c.requires.honest left);
      counted = (0, subst (λ (by : Bool). IsCounted 0 by (d.failed c.args.d.now) (d.failed c.args.d.now) (d.refuses c.args.d.now) (d.refuses c.args.d.now)) (sym began.by_device) (counts_none (d.failed c.args.d.now) (d.refuses c.args.d.now)));
    }

pub device_step-requires-clause-after : goal.device_step-requires-clause-after
device_step-requires-clause-after g c = leaves_after (opening_of g.D.Device.seen) _ _ _ _ _ c.drive.ensures.device c.pieces.invariant.after

pub pieces-preserved : goal.pieces-preserved
pieces-preserved g c =
    let d = g.D.Device in
    let inv = c.pieces.invariant in
    let went = c.drive.ensures.went in
    let did = c.device_step.ensures in
    let kept = kept_on (opening_of d.seen) Turns _ _ _ inv.kept went in
    let before = subst (λ (by : Bool). IsCounted inv.counted.0 by (d.failed c.args.d.now) (d.failed c.pieces.d) (d.refuses c.args.d.now) (d.refuses c.pieces.d)) (sym c.in-Device.ensures.by_device) inv.counted.1 in
    record {
      at_work = did.at_work;
      kept = kept_on (opening_of d.seen) Turns _ _ _ kept did.went;
      honest = did.honest;
      after = did.after;
      moments = moments_on (opening_of d.seen) d.moment d.left_since _ _ _ _ Turns _ _ _ kept did.went (moments_stepped (opening_of d.seen) d.moment d.left_since _ _ _ _ _ _ went inv.moments) did.moments;
      counted = (inv.counted.0 + 1, counts_more inv.counted.0 1 _ _ _ _ _ _ _ before did.counted);
    }

pub returns-in-Over-clause-ready : goal.returns-in-Over-clause-ready
returns-in-Over-clause-ready g c =
    let at = c.drive.ensures.at_work in
    record { opened = at.opened; same_table = at.same_table; keeping = at.keeping; idle = c.in-Over.ensures.told.0 }

pub returns-in-Over-clause-kept : goal.returns-in-Over-clause-kept
returns-in-Over-clause-kept g c = kept_on (opening_of g.D.Device.seen) Turns _ _ _ c.pieces.invariant.kept c.drive.ensures.went

pub returns-in-Over-clause-after : goal.returns-in-Over-clause-after
returns-in-Over-clause-after g c = leaves_after (opening_of g.D.Device.seen) _ _ _ _ _ c.drive.ensures.device c.pieces.invariant.after

pub returns-in-Over-clause-moments : goal.returns-in-Over-clause-moments
returns-in-Over-clause-moments g c =
    moments_stepped (opening_of g.D.Device.seen) g.D.Device.moment g.D.Device.left_since _ _ _ _ _ _ c.drive.ensures.went c.pieces.invariant.moments

pub returns-in-Over-clause-counted : goal.returns-in-Over-clause-counted
returns-in-Over-clause-counted g c =
    let d = g.D.Device in
    let inv = c.pieces.invariant in (
      inv.counted.0,
      subst (λ (by : Bool). IsCounted inv.counted.0 by (d.failed c.args.d.now) (d.failed c.pieces.d) (d.refuses c.args.d.now) (d.refuses c.pieces.d)) (sym c.in-Over.ensures.by_device) inv.counted.1,
    )
