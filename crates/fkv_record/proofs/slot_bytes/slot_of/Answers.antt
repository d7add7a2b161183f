use Rattle.std.proofs.Common.{refl, arith}
use Rattle.fkv_record.proofs.SlotApart.{parted_at, slot_read, slot_closed, slot_pointless}
use Rattle.fkv_record.proofs.PointPlaces.{points_first}
use Rattle.fkv_record.proofs.slot_bytes.slot_of.Goals as goal

pub returns-then-front-ne-OPEN : goal.returns-then-front-ne-OPEN
returns-then-front-ne-OPEN c =
    let parts = parted_at c.args.numbers.now c.split_at.result.0.now c.split_at.result.1.now c.split_at.ensures.front_len c.split_at.ensures.front c.split_at.ensures.back in
    slot_closed c.args.numbers.now c.split_at.result.0.now c.split_at.result.1.now parts c.if-front-ne-OPEN.true

pub returns-in_err-points : goal.returns-in_err-points
returns-in_err-points c =
    let parts = parted_at c.args.numbers.now c.split_at.result.0.now c.split_at.result.1.now c.split_at.ensures.front_len c.split_at.ensures.front c.split_at.ensures.back in
    rw c.from_residual.ensures (slot_pointless c.args.numbers.now c.split_at.result.0.now c.split_at.result.1.now parts (points_first _ _ _ (omega (arith, c.split_at.ensures.back_len)) c.in_err-points.ensures))

pub returns : goal.returns
returns c =
    let parts = parted_at c.args.numbers.now c.split_at.result.0.now c.split_at.result.1.now c.split_at.ensures.front_len c.split_at.ensures.front c.split_at.ensures.back in
    slot_read _ c.args.numbers.now c.split_at.result.0.now c.split_at.result.1.now parts (record {
      gate = c.if-front-ne-OPEN.false;
      number = refl;
      first = refl;
      end = refl;
      triples = refl;
      area = refl;
      points = (points_first _ _ _ (omega (arith, c.split_at.ensures.back_len)) c.in_ok-points.ensures c.in_ok-points.points).0 refl;
    })
