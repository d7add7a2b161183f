-- A turn has the asks of its records at most.
use Rattle.std.proofs.Common.{◌≡◌, rules, arith}
use Rattle.fkv_sweep.specs.Sweeping.{turn_begun}
use Rattle.fkv_sweep.proofs.AsksLeft.{sweep_turn_bounded}
use Rattle.fkv_sweep.proofs.sweeping.Sweep.start.Goals as goal

pub returns-clause-bounded : goal.returns-clause-bounded
returns-clause-bounded c =
    let next : c.if-is_sweeping.self ≡ turn_begun c.args.self.now = first_of (search rules, grind arith) in
    rw next (sweep_turn_bounded c.args.self.now)
