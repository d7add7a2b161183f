-- An append begins with eight asks.
use Rattle.std.proofs.Common.{◌≡◌, ◌+◌, arith, rules}
use Rattle.fkv_log.specs.declared.reserving.Reserving.TheVariants.{LoadsLimit}
use Rattle.fkv_log.specs.Reserving.{reserve_ask, reserve_asks_left}
use Rattle.fkv_log.proofs.Shown.{reserve_left}
use Rattle.fkv_ops.specs.declared.appending.AppendAnswer.TheVariants.{Contended}
use Rattle.fkv_ops.specs.AsksLeft.{appending_asks_left}
use Rattle.fkv_plane.proofs.Shown.{passed_left, sum_most}
use Rattle.fkv_ops.proofs.appending.Append.start.Goals as goal

pub returns-clause-asks : goal.returns-clause-asks
unfolding appending_asks_left
returns-clause-asks c =
    let its : c.start.new.self.step ≡ LoadsLimit c.args.bound = search rules in
    rw (c.passed.ensures, c.start.ensures.ask, its) (passed_left (reserve_asks_left (LoadsLimit c.args.bound)) (3 + 1 + 1) (reserve_ask (LoadsLimit c.args.bound)) Contended (reserve_left (LoadsLimit c.args.bound)))

pub returns-clause-bounded : goal.returns-clause-bounded
unfolding appending_asks_left
returns-clause-bounded c =
    let few = c.start.ensures.bounded in
    let both = sum_most (reserve_asks_left c.start.new.self.step) (3 + 1 + 1) in
    omega (arith, few, both)
