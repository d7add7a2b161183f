-- As it begins it asks, and has no more asks left than all of it makes.
use Rattle.std.proofs.Common.{rules}
use Rattle.fkv_session.specs.CatchingUp.{catching_ask}
use Rattle.fkv_session.proofs.CatchLeft.{refresh_begun_asks, refresh_begun_most}
use Rattle.fkv_session.proofs.catching_up.CatchUp.refresh.Goals as goal

pub returns-clause-asks : goal.returns-clause-asks
unfolding catching_ask
returns-clause-asks c =
    let now = c.args.self.now in
    refresh_begun_asks now.places now.session now.state c.args.seen c.args.serial.0 _ c.passed.result (search rules) (search rules)

pub returns-clause-bounded : goal.returns-clause-bounded
returns-clause-bounded c = refresh_begun_most c.args.self.now.state c.args.seen c.args.serial.0 _ (search rules)
