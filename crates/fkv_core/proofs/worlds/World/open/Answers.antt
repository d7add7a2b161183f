-- The parts stand together.
use Rattle.fkv_world.specs.World.{Now}
use Rattle.fkv_core.proofs.Begun.{begun, is_opened, is_opening, seated}
use Rattle.fkv_core.proofs.worlds.World.open.Goals as goal

pub invariant_of-result : goal.invariant_of-result
invariant_of-result g c = seated c.args.opened c.in_ok-keeper.keeper c.in_ok-sessions.sessions.items c.in_ok-keeper.ensures.made c.in_ok-sessions.ensures.made

pub returns-clause-world : goal.returns-clause-world
returns-clause-world g c =
    is_opening c.args.opened c.in_ok-words.words c.in_ok-sessions.sessions.items c.in_ok-keeper.keeper c.in_ok-words.ensures.words c.in_ok-words.ensures.slots c.in_ok-sessions.ensures.seats c.in_ok-sessions.ensures.made c.in_ok-keeper.ensures.made

pub returns-clause-opened : goal.returns-clause-opened
returns-clause-opened g c =
    let n : Now = begun c.in_ok-words.words c.in_ok-sessions.sessions.items c.in_ok-keeper.keeper in
    is_opened c.args.opened n (g.D.Device.seen c.args.device)
    (is_opening c.args.opened c.in_ok-words.words c.in_ok-sessions.sessions.items c.in_ok-keeper.keeper c.in_ok-words.ensures.words c.in_ok-words.ensures.slots c.in_ok-sessions.ensures.seats c.in_ok-sessions.ensures.made c.in_ok-keeper.ensures.made)
    c.in_ok-keeper.ensures.opened
