-- By the law of what sessions were told as durable, of an opened store.
use Rattle.std.proofs.Common.{arith, ap}
use Rattle.law_opening.specs.Below.fkv_core.Openings.{beginning}
use Rattle.law_commit.specs.Below.fkv_keeper.Keeping.{Finality}
use Rattle.law_commit.specs.Below.fkv_world.Runs.{World}
use Rattle.law_order.proofs.prefix.law_durable_is_sealed.Goals as goal

pub returns : goal.returns
returns c = λ its is session told there.
    let opening : World = beginning its.world its.bytes in
    let opens = c.law_points_open.ensures its.bytes its.opened its.world is.store is.begins in
    let tells = c.law_told_are_sealed.ensures opening its.opened.tail.0 its.events session told opens (c.law_cuts_open.ensures.durable its.opened its.world is.begins) there in
    let number = ap (λ (last : Finality). last.number.0) is.begins.its_keeper.newest in
    record { commit = tells.commit; begun = tells.begun; is_sealed = tells.is_sealed; point = tells.point; since = λ d begun up. tells.since d begun (omega (arith, up, number)) }
