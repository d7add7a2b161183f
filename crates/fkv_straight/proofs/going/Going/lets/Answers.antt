-- What the session's straight calls go by is what this one goes by.
use Rattle.std.proofs.Common.{◌≡◌, rules, false}
use Rattle.fkv_map.specs.Map.{is_reserved}
use Rattle.fkv_straight.proofs.MayGoes.{goes_for, goes_for_read}
use Rattle.fkv_straight.proofs.Goings.{less_of}
use Rattle.fkv_straight.proofs.going.Going.lets.Goals as goal

pub returns-in-Read : goal.returns-in-Read
returns-in-Read c = λ yes by. goes_for_read c.args.machine.now.seat c.args.machine.now.state c.args.op _ c.args.self.now c.in-Read.is by

pub returns-then-not-reserved : goal.returns-then-not-reserved
returns-then-not-reserved c = λ yes by.
    let allowed : is_reserved c.args.op ≡ false = search rules in
    goes_for c.args.machine.now.seat c.args.machine.now.state c.args.op c.args.self.now by allowed (λ updates. less_of c.args.machine.now.state.serial c.serial-serial.result.0 c.serial-serial.ensures.value yes)
