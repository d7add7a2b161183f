-- What it reads is for a mailbox. A call that failed ends the turn.
use Rattle.std.proofs.Common.{◌≡◌, ap, rules}
use Rattle.fkv_disk.specs.Bytes.{bytes_at}
use Rattle.fkv_flush.specs.Serving.{mail_place}
use Rattle.fkv_keeper.specs.declared.keepers.Keeping.{Keeping}
use Rattle.fkv_keeper.specs.KeeperAsks.{keeper_read, keeping_read}
use Rattle.fkv_keeper.proofs.KeeperFewer.{broken_refused}
use Rattle.fkv_keeper.proofs.keepers.Keeper.call_for_turn.Goals as goal

pub returns-in-Ok-clause-read : goal.returns-in-Ok-clause-read
unfolding keeping_read
returns-in-Ok-clause-read g c =
    let now = c.args.self.now in
    let seen = g.D.Device.seen c.args.d.now in
    let read : keeper_read now seen ≡ bytes_at seen (mail_place now.shape now.state.maintain.serving) 24 = ap (λ (step : Keeping). keeping_read now step seen) c.requires in
    λ honest. rw read (let its = c.in-Ok.ensures.read honest in search rules)

pub returns-in-Err-clause-read : goal.returns-in-Err-clause-read
unfolding keeping_read
returns-in-Err-clause-read g c =
    let now = c.args.self.now in
    let seen = g.D.Device.seen c.args.d.now in
    let read : keeper_read now seen ≡ bytes_at seen (mail_place now.shape now.state.maintain.serving) 24 = ap (λ (step : Keeping). keeping_read now step seen) c.requires in
    λ honest. rw read (let its = c.in-Err.ensures.read honest in search rules)

pub returns-in-Err-clause-refused : goal.returns-in-Err-clause-refused
returns-in-Err-clause-refused g c = rw (c.after_maintain.ensures, c.ask-ask.ensures) (broken_refused _ _ _ _ c.in-Err.ensures.broken)
