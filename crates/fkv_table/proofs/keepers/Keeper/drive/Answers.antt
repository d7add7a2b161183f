-- The steps of words of a turn, up to a call of the device or to the turn's end.
use Rattle.std.proofs.Common.{◌∙◌, ◌≤◌, sym, ap, subst}
use Rattle.fkv_keeper.specs.KeeperAsks.{keeper_asks_left}
use Rattle.fkv_keeper.specs.KeeperRun.{is_in_hand}
use Rattle.fkv_keeper.specs.Keeping.{KeeperModel, keeper_ask}
use Rattle.fkv_keeper.specs.Running.{IsTurnTold}
use Rattle.fkv_table.specs.Keeps.{IsKeeping}
use Rattle.fkv_table.specs.Planes.{opening_of}
use Rattle.fkv_table.proofs.ByDevice.{device_none, told_so}
use Rattle.fkv_table.proofs.KeeperCalled.{not_busy, over_idle}
use Rattle.fkv_table.proofs.KeeperCommits.{leaves_device}
use Rattle.fkv_table.proofs.keepers.Keeper.drive.Goals as goal

pub turn_told-requires-clause-over : goal.turn_told-requires-clause-over
turn_told-requires-clause-over g c = not_busy _ c.word_steps.result c.word_steps.ensures.told c.in_default.not-Device

pub turn_told-requires-clause-idle : goal.turn_told-requires-clause-idle
turn_told-requires-clause-idle g c =
    over_idle (opening_of g.D.Device.seen) _ _ _ c.requires.at_work.opened.opening c.word_steps.ensures.keeping (not_busy _ c.word_steps.result c.word_steps.ensures.told c.in_default.not-Device)

pub returns-in-Device-clause-at_work : goal.returns-in-Device-clause-at_work
returns-in-Device-clause-at_work g c = record {
  opened = c.requires.at_work.opened;
  same_table = c.word_steps.ensures.seat.0 ∙ c.requires.at_work.same_table;
  keeping = c.word_steps.ensures.keeping;
}

pub returns-in-Device-clause-device : goal.returns-in-Device-clause-device
returns-in-Device-clause-device g c = leaves_device (opening_of g.D.Device.seen) _ _ _ c.word_steps.ensures.calls

pub returns-in_default-clause-at_work : goal.returns-in_default-clause-at_work
returns-in_default-clause-at_work g c = record {
  opened = c.requires.at_work.opened;
  same_table = c.word_steps.ensures.seat.0 ∙ c.requires.at_work.same_table;
  keeping = subst (λ (k : KeeperModel). IsKeeping (opening_of g.D.Device.seen) c.args.table.now.table.shared.key c.word_steps.new.seat.me k) (sym c.turn_told.ensures.same) c.word_steps.ensures.keeping;
}

pub returns-in_default-clause-device : goal.returns-in_default-clause-device
returns-in_default-clause-device g c = leaves_device (opening_of g.D.Device.seen) _ _ _ c.word_steps.ensures.calls

pub returns-in_default-clause-told : goal.returns-in_default-clause-told
returns-in_default-clause-told g c =
    let same = c.turn_told.ensures.same in
    let idle = over_idle (opening_of g.D.Device.seen) _ _ _ c.requires.at_work.opened.opening c.word_steps.ensures.keeping (not_busy _ c.word_steps.result c.word_steps.ensures.told c.in_default.not-Device) in (
      ap (λ (k : KeeperModel). is_in_hand k.state.step) same ∙ idle,
      subst (λ (k : KeeperModel). IsTurnTold k.state.last (keeper_ask k.shape k.places k.state) c.turn_told.result) (sym same) c.turn_told.ensures.told,
    )

pub returns-in_default-clause-left : goal.returns-in_default-clause-left
returns-in_default-clause-left g c =
    let was = c.args.self.now.machine in
    subst (λ (k : KeeperModel). keeper_asks_left k.shape k.places k.state ≤ keeper_asks_left was.shape was.places was.state) (sym c.turn_told.ensures.same) c.word_steps.ensures.left

pub returns-in-Device-clause-by_device : goal.returns-in-Device-clause-by_device
returns-in-Device-clause-by_device g c =
    let k = c.word_steps.new.machine in
    sym (device_none k.shape k.places k.state c.in-Device.ensures.told) ∙ c.word_steps.ensures.by_device

pub returns-in_default-clause-by_device : goal.returns-in_default-clause-by_device
returns-in_default-clause-by_device g c =
    let idle = over_idle (opening_of g.D.Device.seen) _ _ _ c.requires.at_work.opened.opening c.word_steps.ensures.keeping (not_busy _ c.word_steps.result c.word_steps.ensures.told c.in_default.not-Device) in
    told_so c.word_steps.new.machine c.turn_told.result idle c.turn_told.ensures.told ∙ c.word_steps.ensures.by_device
