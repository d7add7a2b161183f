-- One call of the device.
use Rattle.std.proofs.Common.{◌∙◌}
use Rattle.fkv_table.proofs.KeeperCalled.{device_asked}
use Rattle.fkv_table.proofs.keepers.Keeper.device_step.Goals as goal

pub call_device-requires-clause-ask : goal.call_device-requires-clause-ask
call_device-requires-clause-ask g c = device_asked _ c.requires.asked

pub returns-clause-at_work : goal.returns-clause-at_work
returns-clause-at_work g c = record {
  opened = c.requires.at_work.opened;
  same_table = c.call_device.ensures.seat.0 ∙ c.requires.at_work.same_table;
  keeping = c.call_device.ensures.keeping;
}

pub returns-clause-fewer : goal.returns-clause-fewer
returns-clause-fewer g c = c.call_device.ensures.fewer
