-- A turn's start is noted, and leaves the device as it is.
use Rattle.std.proofs.Common.{◌∙◌, refl, []}
use Rattle.fkv_table.specs.Planes.{opening_of}
use Rattle.fkv_table.proofs.KeeperCalled.{kept_so, turn_calls}
use Rattle.fkv_table.proofs.KeeperCommits.{leaves_device}
use Rattle.fkv_table.proofs.keepers.Keeper.start_turn.Goals as goal

pub returns-clause-at_work : goal.returns-clause-at_work
returns-clause-at_work g c = record {
  opened = c.requires.ready.opened;
  same_table = c.begin_turn.ensures.seat.0 ∙ c.requires.ready.same_table;
  keeping = c.begin_turn.ensures.keeping;
}

pub returns-clause-kept : goal.returns-clause-kept
returns-clause-kept g c =
    kept_so (opening_of g.D.Device.seen) _ _ _ c.args.self.now.machine _ _ c.requires.ready.keeping c.begin_turn.ensures.noted (record { steps = []; begins = tt; so = refl })

pub returns-clause-device : goal.returns-clause-device
returns-clause-device g c =
    leaves_device (opening_of g.D.Device.seen) _ _ _
    (turn_calls (opening_of g.D.Device.seen) _ _ _ c.args.self.now.machine c.requires.ready.opened.opening c.requires.ready.keeping c.begin_turn.ensures.noted)
