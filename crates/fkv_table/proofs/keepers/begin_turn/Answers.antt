-- The turn's start is added behind what others have done, and the machine has begun it.
use Rattle.fkv_table.specs.Planes.{opening_of}
use Rattle.fkv_table.proofs.KeeperNotes.{spares_turn, turn_on}
use Rattle.fkv_table.proofs.ByDevice.{begun_none}
use Rattle.fkv_table.proofs.keepers.begin_turn.Goals as goal

pub note-requires-clause-spares : goal.note-requires-clause-spares
note-requires-clause-spares g c = spares_turn (opening_of g.D.Device.seen) _ _ c.args.machine.now c.requires.table.1.opening c.requires.keeping

pub returns-clause-keeping : goal.returns-clause-keeping
returns-clause-keeping g c =
    turn_on (opening_of g.D.Device.seen) _ _ c.args.machine.now c.requires.table.1.opening c.requires.keeping c.note.new.seat.me c.begin_turn.new.self c.requires.idle c.note.ensures.noted c.begin_turn.ensures.next

pub returns-clause-by_device : goal.returns-clause-by_device
returns-clause-by_device g c = begun_none c.args.machine.now c.begin_turn.new.self c.begin_turn.ensures.next
