-- The load keeps the rule, and tells what it adds.
use Rattle.fkv_table.specs.Planes.{opening_of}
use Rattle.fkv_table.proofs.KeeperNotes.{may_note, noted_so}
use Rattle.fkv_table.proofs.Ready.{some_words}
use Rattle.fkv_table.proofs.keepers.note.Goals as goal

pub load-requires : goal.load-requires
load-requires g c = let t = c.requires.table in
    (t.0, some_words _ _ t.1, may_note (opening_of g.D.Device.seen) c.args.words.now.key c.args.words.now.table_id.slots c.args.seat.now.id c.args.seat.now.me g.E.OfKeeper.its t.1.opening c.requires.about c.requires.spares c.requires.hand)

pub returns-clause-noted : goal.returns-clause-noted
returns-clause-noted g c =
    noted_so (opening_of g.D.Device.seen) c.args.words.now.key c.args.words.now.table_id.slots c.args.seat.now.me c.load.new.seat.me g.E.OfKeeper.its c.load.result c.requires.about c.requires.spares c.load.ensures.2
