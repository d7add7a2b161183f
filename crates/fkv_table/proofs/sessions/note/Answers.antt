-- A start changes no word.
use Rattle.std.proofs.Common.{arith, refl}
use mathlib.Core.Option.{none}
use Rattle.atomic_table.specs.Table.{step}
use Rattle.fkv_table.specs.declared.happenings.Happening.TheVariants.{Calls}
use Rattle.fkv_table.specs.Planes.{opening_of}
use Rattle.fkv_table.proofs.Called.{note_allowed}
use Rattle.fkv_table.proofs.sessions.note.Goals as goal

pub load-word-requires : goal.load-word-requires
load-word-requires g c =
    let count = c.requires.table.1.words in let sits = c.requires.seated in (
      c.requires.table.0,
      omega (arith, count),
      note_allowed (opening_of g.D.Device.seen) c.args.words.now.key c.args.seat.now.me (record c.args._machine.now { state = sits.its }) c.args._call.now c.requires.table.1.opening sits.seated c.requires.note c.args.words.now.table_id.slots c.args.seat.now.id 0 (step c.args.words.now.table_id.slots 0 0 0 none) refl,
    )

pub returns-clause-told : goal.returns-clause-told
returns-clause-told g c = (c.load-word.result, c.load-word.ensures.2 c.args.words.now.key (Calls c.args._machine.now.seat.number c.args._call.now) c.requires.seated.seated.about c.requires.note)
