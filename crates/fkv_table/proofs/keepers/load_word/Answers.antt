-- The load is the keeper's next step, whole.
use Rattle.std.proofs.Common.{refl, sym, false, true}
use Rattle.fkv_plane.specs.declared.asks.Ask.TheVariants.{Load}
use Rattle.fkv_keeper.proofs.Shown.{due_asks}
use Rattle.fkv_table.specs.declared.happenings.Happening.TheVariants.{KeeperMoves}
use Rattle.fkv_table.specs.Planes.{opening_of}
use Rattle.fkv_table.proofs.ByDevice.{word_none}
use Rattle.fkv_table.proofs.KeeperSteps.{keeper_within, may_keep}
use Rattle.fkv_table.proofs.KeeperWords.{word_begins, word_stepped}
use Rattle.fkv_table.proofs.keepers.load_word.Goals as goal

pub perform-word-requires-clause-word : goal.perform-word-requires-clause-word
perform-word-requires-clause-word g c =
    let k = c.args.machine.now in
    keeper_within (opening_of g.D.Device.seen) c.args.words.now.key c.args.words.now.table_id c.args.seat.now.me k (Load c.args.place) c.requires.table.1 c.requires.keeping
    (sym (due_asks k.shape k.places k.state c.args.place c.requires.due)) (c.args.place, refl)

pub perform-word-requires-clause-allows : goal.perform-word-requires-clause-allows
perform-word-requires-clause-allows g c =
    let k = c.args.machine.now in
    may_keep (opening_of g.D.Device.seen) c.args.words.now.key c.args.words.now.table_id.slots c.args.seat.now.id c.args.seat.now.me k (KeeperMoves false true) false (Load c.args.place) c.requires.table.1.opening c.requires.keeping refl
    (sym (due_asks k.shape k.places k.state c.args.place c.requires.due))

pub returns : goal.returns
returns g c =
    let k = c.args.machine.now in
    let guard = c.requires.table.1.opening in
    let its = word_stepped (opening_of g.D.Device.seen) c.args.words.now.key c.args.words.now.table_id.slots c.args.seat.now.me c.perform-word.new.seat.me k c.keep.new.self c.args.place c.perform-word.result guard c.requires.keeping c.requires.due
    c.perform-word.ensures.told (c.keep.ensures.next false) in
    record {
      seat = c.perform-word.ensures.seat;
      keeping = its.keeping;
      went = its.went;
      calls = its.calls;
      by_device = word_none k c.keep.new.self c.args.place c.perform-word.result c.requires.due (c.keep.ensures.next false);
      fewer = its.fewer;
      beginning = word_begins (opening_of g.D.Device.seen) c.args.words.now.key c.args.words.now.table_id.slots c.args.seat.now.me c.perform-word.new.seat.me k c.keep.new.self c.args.place c.perform-word.result guard c.requires.keeping c.requires.due
          c.perform-word.ensures.told (c.keep.ensures.next false);
    }
