-- The action that goes with the reply leads the machine on, and the seat with it.
use Rattle.fkv_table.specs.Planes.{opening_of}
use Rattle.fkv_table.proofs.StandIns.{hand_in, stepped_in}
use Rattle.fkv_table.proofs.sessions.step.Goals as goal

pub settle-requires-clause-hand : goal.settle-requires-clause-hand
settle-requires-clause-hand g c =
    hand_in (opening_of g.D.Device.seen) c.args.words.now.key c.args.seat.now.me c.ask_word-next.new.seat.me (g.O.Adds.own c.args.seat.now.me.1) c.args.machine.now c.ask_word-next.new.machine c.args.ask.now c.ask_word-next.result
    c.law_of_standing.ensures.asks c.requires.table.1.opening c.ask_word-next.ensures.next c.requires.ask c.requires.word c.ask_word-next.ensures.ask

pub returns-clause-seated : goal.returns-clause-seated
returns-clause-seated g c =
    let law = c.law_of_standing.ensures in
    let its = stepped_in (opening_of g.D.Device.seen) c.args.words.now.key c.args.seat.now.me c.ask_word-next.new.seat.me c.settle.new.seat.me (g.O.Adds.own c.args.seat.now.me.1) c.args.machine.now c.ask_word-next.new.machine c.settle.new.machine
    c.args.ask.now c.ask_word-next.result law.asks law.replies law.actions law.lasts c.requires.table.1.opening c.ask_word-next.ensures.next c.requires.ask c.requires.word c.ask_word-next.ensures.ask c.settle.ensures.settled in
    (its.seated, its.seat)

pub returns-clause-went : goal.returns-clause-went
returns-clause-went g c =
    let law = c.law_of_standing.ensures in
    let its = stepped_in (opening_of g.D.Device.seen) c.args.words.now.key c.args.seat.now.me c.ask_word-next.new.seat.me c.settle.new.seat.me (g.O.Adds.own c.args.seat.now.me.1) c.args.machine.now c.ask_word-next.new.machine c.settle.new.machine
    c.args.ask.now c.ask_word-next.result law.asks law.replies law.actions law.lasts c.requires.table.1.opening c.ask_word-next.ensures.next c.requires.ask c.requires.word c.ask_word-next.ensures.ask c.settle.ensures.settled in
    its.went

pub returns-clause-idle : goal.returns-clause-idle
returns-clause-idle g c =
    let law = c.law_of_standing.ensures in
    let its = stepped_in (opening_of g.D.Device.seen) c.args.words.now.key c.args.seat.now.me c.ask_word-next.new.seat.me c.settle.new.seat.me (g.O.Adds.own c.args.seat.now.me.1) c.args.machine.now c.ask_word-next.new.machine c.settle.new.machine
    c.args.ask.now c.ask_word-next.result law.asks law.replies law.actions law.lasts c.requires.table.1.opening c.ask_word-next.ensures.next c.requires.ask c.requires.word c.ask_word-next.ensures.ask c.settle.ensures.settled in
    its.idle

pub returns-clause-told : goal.returns-clause-told
returns-clause-told g c =
    let law = c.law_of_standing.ensures in
    let its = stepped_in (opening_of g.D.Device.seen) c.args.words.now.key c.args.seat.now.me c.ask_word-next.new.seat.me c.settle.new.seat.me (g.O.Adds.own c.args.seat.now.me.1) c.args.machine.now c.ask_word-next.new.machine c.settle.new.machine
    c.args.ask.now c.ask_word-next.result law.asks law.replies law.actions law.lasts c.requires.table.1.opening c.ask_word-next.ensures.next c.requires.ask c.requires.word c.ask_word-next.ensures.ask c.settle.ensures.settled in
    its.told

pub returns-clause-fewer : goal.returns-clause-fewer
returns-clause-fewer g c =
    let law = c.law_of_standing.ensures in
    let its = stepped_in (opening_of g.D.Device.seen) c.args.words.now.key c.args.seat.now.me c.ask_word-next.new.seat.me c.settle.new.seat.me (g.O.Adds.own c.args.seat.now.me.1) c.args.machine.now c.ask_word-next.new.machine c.settle.new.machine
    c.args.ask.now c.ask_word-next.result law.asks law.replies law.actions law.lasts c.requires.table.1.opening c.ask_word-next.ensures.next c.requires.ask c.requires.word c.ask_word-next.ensures.ask c.settle.ensures.settled in
    its.fewer
