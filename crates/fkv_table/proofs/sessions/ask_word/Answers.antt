-- The ask keeps the rule, and what the step tells leads the machine on, with the session for which it stands in.
use Rattle.std.proofs.Common.{◌∙◌}
use Rattle.fkv_table.specs.Planes.{opening_of}
use Rattle.fkv_table.proofs.StandIns.{replies_in}
use Rattle.fkv_table.proofs.Steps.{allowed, within}
use Rattle.fkv_table.proofs.sessions.ask_word.Goals as goal

pub perform-reply-requires-clause-word : goal.perform-reply-requires-clause-word
perform-reply-requires-clause-word g c =
    let m = c.args.machine.now in let sits = c.requires.seated in
    within (opening_of g.D.Device.seen) c.args.words.now.key c.args.words.now.table_id c.args.seat.now.me _ (record m { state = sits.its }) c.args.ask.now c.requires.table.1 sits.seated
    (c.requires.ask ∙ c.law_of_standing.ensures.asks m.seat m.state sits.its sits.alike) c.requires.word

pub perform-reply-requires-clause-allows : goal.perform-reply-requires-clause-allows
perform-reply-requires-clause-allows g c =
    let m = c.args.machine.now in let sits = c.requires.seated in
    allowed (opening_of g.D.Device.seen) c.args.words.now.key _ _ c.args.seat.now.me g.O.Adds.own (record m { state = sits.its }) c.args.ask.now c.requires.table.1.opening sits.seated
    (c.requires.ask ∙ c.law_of_standing.ensures.asks m.seat m.state sits.its sits.alike)

pub returns-clause-next : goal.returns-clause-next
returns-clause-next g c =
    replies_in (opening_of g.D.Device.seen) c.args.words.now.key _ c.args.seat.now.me c.perform-reply.new.seat.me g.O.Adds.own c.args.machine.now c.go_on.new.self c.args.ask.now c.perform-reply.result
    c.law_of_standing.ensures.asks c.law_of_standing.ensures.replies c.requires.table.1.opening c.requires.seated c.requires.ask c.requires.word c.perform-reply.ensures.told c.go_on.ensures.next
