-- The ask keeps the rule, and what the step tells leads the machine on.
use Rattle.fkv_table.specs.Planes.{opening_of}
use Rattle.fkv_table.proofs.KeeperSteps.{keeper_replies, keeper_within, may_keep}
use Rattle.fkv_table.proofs.keepers.ask_word.Goals as goal

pub perform-reply-requires-clause-word : goal.perform-reply-requires-clause-word
perform-reply-requires-clause-word g c =
    keeper_within (opening_of g.D.Device.seen) c.args.words.now.key c.args.words.now.table_id c.args.seat.now.me c.args.machine.now c.args.ask.now c.requires.table.1 c.requires.keeping c.requires.ask c.requires.word

pub perform-reply-requires-clause-allows : goal.perform-reply-requires-clause-allows
perform-reply-requires-clause-allows g c =
    may_keep (opening_of g.D.Device.seen) c.args.words.now.key _ _ c.args.seat.now.me c.args.machine.now g.E.OfKeeper.its _ c.args.ask.now c.requires.table.1.opening c.requires.keeping c.requires.event c.requires.ask

pub returns-clause-replied : goal.returns-clause-replied
returns-clause-replied g c =
    keeper_replies (opening_of g.D.Device.seen) c.args.words.now.key _ c.args.seat.now.me c.perform-reply.new.seat.me c.args.machine.now c.go_on_with.new.self g.E.OfKeeper.its _ c.args.ask.now c.perform-reply.result c.requires.table.1.opening
    c.requires.keeping c.requires.event c.requires.ask c.requires.word c.perform-reply.ensures.told c.go_on_with.ensures.next
