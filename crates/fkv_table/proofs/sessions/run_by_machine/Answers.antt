-- The start stands on the desk before the call's first step, and the seat is at its desk again behind the last.
use Rattle.std.proofs.Common.{ℕ, ◌∷◌, ap, ◌∙◌}
use Rattle.atomic_table.specs.Table.{rest}
use Rattle.fkv_seats.specs.declared.held.Held.TheVariants.{Desk}
use Rattle.fkv_session.specs.Sessions.{Sitter}
use Rattle.fkv_table.specs.declared.happenings.Happening.TheVariants.{Calls}
use Rattle.fkv_table.specs.Planes.{opening_of}
use Rattle.fkv_table.proofs.Called.{ready_again}
use Rattle.fkv_table.proofs.StandIns.{first_in}
use Rattle.fkv_table.proofs.sessions.run_by_machine.Goals as goal

pub run_begun-requires-clause-seated : goal.run_begun-requires-clause-seated
run_begun-requires-clause-seated g c =
    let me = c.args.seat.now.me in let desk = c.args.desk in let call = c.args.call.now in let m = c.args.machine.now in let rests = c.requires.ready.rests in
    first_in (opening_of g.D.Device.seen) c.args.words.now.key desk me c.exchange.new.seat.me m c.begin-first.new.self call (c.law_start_stands.ensures m.seat.number) rests c.requires.ready.empty
    (c.exchange.ensures.3 ∙ ap (λ (n : ℕ). (me.0, (desk, Desk (Calls n call)) ∷ rest me.1)) c.number.ensures.value) c.begin-first.ensures.next (c.law_of_standing.ensures.begins m.seat m.state rests.its call rests.alike)

pub returns-clause-ready : goal.returns-clause-ready
returns-clause-ready g c =
    let did = c.run_begun.ensures in let me = c.args.seat.now.me in
    ready_again (opening_of g.D.Device.seen) c.args.words.now.key c.args.words.now.table_id c.args.seat.now.table_id c.run_begun.new.seat.table_id me c.exchange.new.seat.me c.run_begun.new.seat.me
    c.args.machine.now c.run_begun.new.machine c.args.desk (Calls c.number.result c.args.call.now) c.requires.ready (did.seat.0 ∙ c.exchange.ensures.0) c.exchange.ensures.3 did.desk.0 did.desk.1 did.rests.0
    (did.rests.1 ∙ ap (λ (z : Sitter). z.seat) c.begin-first.ensures.next) did.empty
