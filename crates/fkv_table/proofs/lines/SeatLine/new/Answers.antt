-- A line begins where the session rests.
use Rattle.std.proofs.Common.{[], arith, rules, ap, subst, sym, ◌∙◌}
use Rattle.fkv_session.specs.Sessions.{Sitter}
use Rattle.fkv_table.specs.Lines.{IsAlong, line_of}
use Rattle.fkv_table.specs.Planes.{opening_of}
use Rattle.fkv_table.proofs.Straights.{along_first}
use Rattle.fkv_table.proofs.lines.SeatLine.new.Goals as goal

pub invariant_of-result : goal.invariant_of-result
invariant_of-result g c =
    let at = opening_of g.D.Device.seen in let key = c.args.words.now.key in let table = c.args.words.now.table_id in let me = c.args.seat.me in let desk = c.args.desk in (
      c.requires.ready.same_table,
      c.number-own.ensures.value ∙ ap (λ (z : Sitter). z.seat.number) (sym c.of-from.ensures),
      omega arith,
      search rules,
      subst (λ (x : Sitter). IsAlong at (line_of key table me x desk [])) (sym c.of-from.ensures) (along_first at key table c.args.seat.table_id me c.args.machine.now desk c.requires.ready),
    )

pub returns : goal.returns
returns g c = record { value = λ i. line_of c.args.words.now.key c.args.words.now.table_id c.args.seat.me (c.of-from.ensures i) c.args.desk [] }
