-- A step of a line is the one that the session's machine asks for.
use Rattle.std.proofs.Common.{[], ◌+◌, ◌<◌, ◌≡◌, ap, arith, length, sym, subst, ◌∙◌}
use Rattle.std.specs.Prelude.{take}
use Rattle.std.proofs.lemmas.List.{length-take-le}
use Rattle.fkv_straight.specs.Standing.{asked}
use Rattle.fkv_table.specs.Lines.{line_of, sitter, stands}
use Rattle.fkv_table.specs.Planes.{opening_of}
use Rattle.fkv_table.proofs.LineSteps.{HasMade, asked_is, here, made, next_line}
use Rattle.fkv_table.proofs.Steps.{allowed, within}
use Rattle.fkv_table.proofs.lines.SeatLine.step.Goals as goal

pub perform-reply-requires : goal.perform-reply-requires
perform-reply-requires g c =
    let at = opening_of g.D.Device.seen in let s = c.self.inside in
    let l = line_of s.words.now.key s.words.now.table_id s.seat.me s.machine.value s.desk (take s.kept s.aside.now.replies) in
    let along = c.self.invariant.4 in
    let asks : asked l.machine.seat (stands at l) ≡ c.args.ask.now = subst (λ z. asked z.machine.seat (stands at z) ≡ c.args.ask.now) (sym c.self.view_is) c.requires.asked in
    let its = asked_is l.machine.seat (stands at l) c.args.ask.now asks in
    let sits = here at l along c.args.ask.now asks c.requires.word in
    record {
      table = c.self.invariant.0;
      word = within at l.key l.table l.me [] (sitter at l) c.args.ask.now along.opened sits its c.requires.word;
      allows = allowed at l.key l.table.slots _ l.me (λ _. []) (sitter at l) c.args.ask.now along.opened.opening sits its;
      past = c.requires.past;
    }

pub invariant_of-self : goal.invariant_of-self
invariant_of-self g c =
    let at = opening_of g.D.Device.seen in let s = c.self.inside in
    let l = line_of s.words.now.key s.words.now.table_id s.seat.me s.machine.value s.desk (take s.kept s.aside.now.replies) in
    let along = c.self.invariant.4 in
    let held : length (take s.kept s.aside.now.replies) ≡ s.kept = length-take-le s.kept s.aside.now.replies (omega (arith, c.self.invariant.2, c.self.invariant.3)) in
    let fits : s.kept < 64 = subst (λ n. n < 64) (ap (λ z. length z.replies) (sym c.self.view_is) ∙ held) c.requires.room in
    let asks : asked l.machine.seat (stands at l) ≡ c.args.ask.now = subst (λ z. asked z.machine.seat (stands at z) ≡ c.args.ask.now) (sym c.self.view_is) c.requires.asked in (
      c.perform-reply.ensures.seat.0 ∙ c.self.invariant.0,
      c.self.invariant.1,
      omega (arith, fits),
      c.keep.ensures.length,
      (next_line at l along c.args.ask.now asks c.requires.word l.table.slots c.perform-reply.result c.perform-reply.new.seat.me c.perform-reply.ensures.told (take (s.kept + 1) c.keep.new.replies) c.keep.ensures.items).along,
    )

pub returns : goal.returns
returns g c =
    let at = opening_of g.D.Device.seen in let s = c.self.inside in
    let l = line_of s.words.now.key s.words.now.table_id s.seat.me s.machine.value s.desk (take s.kept s.aside.now.replies) in
    let along = c.self.invariant.4 in
    let asks : asked l.machine.seat (stands at l) ≡ c.args.ask.now = subst (λ z. asked z.machine.seat (stands at z) ≡ c.args.ask.now) (sym c.self.view_is) c.requires.asked in
    let on = line_of l.key l.table c.perform-reply.new.seat.me l.machine l.desk (take (s.kept + 1) c.keep.new.replies) in
    let its : HasMade at l on c.perform-reply.result = made at l along c.args.ask.now asks c.requires.word l.table.slots c.perform-reply.result c.perform-reply.new.seat.me c.perform-reply.ensures.told (take (s.kept + 1) c.keep.new.replies) c.keep.ensures.items in
    let so : HasMade at c.args.self.now on c.perform-reply.result = subst (λ z. HasMade at z on c.perform-reply.result) c.self.view_is its in
    record { next = so.next; led = so.led; replies = so.replies; machine = so.machine }
