-- The sessions of a table that was just opened are ready, since the guard begins with its world.
use Rattle.std.proofs.Common.{◌∙◌, sym, length}
use Rattle.fkv_threads_tests.proofs.Taken.{popped, two_last}
use Rattle.fkv_threads_tests.proofs.one_thread.meet_of_opened.Goals as goal

pub call_and_meet-requires-clause-reader : goal.call_and_meet-requires-clause-reader
call_and_meet-requires-clause-reader g c =
    let made = c.in_ok-table.ensures in
    let items = c.in_ok-table.field-0.sessions.items in
    let first = popped items c.pop.new.self.items c.pop.result (c.in-Some.writer, c.in-Some.two) c.pop.ensures.items c.in-Some.is in
    let second = popped c.pop.new.self.items c.pop-in-Some.new.self.items c.pop-in-Some.result (c.in-Some-pop.reader, c.in-Some-pop.one) c.pop-in-Some.ensures.items c.in-Some-pop.is in
    let both = two_last items c.pop.new.self.items c.pop-in-Some.new.self.items _ _ first second in
    (made.sessions (length c.pop-in-Some.new.self.items) (c.in-Some-pop.reader, c.in-Some-pop.one) both.1).ready

pub call_and_meet-requires-clause-writer : goal.call_and_meet-requires-clause-writer
call_and_meet-requires-clause-writer g c =
    let made = c.in_ok-table.ensures in
    let items = c.in_ok-table.field-0.sessions.items in
    let first = popped items c.pop.new.self.items c.pop.result (c.in-Some.writer, c.in-Some.two) c.pop.ensures.items c.in-Some.is in
    let second = popped c.pop.new.self.items c.pop-in-Some.new.self.items c.pop-in-Some.result (c.in-Some-pop.reader, c.in-Some-pop.one) c.pop-in-Some.ensures.items c.in-Some-pop.is in
    let both = two_last items c.pop.new.self.items c.pop-in-Some.new.self.items _ _ first second in
    (made.sessions (length c.pop.new.self.items) (c.in-Some.writer, c.in-Some.two) both.0).ready

pub call_and_meet-requires-clause-apart : goal.call_and_meet-requires-clause-apart
call_and_meet-requires-clause-apart g c =
    let made = c.in_ok-table.ensures in
    let items = c.in_ok-table.field-0.sessions.items in
    let first = popped items c.pop.new.self.items c.pop.result (c.in-Some.writer, c.in-Some.two) c.pop.ensures.items c.in-Some.is in
    let second = popped c.pop.new.self.items c.pop-in-Some.new.self.items c.pop-in-Some.result (c.in-Some-pop.reader, c.in-Some-pop.one) c.pop-in-Some.ensures.items c.in-Some-pop.is in
    let both = two_last items c.pop.new.self.items c.pop-in-Some.new.self.items _ _ first second in
    let reader = made.sessions (length c.pop-in-Some.new.self.items) (c.in-Some-pop.reader, c.in-Some-pop.one) both.1 in
    let writer = made.sessions (length c.pop.new.self.items) (c.in-Some.writer, c.in-Some.two) both.0 in
    λ same. both.2 (sym reader.numbered ∙ (same ∙ writer.numbered))
