-- The two sessions that were taken are of one table, and have different numbers.
use Rattle.std.proofs.Common.{◌∙◌, sym, ap, length}
use Rattle.fkv_threads_tests.proofs.Taken.{popped, two_last}
use Rattle.fkv_threads_tests.proofs.one_thread.write_and_read.Goals as goal

pub meet-reader-requires : goal.meet-reader-requires
meet-reader-requires g c =
    let items = c.args.sessions.items in
    let first = popped items c.pop.new.self.items c.pop.result c.in-Some.writer c.pop.ensures.items c.in-Some.is in
    let second = popped c.pop.new.self.items c.pop-2.new.self.items c.pop-2.result c.in-Some-pop.reader c.pop-2.ensures.items c.in-Some-pop.is in
    let both = two_last items c.pop.new.self.items c.pop-2.new.self.items _ _ first second in
    let its = c.requires.first in
    let reader = (its.2 _ _ both.1).1 in
    let writer = (its.2 _ _ both.0).1 in
    record {
      one_table = record {
        key = ap (λ s. s.key) writer ∙ sym (ap (λ s. s.key) reader);
        table = ap (λ s. s.table) writer ∙ sym (ap (λ s. s.table) reader);
        apart = λ same. both.2 (sym (ap (λ s. s.number) reader) ∙ (same ∙ ap (λ s. s.number) writer));
      };
    }
