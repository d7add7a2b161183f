-- The last session of a table that was just opened is ready, since the guard begins with its world.
use Rattle.std.proofs.Common.{length}
use Rattle.fkv_table.specs.Planes.{opening_of}
use Rattle.fkv_table_tests.proofs.Begins.{guard_begins, taken_there}
use Rattle.fkv_table_tests.proofs.one_thread.told_of_opened.Goals as goal

pub call_in_turn-requires : goal.call_in_turn-requires
call_in_turn-requires g c =
    let made = c.in_ok-table.ensures in
    let there = taken_there c.in_ok-table.field-0.sessions.items c.pop.new.self.items c.pop.result (c.in-Some.session, c.in-Some.pass) c.pop.ensures.items c.in-Some.is in
    record {
      ready = (made.sessions (length c.pop.new.self.items) (c.in-Some.session, c.in-Some.pass) there).ready
          (guard_begins c.args.opened (opening_of g.D.Device.seen c.in_ok-table.field-0.table.table.shared.key) c.law_guard_opens.ensures made.world made.opened);
    }
