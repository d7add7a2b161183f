-- Each session is ready with its pass as the last call has left it.
use Rattle.std.proofs.Common.{◌∙◌}
use Rattle.fkv_threads_tests.proofs.one_thread.call_and_meet.Goals as goal

pub join-one-requires : goal.join-one-requires
join-one-requires g c = record {
  ready = record {
    first = c.args.reader.machine;
    second = c.run-two.new.self.machine;
    desk = c.args.reader.desk;
    desk' = c.run-two.new.self.desk;
    first_ready = c.requires.reader;
    second_ready = c.run-two.ensures.ready;
    apart = λ same. c.requires.apart (same ∙ c.run-two.ensures.number);
  };
}

pub run-read-requires : goal.run-read-requires
run-read-requires g c = record { ready = c.join-one.ensures.first _ _ c.requires.reader }
