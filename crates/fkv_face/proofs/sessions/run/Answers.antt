-- The handle has run the call, and its answer is the one that says what was told.
use Rattle.fkv_handles.specs.Handles.{sitting_of}
use Rattle.fkv_handles.specs.Sittings.{finished_in}
use Rattle.fkv_face.specs.Told.{answer_saying}
use Rattle.fkv_face.proofs.Sayings.{says_so}
use Rattle.fkv_face.proofs.sessions.run.Goals as goal

pub returns : goal.returns
returns c =
    let finished = finished_in (sitting_of c.tell.new.self) in
    let its = c.tell.ensures.called in
    record {
      answer = answer_saying c.tell.result finished;
      answered = record {
        called = rw (← c.lent.ensures.value) (its (answer_saying c.tell.result finished) (says_so c.tell.result finished));
        keys = rw (← c.lent.ensures.value) c.tell.ensures.keys;
      };
      told = c.told_by.ensures finished;
    }
