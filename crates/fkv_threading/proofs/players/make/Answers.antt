-- The call has run, and the log has its answer.
use Rattle.fkv_threading.proofs.players.make.Goals as goal

pub returns-clause-ok : goal.returns-clause-ok
returns-clause-ok g c =
    let ran = c.call-told.ensures.called c.answer_of-answer.result (rw (← c.finished.ensures.value) c.answer_of-answer.ensures) in let noted = c.in_ok-note.ensures in
    record { key = ran.key; number = ran.number; ran = ran.called; noted = record { first = noted.first; accepted = noted.accepted; told = noted.told; durable = noted.durable } }
