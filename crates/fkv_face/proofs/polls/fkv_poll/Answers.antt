-- The handle has polled, and its answer is the one that says what was told, with what the poll has finished.
use Rattle.std.proofs.Common.{[], ap, ◌∙◌, sym}
use Rattle.fkv_handles.specs.Below.fkv_table.Planes.{opening_of}
use Rattle.fkv_posted.specs.contracts.posted.PostedDevice.TheImpl as medium
use Rattle.fkv_handles.specs.declared.sessions.Session.{Session}
use Rattle.fkv_handles.specs.Handles.{sitting_of}
use Rattle.fkv_handles.specs.Sittings.{finished_in}
use Rattle.fkv_face.specs.declared.told.Numbers.{Numbers}
use Rattle.fkv_face.proofs.Polling.{polled_all, polled_not}
use Rattle.fkv_face.proofs.polls.fkv_poll.Goals as goal

pub returns-in_default : goal.returns-in_default
returns-in_default c =
    polled_not (opening_of medium.seen-value.it) c.args.session.now.value c.tell-its.new.self c.tell-its.result (rw (← c.lent.ensures.value) c.tell-its.ensures.called) (rw (← c.lent.ensures.value) c.tell-its.ensures.keys) c.args.into.now c.if-into-lt-MAX_PENDING.false
    c.told_by.result.result c.in_default.not-Polled (ap (λ (n : Numbers). n.result) (c.told_by.ensures []))

pub returns : goal.returns
returns c =
    let after : Session = c.tell-its.new.self in
    rw c.lent-2.ensures.value (polled_all (opening_of medium.seen-value.it) c.args.session.now.value after c.tell-its.result (rw (← c.lent.ensures.value) c.tell-its.ensures.called) (rw (← c.lent.ensures.value) c.tell-its.ensures.keys) c.args.into.now c.if-into-lt-MAX_PENDING.false c.in-Polled.left
    c.finished-list.result.now c.min.result c.fill.new.into c.in-Polled.is (c.finished-list.ensures.value ∙ ap (λ (x : Session). finished_in (sitting_of x)) c.lent-2.ensures.value) c.min.ensures c.fill.ensures)
