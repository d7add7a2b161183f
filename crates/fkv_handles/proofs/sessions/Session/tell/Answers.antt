-- The handle's call is that of the session that it holds.
use Rattle.fkv_handles.proofs.sessions.Session.tell.Goals as goal

pub returns-in-Some-clause-called : goal.returns-in-Some-clause-called
returns-in-Some-clause-called c = rw (c.in-Some.is, ← c.laid_in-its_call.ensures) c.call.ensures.called

pub returns-in-None-clause-called : goal.returns-in-None-clause-called
returns-in-None-clause-called c = rw c.in-None.is (λ answer says. says)
