-- The law, by its four lemmas.
use Rattle.law_world.proofs.OfGuardSessions.Followed.{session_follows, call_follows}
use Rattle.law_world.proofs.OfGuardSessions.TurnFollowed.{turn_follows}
use Rattle.law_world.proofs.OfGuardSessions.WorldSteps.{move_follows}
use Rattle.law_world.proofs.guard_sessions.law_sessions_followed.Goals as goal

pub returns-clause-moves : goal.returns-clause-moves
returns-clause-moves c = move_follows

pub returns-clause-steps : goal.returns-clause-steps
returns-clause-steps c = λ w number x s sits other owes. session_follows w number x s sits.sound sits.got sits.below other sits.knows sits.protected owes sits.fits

pub returns-clause-turns : goal.returns-clause-turns
returns-clause-turns c = turn_follows

pub returns-clause-calls : goal.returns-clause-calls
returns-clause-calls c = λ w number x s its sits idle. call_follows w.now number x s its sits.got sits.below idle sits.protected sits.fits
