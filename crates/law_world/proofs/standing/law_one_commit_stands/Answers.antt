-- The law, by what holds at every moment.
use Rattle.law_world.proofs.OfStanding.Runs.{run_at, run_begins, run_named, run_stands, run_written}
use Rattle.law_world.proofs.standing.law_one_commit_stands.Goals as goal

pub returns-clause-begins : goal.returns-clause-begins
returns-clause-begins c = λ shape p opened opening events event told turns waits writes. run_begins shape p opened opening told events event turns waits writes

pub returns-clause-stands : goal.returns-clause-stands
returns-clause-stands c = λ shape p opened opening events image told turns left. (run_stands shape p opened opening told events image turns left).0

pub returns-clause-named : goal.returns-clause-named
returns-clause-named c = λ shape p opened opening events told turns. run_named shape p opened opening told events turns

pub returns-clause-writes : goal.returns-clause-writes
returns-clause-writes c = λ shape p opened opening events told turns works. run_at shape p opened opening told events turns works

pub returns-clause-written : goal.returns-clause-written
returns-clause-written c = λ shape p opened opening events image told turns left finishes. run_written shape p opened opening told events image turns left finishes

pub returns-clause-triples : goal.returns-clause-triples
returns-clause-triples c = λ shape p opened opening events image told turns left. (run_stands shape p opened opening told events image turns left).1
