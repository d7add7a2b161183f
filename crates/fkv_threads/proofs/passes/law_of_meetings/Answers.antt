-- By what the thread law says of the read, and of what was seen before it.
use Rattle.fkv_threads.proofs.Meetings.{reads_other}
use Rattle.fkv_threads.proofs.passes.law_of_meetings.Goals as goal

pub returns : goal.returns
returns g c = λ at. reads_other at (c.law_threads.ensures.goes_on at)
