-- What is written stands there.
use Rattle.fkv_log.proofs.Written.{written, dropped_record}
use Rattle.fkv_log.proofs.laws.law_records_are_written.Goals as goal

pub returns-clause-written : goal.returns-clause-written
returns-clause-written c = written

pub returns-clause-invalidated : goal.returns-clause-invalidated
returns-clause-invalidated c = dropped_record
