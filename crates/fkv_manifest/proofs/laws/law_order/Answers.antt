use Rattle.fkv_manifest.proofs.Order.{in_order, all_written, failed_last}
use Rattle.fkv_manifest.proofs.laws.law_order.Goals as goal

pub returns-clause-calls : goal.returns-clause-calls
returns-clause-calls c = λ w is_open more begins gate_begins. (in_order w is_open more begins gate_begins).1

pub returns-clause-written : goal.returns-clause-written
returns-clause-written c = λ w is_open more begins gate_begins. all_written w is_open more begins gate_begins

pub returns-clause-failed : goal.returns-clause-failed
returns-clause-failed c = λ w before later. failed_last w before later
