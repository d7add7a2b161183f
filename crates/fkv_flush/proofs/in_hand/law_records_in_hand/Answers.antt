use Rattle.fkv_flush.proofs.InHand.{in_hand, next_part}
use Rattle.fkv_flush.proofs.in_hand.law_records_in_hand.Goals as goal

pub returns-clause-records : goal.returns-clause-records
returns-clause-records c = in_hand

pub returns-clause-parts : goal.returns-clause-parts
returns-clause-parts c = next_part
