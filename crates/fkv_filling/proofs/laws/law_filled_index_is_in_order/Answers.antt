use Rattle.fkv_filling.proofs.FilledIndex.{filled_in_order, filled_has_room}
use Rattle.fkv_filling.proofs.laws.law_filled_index_is_in_order.Goals as goal

pub returns-clause-in_order : goal.returns-clause-in_order
returns-clause-in_order c = filled_in_order

pub returns-clause-has_room : goal.returns-clause-has_room
returns-clause-has_room c = filled_has_room
