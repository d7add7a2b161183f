use Rattle.fkv_entries.proofs.Counting.{in_room}
use Rattle.fkv_entries.proofs.laws.law_entries_in_room.Goals as goal

pub returns : goal.returns
returns c = in_room
