use Rattle.std.proofs.Common.{refl}
use Rattle.fkv_table.proofs.lines.SeatLineLine.first_past.Goals as goal

-- its ask is of the word at this place
pub start-requires-clause-word : goal.start-requires-clause-word
start-requires-clause-word g c = (c.args.place, refl)
