use Rattle.std.proofs.Common.{refl}
use Rattle.fkv_table.proofs.lines.SeatLineLine.swap_past.Goals as goal

-- its ask is of the word at this place
pub step-requires-clause-word : goal.step-requires-clause-word
step-requires-clause-word g c = (c.args.place, refl)
