-- The law, by the one list of events that the rule has.
use Rattle.fkv_seats.proofs.Seats.{in_order}
use Rattle.fkv_seats.proofs.laws.law_seen_in_order.Goals as goal

pub returns : goal.returns
returns g c = λ plane. in_order plane
