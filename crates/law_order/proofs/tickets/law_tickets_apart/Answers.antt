-- The law, over each life.
use Rattle.law_order.proofs.OfTickets.Life.{tickets_apart}
use Rattle.law_order.proofs.tickets.law_tickets_apart.Goals as goal

pub returns : goal.returns
returns c = λ opening events opened few. tickets_apart opening events opened few
