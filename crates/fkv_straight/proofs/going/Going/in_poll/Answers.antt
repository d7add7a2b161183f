-- A poll goes by the same numbers, and has no bound.
use Rattle.fkv_straight.proofs.going.Going.in_poll.Goals as goal

pub returns-clause-goes : goal.returns-clause-goes
returns-clause-goes c = λ its k op goes. record {
  its_seat = goes.its_seat;
  its_op = goes.its_op;
  its_places = goes.its_places;
  its_bits = goes.its_bits;
  its_head = goes.its_head;
  its_floor = goes.its_floor;
  its_read_only = goes.its_read_only;
  its_version = goes.its_version;
  its_mark = goes.its_mark;
  moves_on = goes.moves_on;
  prepares = goes.prepares;
  its_bound = goes.its_bound;
  spare_fits = goes.spare_fits;
  settled = goes.settled;
}
