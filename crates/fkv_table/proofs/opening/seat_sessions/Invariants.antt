use Rattle.std.proofs.Common.{◌≡◌, [], length, map}
use Rattle.fkv_base.specs.Limits.{drain_slots}
use Rattle.fkv_seats.specs.Rule.{desk_slot}
use Rattle.fkv_table.specs.Starts.{EachAt, HasSeat, rest_view}
use Rattle.fkv_table.proofs.opening.seat_sessions.Given as goal

abbrev pub invariant-loop-machine : goal.invariant-loop-machine
invariant-loop-machine g l = record {
  table : l.rest.table_id ≡ l.fn.rest.table_id;
  rest : l.rest.me ≡ (rest_view l.words.key (length l.yielded), []);
  machines : map (λ x. x.0.machine) l.seated.items ≡ l.yielded;
  seats : EachAt l.seated.items (λ i x. HasSeat l.words.key l.words.table_id i x.1.seat.table_id x.1.seat.me × (x.0.desk ≡ desk_slot drain_slots i));
}
