-- The next session's seat is cut off from the rest, and takes its desk.
use Rattle.std.proofs.Common.{◌∙◌}
use Rattle.fkv_table.specs.Planes.{opening_of}
use Rattle.fkv_table.proofs.Starts.{no_desk, rest_so, seat_so, splits_rest, whose}
use Rattle.fkv_table.proofs.opening.seat_next.Goals as goal

pub split_seat-seat-requires : goal.split_seat-seat-requires
split_seat-seat-requires g c = let r = c.requires.rest in let t = c.requires.table in
    (t.0, t.1, splits_rest (opening_of g.D.Device.seen) c.args.words.now.key c.args.rest.now.id r.0 c.args.rest.now.me.0 (λ i. (r.1 i).0))

pub sit_down-requires : goal.sit_down-requires
sit_down-requires g c =
    let r = c.requires.rest in
    let t = c.requires.table in
    let at = opening_of g.D.Device.seen in
    let cut = c.split_seat-seat.ensures in
    let its = whose at c.args.words.now.key r.0 c.args.rest.now.me c.split_seat-seat.result.me r.1 cut.4 in
    let none = no_desk at c.args.words.now.key r.0 c.args.rest.now.me c.split_seat-seat.result.me r.1 cut.4 in
    record { table = (cut.3 ∙ t.0, t.1); free = (r.0, its, none, r.2) }

pub returns : goal.returns
returns g c =
    let t = c.requires.table in
    let at = opening_of g.D.Device.seen in
    let key = c.args.words.now.key in
    let cut = c.split_seat-seat.ensures in
    let rest = c.args.rest.now.me in
    let right = c.split_seat-seat.result.me in
    record {
      rest = λ number is. rest_so at key number rest c.split_seat-seat.new.seat.me is cut.2;
      table = cut.0;
      seat = λ number is. seat_so at key number rest right is cut.4 c.args.words.now.table_id c.sit_down.new.seat.table_id c.sit_down.new.seat.me (c.sit_down.ensures.seat.0 ∙ (cut.3 ∙ t.0)) (c.sit_down.ensures.sat number (whose at key number rest right is cut.4));
    }
