-- The second seat gets up, the two are made one and cut again, and it sits down.
use Rattle.std.proofs.Common.{sym, ◌∙◌}
use Rattle.fkv_table.specs.Planes.{opening_of}
use Rattle.fkv_table.proofs.Ready.{in_hand, some_words}
use Rattle.fkv_table.proofs.Meets.{both_so, first_stays, have_met, joins_so, may_sit_again, one_so, right_so, second_stays, splits_so, whose_again}
use Rattle.fkv_table.proofs.joining.join.Goals as goal

pub get_up-requires : goal.get_up-requires
get_up-requires g c = let r = c.requires.ready.second_ready in record {
  table = (r.same_table, some_words _ _ r.opened);
  desk = in_hand (opening_of g.D.Device.seen) _ _ _ _ _ _ r;
}

pub join_seat-requires : goal.join_seat-requires
join_seat-requires g c =
    let two = c.requires.ready in
    let its = joins_so (opening_of g.D.Device.seen) _ _ _ _ _ _ two c.args.first.seat.id c.get_up.new.seat.id c.get_up.new.seat.me c.get_up.ensures.up in
    (two.first_ready.same_table, c.get_up.ensures.seat.0 ∙ two.second_ready.same_table, its.0, some_words _ _ two.first_ready.opened, its.1)

pub split_seat-back-requires : goal.split_seat-back-requires
split_seat-back-requires g c =
    let two = c.requires.ready in
    let at = opening_of g.D.Device.seen in
    let both_is = both_so at _ _ _ _ _ _ two c.get_up.new.seat.me c.join_seat.new.seat.me c.get_up.ensures.up c.join_seat.ensures.2 in
    (c.join_seat.ensures.0 ∙ two.first_ready.same_table, some_words _ _ two.first_ready.opened, splits_so at _ _ _ _ _ _ two c.join_seat.new.seat.id c.join_seat.new.seat.me both_is)

pub sit_down-requires : goal.sit_down-requires
sit_down-requires g c =
    let two = c.requires.ready in
    let at = opening_of g.D.Device.seen in
    let both_is = both_so at _ _ _ _ _ _ two c.get_up.new.seat.me c.join_seat.new.seat.me c.get_up.ensures.up c.join_seat.ensures.2 in
    let right_is = right_so at _ _ _ _ _ _ two c.join_seat.new.seat.me c.split_seat-back.result.me both_is c.split_seat-back.ensures.4 in
    record {
      table = (c.split_seat-back.ensures.3 ∙ (c.join_seat.ensures.0 ∙ two.first_ready.same_table), some_words _ _ two.first_ready.opened);
      free = may_sit_again at _ _ _ _ _ _ two c.split_seat-back.result.me right_is;
    }

pub returns : goal.returns
returns g c =
    let two = c.requires.ready in
    let at = opening_of g.D.Device.seen in
    let one = c.split_seat-back.new.seat.me in
    let right = c.split_seat-back.result.me in
    let back = c.sit_down.new.seat.me in
    let both_is = both_so at _ _ _ _ _ _ two c.get_up.new.seat.me c.join_seat.new.seat.me c.get_up.ensures.up c.join_seat.ensures.2 in
    let one_is = one_so at _ _ _ _ _ _ two c.join_seat.new.seat.me one both_is c.split_seat-back.ensures.2 in
    let right_is = right_so at _ _ _ _ _ _ two c.join_seat.new.seat.me right both_is c.split_seat-back.ensures.4 in
    let sat = c.sit_down.ensures.sat two.second.seat.number (whose_again at _ _ _ _ _ _ two right right_is) in
    let first_table = c.split_seat-back.ensures.0 ∙ c.join_seat.ensures.0 in
    let back_table = c.sit_down.ensures.seat.0 ∙ (c.split_seat-back.ensures.3 ∙ (c.join_seat.ensures.0 ∙ (two.first_ready.same_table ∙ sym two.second_ready.same_table))) in
    record {
      met = have_met at _ _ _ _ _ _ two one right back one_is right_is sat;
      first = first_stays at _ _ _ _ _ _ two one right back one_is right_is sat _ first_table;
      second = second_stays at _ _ _ _ _ _ two one right back one_is right_is sat _ back_table;
    }
