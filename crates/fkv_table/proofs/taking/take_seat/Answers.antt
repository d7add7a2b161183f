-- A session's seat stays as it is when one for nobody is cut off.
use Rattle.std.proofs.Common.{ap, ◌∙◌}
use Rattle.fkv_table.specs.Planes.{opening_of}
use Rattle.fkv_table.proofs.Parting.{left_same, parts_from}
use Rattle.fkv_table.proofs.taking.take_seat.Goals as goal

pub split_seat-nobody-requires : goal.split_seat-nobody-requires
split_seat-nobody-requires g c =
    let t = c.requires.table in let whose = c.requires.whose in
    (t.0, t.1, parts_from (opening_of g.D.Device.seen) c.args.words.now.key c.args.place.now.id c.args.place.now.me.0 whose.0 whose.1 c.requires.empty)

pub returns : goal.returns
returns g c =
    let cut = c.split_seat-nobody.ensures in let whose = c.requires.whose in let me = c.args.place.now.me in
    record {
      same = (
        ap (λ s. s.table_id) c.replace.ensures.value ∙ cut.0,
        ap (λ s. s.me) c.replace.ensures.value ∙ (cut.2 ∙ λ i. (left_same (opening_of g.D.Device.seen) me.0 whose.0 whose.1 i, me.1)),
      );
    }
