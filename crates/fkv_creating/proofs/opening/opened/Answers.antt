use Rattle.std.proofs.Common.{ap, [], length, ◌^◌, refl, ◌∙◌, arith}
use Rattle.std.specs.Option.{is_some}
use Rattle.fkv_record.specs.Points.{serial_numbers}
use Rattle.fkv_creating.proofs.Entryless.{no_entry_room, is_checkpoint, is_sound, no_entries, none_in_hand}
use Rattle.fkv_opening.proofs.Shown.{nothing_warm, room_in_ring}
use Rattle.fkv_creating.proofs.opening.opened.Goals as goal

pub invariant_of-result-clause-room : goal.invariant_of-result-clause-room
invariant_of-result-clause-room c = no_entry_room (2 ^ c.args.newest.now.shape.bucket_bits) c.args.newest.now.shape.overflow c.new-2.result.items c.new-2.ensures.items

pub invariant_of-result-clause-few_entries : goal.invariant_of-result-clause-few_entries
invariant_of-result-clause-few_entries c = omega (arith, c.new-2.ensures.len, ap length c.new-2.ensures.items)

pub invariant_of-result-clause-warm_in_ring : goal.invariant_of-result-clause-warm_in_ring
invariant_of-result-clause-warm_in_ring c = room_in_ring c.args.newest.now.shape c.args.newest.now.slot.end.0

pub returns-clause-ok : goal.returns-clause-ok
returns-clause-ok c = λ image told.
    let n = c.args.newest.now in
    record {
      newest = n;
      triples = [];
      checkpoint = is_checkpoint image n.shape n c.requires told;
      sound = is_sound image n.shape n c.requires;
      tells = record {
        shape = refl;
        number = refl;
        begin = refl;
        tail = refl;
        points = c.in_ok-points.ensures.ok;
        gate_0 = c.gates-gates.ensures.gate_0;
        gate_1 = c.gates-gates.ensures.gate_1;
        checkpoint = refl;
        first = refl;
        triples = refl;
        area = refl;
      };
      entries = no_entries image n.shape n c.requires c.new-2.result.items c.new-2.ensures.items;
      lost = none_in_hand image n.shape n c.requires c.new.result.items c.new.ensures;
      warm = nothing_warm image _ (omega arith);
    }

pub returns-clause-new : goal.returns-clause-new
returns-clause-new c =
    let n = c.args.newest.now in
    let new = c.requires in
    record {
      its_shape = refl;
      number = new.slot.number;
      begin = new.slot.begin;
      tail = new.slot.end;
      points = ap serial_numbers c.in_ok-points.ensures.ok ∙ new.slot.points;
      gate_0 = c.gates-gates.ensures.gate_0 ∙ ap is_some new.open_0;
      gate_1 = c.gates-gates.ensures.gate_1 ∙ ap is_some new.open_1;
      checkpoint = new.slot.checkpoint;
      first = new.slot.first;
      triples = new.slot.triples;
      area = new.slot.area;
      entries = c.new-2.ensures.items;
      lost = c.new.ensures;
    }
