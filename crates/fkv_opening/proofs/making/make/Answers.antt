use Rattle.std.proofs.Common.{arith, refl, ◌^◌}
use Rattle.fkv_entries.proofs.Shown.{in_room}
use Rattle.fkv_opening.specs.Faults.{log_of}
use Rattle.fkv_opening.proofs.Fitting.{have_room}
use Rattle.fkv_opening.proofs.Refusing.{log_short}
use Rattle.fkv_opening.proofs.Telling.{IsBounded, are_entries}
use Rattle.fkv_opening.proofs.Warming.{nothing_warm, room_in_ring}
use Rattle.fkv_opening.proofs.making.make.Goals as goal

pub invariant_of-result-clause-room : goal.invariant_of-result-clause-room
invariant_of-result-clause-room c =
    have_room c.args.newest.shape.bucket_bits c.args.newest.shape.overflow c.args.scanned.now c.in_ok-entries.ensures.ordered c.in_ok-entries.entries.items c.in_ok-entries.ensures.ok c.in_ok-entries.ensures.there c.requires

pub invariant_of-result-clause-few_entries : goal.invariant_of-result-clause-few_entries
invariant_of-result-clause-few_entries c = in_room (2 ^ c.args.newest.shape.bucket_bits) c.args.newest.shape.overflow c.in_ok-entries.entries.items (invariant_of-result-clause-room c)

pub invariant_of-result-clause-warm_in_ring : goal.invariant_of-result-clause-warm_in_ring
invariant_of-result-clause-warm_in_ring c = room_in_ring c.args.newest.shape c.args.newest.slot.end.0

pub returns-clause-ok : goal.returns-clause-ok
returns-clause-ok c = λ image triples has scanned sound.
    let n = c.args.newest in
    let log = log_of image n triples in
    let bounds : IsBounded log = record { some = n.fits.log.some; upwards = n.fits.log.upwards; short = log_short n.shape n.slot.end.0 n.fits.log.on_disk } in
    record {
      newest = n;
      triples = triples;
      checkpoint = has;
      sound = sound;
      tells = record {
        shape = refl;
        number = refl;
        begin = refl;
        tail = refl;
        points = c.in_ok-points.ensures.ok;
        gate_0 = c.gates-gates.ensures.gate_0;
        gate_1 = c.gates-gates.ensures.gate_1;
        checkpoint = refl;
        first = refl;
        triples = refl;
        area = refl;
      };
      entries = are_entries log c.args.scanned.now c.law_entries.ensures bounds (λ i x is. (has.stored.each i x is).in_log) scanned sound.chains c.in_ok-entries.ensures.ordered c.in_ok-entries.entries.items c.in_ok-entries.ensures.ok;
      lost = record { left_out = c.args.scanned.now.newer; tells = scanned.newer; extends = c.lost_in_hand-lost.ensures image n.shape triples };
      warm = nothing_warm image _ (omega arith);
    }
