-- The slot of a renewed store is one of a store.
use Rattle.std.proofs.Common.{ℕ, ◌+◌, ◌*◌, ◌%◌, ◌≤◌, List, length, sym, ap, subst, arith}
use Rattle.std.specs.Prelude.{All, AllPairs}
use Rattle.fkv_base.specs.declared.numbers.Key.{Key}
use Rattle.fkv_base.specs.declared.numbers.Serial.{Serial}
use Rattle.fkv_base.specs.declared.numbers.Value.{Value}
use Rattle.fkv_base.specs.declared.shapes.Shape.{Shape}
use Rattle.fkv_record.specs.declared.formats.Format.TheVariants.{Third}
use Rattle.fkv_record.specs.declared.manifest_slots.ManifestSlot.{ManifestSlot}
use Rattle.fkv_marks.proofs.Shown.{window_small}
use Rattle.fkv_newest.specs.Manifest.{Suits, IsLostIn, Follows}
use Rattle.fkv_renewing.specs.Images.{IsRenewedSlot}

pub suits_renewed : (shape : Shape) (points : List Serial) (pairs : List (Key × Value)) (slot : ManifestSlot) → IsRenewedSlot shape points pairs slot → length pairs + 1 ≤ shape.disk_pages * shape.page → Suits shape 1 Third slot
suits_renewed shape points pairs slot renewed places = record {
  number = record { few = omega (arith, renewed.number); parity = ap (λ (m : ℕ). m % 2) renewed.number };
  log = record { some = omega (arith, renewed.first); upwards = omega (arith, renewed.first, renewed.end); on_disk = omega (arith, renewed.end, places) };
  begin = record { some = omega (arith, renewed.begin); before_scan = omega (arith, renewed.begin, renewed.first); whole = λ specified. (renewed.begin, λ same. cc) };
  checkpoint = record {
    few = omega (arith, renewed.triples);
    area = omega (arith, renewed.area);
    own_area = λ is_first. renewed.area;
    no_newer = omega (arith, renewed.checkpoint, renewed.number);
    in_window = window_small shape.class slot.checkpoint slot.number (omega (arith, renewed.number));
  };
  sessions = renewed.many;
  lost = record {
    each = subst (λ ranges. All (IsLostIn slot) ranges) (sym renewed.lost) (λ k d below. absurd (omega (arith, below)));
    rising = subst (λ ranges. AllPairs Follows ranges) (sym renewed.lost) (λ i j d above in_list. absurd (omega (arith, in_list)));
  };
}
