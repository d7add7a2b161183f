-- The slot of commit 0 is one of a store.
use Rattle.std.proofs.Common.{◌≡◌, ℕ, zero, suc, ◌*◌, ◌%◌, ◌<◌, ◌≤◌, List, [], ◌∷◌, length, replicate, slice_index_or, sym, ap, subst, arith}
use Rattle.std.specs.Prelude.{All, AllPairs, IsTrue}
use Rattle.std.proofs.lemmas.Bool.Decides.{nat_tests}
use Rattle.std.proofs.lemmas.List.{length-map, length-replicate}
use Rattle.std.proofs.Math.Nat.{mul-le-mul}
use Rattle.fkv_base.specs.Limits.{is_ring_size, min_page, max_page, last_serial}
use Rattle.fkv_base.specs.declared.numbers.Serial.{Serial}
use Rattle.fkv_base.specs.declared.shapes.Shape.{Shape}
use Rattle.fkv_record.specs.declared.formats.Format.TheVariants.{Third}
use Rattle.fkv_record.specs.declared.manifest_slots.ManifestSlot.{ManifestSlot}
use Rattle.fkv_record.specs.Points.{serial_numbers}
use Rattle.fkv_marks.proofs.Shown.{window_small}
use Rattle.fkv_newest.specs.Manifest.{Suits, IsLostIn, Follows}
use Rattle.fkv_creating.specs.Created.{IsNewSlot}

-- so many points of 0
pub many_points : (xs : List Serial) (n : ℕ) → serial_numbers xs ≡ replicate n 0 → length xs ≡ n
many_points xs n e = omega (arith, length-map {A = Serial} {B = ℕ} xs (λ p. p.0), (let same : length (serial_numbers xs) ≡ length (replicate {A = ℕ} n 0) = ap length e in same), length-replicate {A = ℕ} n 0)

-- each of them is a serial
pub points_fit : (xs : List Serial) (n : ℕ) → serial_numbers xs ≡ replicate n 0 → (k : ℕ) (d : Serial) → k < length xs → (slice_index_or xs k d).0 ≤ last_serial
points_fit [] n e k d below = absurd (omega (arith, below))
points_fit (x ∷ xs) zero e k d below = absurd (cc)
points_fit (x ∷ xs) (suc n) e zero d below = let none : x.0 ≡ 0 = cc in omega (arith, none)
points_fit (x ∷ xs) (suc n) e (suc k) d below = points_fit xs n (let rest : serial_numbers xs ≡ replicate n 0 = cc in rest) k d (omega (arith, below))

pub page_some : (page : ℕ) → IsTrue (is_ring_size page min_page max_page) → 1 ≤ page
page_some page e = grind (arith, nat_tests)

pub suits_new : (shape : Shape) (slot : ManifestSlot) → IsNewSlot shape.sessions slot → Suits shape 0 Third slot
suits_new shape slot new = record {
  number = record { few = omega (arith, new.number); parity = ap (λ (m : ℕ). m % 2) new.number };
  log = record {
    some = omega (arith, new.first);
    upwards = omega (arith, new.first, new.end);
    on_disk = omega (arith, new.end, (let room : 1 ≤ shape.disk_pages * shape.page = mul-le-mul shape.limits.some_disk (page_some shape.page shape.limits.page_size) in room));
  };
  begin = record { some = omega (arith, new.begin); before_scan = omega (arith, new.begin, new.first); whole = λ specified. (new.begin, λ same. cc) };
  checkpoint = record {
    few = omega (arith, new.triples);
    area = omega (arith, new.area);
    own_area = λ is_first. new.area;
    no_newer = omega (arith, new.checkpoint);
    in_window = window_small shape.class slot.checkpoint slot.number (omega (arith, new.number));
  };
  sessions = many_points slot.points.serials.items shape.sessions new.points;
  lost = record {
    each = subst (λ ranges. All (IsLostIn slot) ranges) (sym new.lost) (λ k d below. absurd (omega (arith, below)));
    rising = subst (λ ranges. AllPairs Follows ranges) (sym new.lost) (λ i j d above in_list. absurd (omega (arith, in_list)));
  };
}
