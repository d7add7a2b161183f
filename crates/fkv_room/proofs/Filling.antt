-- Filling the buckets upwards, by what was counted.
use Rattle.std.proofs.Common.{◌≡◌, ℕ, ◌+◌, ◌^◌, ◌<◌, ◌≤◌, ap, subst, sym, arith}
use Rattle.std.specs.Ordering.{nat_cmp}
use Rattle.std.specs.BTreeMap.{IsOrdered}
use Rattle.fkv_base.specs.declared.shapes.Shape.{Shape}
use Rattle.fkv_scan.specs.declared.scans.Scanned.{Scanned}
use Rattle.fkv_scan.specs.Log.{Log}
use Rattle.fkv_room.specs.Counted.{homes_of}
use Rattle.fkv_room.specs.Refused.{IsSound}
use Rattle.fkv_entries.specs.Room.{needed}
use Rattle.fkv_room.specs.Room.{HasRoom, IsFull, in_bucket, taken}
use Rattle.fkv_room.proofs.Entering.{AreEntries}
use Rattle.fkv_room.proofs.Listing.{are_homes}

module _ (told : Scanned) (agree : AreEntries) (ordered : IsOrdered nat_cmp told.homes) (shape : Shape) (log : Log) (same : log.shape ≡ shape) (sound : IsSound log told) where
  same_bits : log.shape.bucket_bits ≡ shape.bucket_bits
  same_bits = ap (λ (s : Shape). s.bucket_bits) same

  same_overflow : log.shape.overflow ≡ shape.overflow
  same_overflow = ap (λ (s : Shape). s.overflow) same

  pub is_full : (b : ℕ) → b < 2 ^ shape.bucket_bits → taken (homes_of told.homes.entries) b ≤ shape.overflow
      → shape.overflow < taken (homes_of told.homes.entries) b + needed (in_bucket (homes_of told.homes.entries) b) → IsFull log b
  is_full b low before more = record {
    homes = homes_of told.homes.entries;
    are_homes = are_homes log told agree sound ordered;
    in_index = subst (λ n. b < 2 ^ n) (sym same_bits) low;
    before = omega (arith, before, same_overflow);
    here = omega (arith, more, same_overflow);
  }

  pub has_room : taken (homes_of told.homes.entries) (2 ^ shape.bucket_bits) ≤ shape.overflow → HasRoom log
  has_room enough = record {
    homes = homes_of told.homes.entries;
    are_homes = are_homes log told agree sound ordered;
    enough = subst (λ n. taken (homes_of told.homes.entries) (2 ^ n) ≤ log.shape.overflow) (sym same_bits) (omega (arith, enough, same_overflow));
  }
