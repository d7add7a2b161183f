-- The newest slot of the opened bytes in an image that has it.
use Rattle.std.proofs.Common.{◌≡◌, ℕ, zero, suc, ◌+◌, ◌-◌, ◌<◌, ◌≤◌, ◌∙◌, refl, sym, ap, subst, arith, List}
use Rattle.std.specs.Prelude.{Some}
use Rattle.law_opening.specs.Below.fkv_core.Openings.{area_numbered}
use Rattle.fkv_disk.specs.Bytes.{byte_at, bytes_at}
use Rattle.fkv_disk.proofs.Shown.{byte_at-bytes_at}
use Rattle.law_commit.specs.Below.fkv_keeper.LastCommits.{area_number}
use Rattle.law_commit.specs.Below.fkv_manifest.Newest.{newest, slot_in}
use Rattle.law_opening.specs.Below.fkv_newest.Newest as found
use Rattle.law_opening.specs.Below.fkv_newest.Newest.{HasShape, IsNewestOf}
use Rattle.law_opening.specs.Below.fkv_newest.TheNewest.{Newest}
use Rattle.law_opening.specs.Below.fkv_opening.Faults.{HasCheckpoint}
use Rattle.fkv_record.specs.declared.triples.Triple.{Triple}
use Rattle.law_order.specs.Images.Opened.{newest_in}
use Rattle.law_order.proofs.OfImages.Ranges.{range_same}

-- the area that is told by its number
pub same_area : (area : ℕ) → area < 2 → area_number (area_numbered area) ≡ area
same_area zero small = refl
same_area (suc zero) small = refl
same_area (suc (suc area)) small = absurd (omega (arith, small))

-- a part of a range that reads alike does so too
pub part_same : (xs ys : List ℕ) (at n from size : ℕ) → bytes_at xs at n ≡ bytes_at ys at n → from + size ≤ n → bytes_at xs (at + from) size ≡ bytes_at ys (at + from) size
part_same xs ys at n from size same within = range_same xs ys (at + from) size (λ i low high.
    let k : ℕ = i - at in
    let there : at + k ≡ i = omega (arith, low) in
    let below : k < n = omega (arith, low, high, within) in
    ap (byte_at xs) (sym there) ∙ (sym (byte_at-bytes_at xs at n k below) ∙ (ap (λ (bytes : List ℕ). byte_at bytes k) same ∙ (byte_at-bytes_at ys at n k below ∙ ap (byte_at ys) there))))

module _ (bytes image : List ℕ) (n : Newest) (triples : List Triple) (was : HasCheckpoint bytes n triples) (block : HasShape image n.shape) (place : ℕ) (in_bytes : newest bytes ≡ Some place) (in_image : newest image ≡ Some place)
    (slot : slot_in image place ≡ slot_in bytes place) where
  index_place : place ≡ found.slot_place n.index
  index_place = let same : Some place ≡ Some (found.slot_place n.index) = sym in_bytes ∙ was.newest.in_force in cc

  pub newest_kept : IsNewestOf image (newest_in image n)
  newest_kept = record {
    block = block;
    in_force = in_image ∙ ap Some index_place;
    manifest = record {
      stands = was.newest.manifest.stands ∙ ap Some (subst (λ (at : ℕ). slot_in bytes at ≡ slot_in image at) index_place (sym slot));
      suits = was.newest.manifest.suits;
    };
    open_0 = refl;
    open_1 = refl;
  }
