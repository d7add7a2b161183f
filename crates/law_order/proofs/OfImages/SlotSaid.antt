-- The slot of a commit that fits its life, as a store of its shape can have it.
use Rattle.std.proofs.Common.{◌≡◌, inl, inr, ℕ, ◌*◌, ◌%◌, ◌^◌, ◌<◌, ◌≤◌, ◌∙◌, arith, refl, sym, ap, subst, List, [], length, take, take_all, All, AllPairs}
use Rattle.std.proofs.Math.Nat.{mul-le-mul}
use Rattle.std.proofs.lemmas.List.{length-take}
use Rattle.std.proofs.lemmas.List.Elements.{All-map, All-nil, All-weaker}
use Rattle.std.proofs.lemmas.List.FromFn.{length-map-range_with_len}
use Rattle.std.specs.List.{range_with_len}
use Rattle.std.specs.Prelude.{◌≢◌, ◌==◌, if◌then◌else◌, Bool, true, false}
use Rattle.fkv_base.specs.Limits.{last_serial, max_disk_pages, max_page, min_page}
use Rattle.fkv_base.specs.declared.numbers.Addr.{Addr}
use Rattle.fkv_base.specs.declared.numbers.Serial.{Serial}
use Rattle.fkv_base.specs.declared.numbers.Version.{Version}
use Rattle.fkv_base.specs.declared.shapes.Shape.{Shape}
use Rattle.fkv_base.proofs.Shown.{ring_between, slots_few}
use Rattle.law_commit.specs.Below.fkv_keeper.LastCommits.{area_number, point_written, points_written, slot_said}
use Rattle.law_commit.specs.Below.fkv_keeper.Area.{Area}
use Rattle.law_commit.specs.Below.fkv_keeper.Area.TheVariants as area
use Rattle.law_commit.specs.Below.fkv_keeper.Checkpoint.{Checkpoint}
use Rattle.law_opening.specs.Below.fkv_newest.Manifest.{Follows, HasLost, IsLostIn, Suits}
use Rattle.law_opening.specs.Below.fkv_opening.TheOpened.{Opened}
use Rattle.fkv_record.proofs.Shown.{third_format}
use Rattle.fkv_record.specs.Manifest.{newest_format, said_in}
use Rattle.fkv_record.specs.Places.{most_triples}
use Rattle.fkv_record.specs.declared.formats.Format.{Format}
use Rattle.fkv_record.specs.declared.formats.Format.TheVariants as format
use Rattle.fkv_record.specs.declared.lost_ranges.LostRange.{LostRange}
use Rattle.fkv_record.specs.declared.lost_ranges.LostRanges.{LostRanges}
use Rattle.fkv_record.specs.declared.manifest_slots.ManifestSlot.{ManifestSlot}
use Rattle.fkv_record.specs.declared.points.Points.{Points}
use Rattle.law_commit.specs.Below.fkv_world.World.{Now}
use Rattle.law_commit.specs.BegunCommits.{BegunCommit}
use Rattle.law_order.specs.Images.Fits.{FitsLife, NamesItsLost}
use Rattle.law_order.proofs.OfImages.LostOpened.{AreLostOpened, IsLostOpened}

-- ---- its points, and its lost ranges
many : (shape : Shape) (points : List Serial) → length (points_written shape.sessions points) ≡ shape.sessions
many shape points = length-map-range_with_len (λ (session : ℕ). point_written points session) 0 shape.sessions

pub some_points : (shape : Shape) (points : List Serial) → 0 < length (points_written shape.sessions points)
some_points shape points = let size = many shape points in let some = shape.limits.some_session in omega (arith, size, some)

pub few_points : (shape : Shape) (points : List Serial) → length (points_written shape.sessions points) ≤ 32
few_points shape points = let size = many shape points in let few = shape.limits.few_sessions in omega (arith, size, few)

pub small_points : (shape : Shape) (points : List Serial) → All (λ (s : Serial). s.0 ≤ last_serial) (points_written shape.sessions points)
small_points shape points = All-map (λ (s : Serial). s.0 ≤ last_serial) (λ (session : ℕ). point_written points session) (range_with_len 0 shape.sessions) (λ k d low. omega arith)

pub few_lost : (lost : List LostRange) → length (take 8 lost) ≤ 8
few_lost lost = let size = length-take 8 lost in omega (arith, size)

abbrev pub points_in : Shape → List Serial → Points
points_in shape points = record { serials = record { items = points_written shape.sessions points }; some_session = some_points shape points; few_sessions = few_points shape points; serials_fit = small_points shape points }

abbrev pub lost_in : List LostRange → LostRanges
lost_in lost = record { ranges = record { items = take 8 lost }; few_ranges = few_lost lost }

-- ---- its numbers are small
low_area : (a : Area) → area_number a < 2
low_area area.First = omega arith
low_area area.Second = omega arith

short_log : (s : Shape) (end : ℕ) → end ≤ s.disk_pages * s.page → end < 2 ^ 64
short_log s end on_disk =
    let page : s.page ≤ max_page = (ring_between s.page min_page max_page s.limits.page_size).1 in
    let disk : s.disk_pages ≤ max_disk_pages = s.limits.few_disk in
    let most : s.disk_pages * s.page ≤ max_disk_pages * max_page = mul-le-mul disk page in
    omega (arith, on_disk, most)

pub few_triples : (s : Shape) (triples : ℕ) → triples ≤ most_triples s → triples < 2 ^ 64
few_triples s triples fit = let most = slots_few s.bucket_bits s.overflow s.limits.few_buckets s.limits.few_overflow in omega (arith, fit, most)

module _ (o : Opened) (n : Now) (flushed : ℕ) (c : BegunCommit) (fits : FitsLife o n flushed c) (shape : n.shape ≡ o.shape) (held : n.keeper.lost ≡ o.lost.items) (used : n.keeper.last.checkpoint.number ≡ o.checkpoint.number) (begun : n.keeper.last.checkpoint.first ≡ o.checkpoint.first)
    (fit : c.parts.checkpoint.triples ≤ most_triples n.shape) (on_disk : flushed ≤ n.shape.disk_pages * n.shape.page) where
  end_on_disk : c.parts.end.0 ≤ n.shape.disk_pages * n.shape.page
  end_on_disk = let a = fits.is_flushed in omega (arith, a, on_disk)

  pub small_end : c.parts.end.0 < 2 ^ 64
  small_end = short_log n.shape c.parts.end.0 end_on_disk

  pub small_first : c.parts.checkpoint.first.0 < 2 ^ 64
  small_first = let a = fits.upwards in let b = small_end in omega (arith, a, b)

  pub small_begin : c.parts.begin.0 < 2 ^ 64
  small_begin = let a = fits.before_scan in let b = small_first in omega (arith, a, b)

  pub small_number : c.number.0 < 2 ^ 64
  small_number = let a = fits.few in omega (arith, a)

  pub small_checkpoint : c.parts.checkpoint.number.0 < 2 ^ 64
  small_checkpoint = let a = fits.few in let b = fits.no_newer in omega (arith, a, b)

  pub small_area : area_number c.parts.checkpoint.area < 2 ^ 64
  small_area = let a = low_area c.parts.checkpoint.area in omega (arith, a)

  -- what it says, as a slot
  abbrev pub slot_read : ManifestSlot
  slot_read = record {
    number = c.number.0;
    first = c.parts.checkpoint.first;
    end = c.parts.end;
    triples = c.parts.checkpoint.triples;
    area = area_number c.parts.checkpoint.area;
    points = points_in n.shape c.points;
    checkpoint = c.parts.checkpoint.number.0;
    lost = lost_in c.parts.lost;
    begin = c.parts.begin;
    number_fits = small_number;
    first_fits = small_first;
    end_fits = small_end;
    triples_fit = few_triples n.shape c.parts.checkpoint.triples fit;
    area_fits = small_area;
    checkpoint_fits = small_checkpoint;
    begin_fits = small_begin;
  }

  pub reads_so : said_in slot_read ≡ slot_said n.shape.sessions c.number c.parts.begin c.parts.end c.parts.checkpoint c.points c.parts.lost
  reads_so = refl

  -- its lost ranges lie in its log
  range_in : (r : LostRange) → IsLostOpened o r → c.parts.checkpoint ≡ n.keeper.last.checkpoint → IsLostIn slot_read r
  range_in r is same =
      let first : c.parts.checkpoint.first.0 ≡ o.checkpoint.first.0 = ap (λ (x : Checkpoint). x.first.0) same ∙ ap (λ (x : Addr). x.0) begun in
      let number : c.parts.checkpoint.number.0 ≡ o.checkpoint.number.0 = ap (λ (x : Checkpoint). x.number.0) same ∙ ap (λ (x : Version). x.0) used in
      let a = is.some in
      let b = is.in_log in
      let d = is.after_checkpoint in
      let e = is.no_newer in
      let later = fits.later in
      let newer = fits.newer in
      record { some = omega (arith, first, a); in_log = omega (arith, b, later); after_checkpoint = omega (arith, number, d); no_newer = omega (arith, e, newer) }

  lost_so : AreLostOpened o o.lost.items → NamesItsLost o n c → HasLost slot_read
  lost_so opened (inl none) =
      let same : take 8 c.parts.lost ≡ [] = ap (λ (x : List LostRange). take 8 x) none.none in
      record {
        each = subst (λ (x : List LostRange). All (IsLostIn slot_read) x) (sym same) (All-nil (IsLostIn slot_read));
        rising = subst (λ (x : List LostRange). AllPairs Follows x) (sym same) (λ i j d less low. absurd (omega (arith, low)));
      }
  lost_so opened (inr names) =
      let same : take 8 c.parts.lost ≡ o.lost.items = take_all 8 c.parts.lost names.few ∙ (names.lost ∙ held) in
      record {
        each = subst (λ (x : List LostRange). All (IsLostIn slot_read) x) (sym same) (All-weaker (λ (r : LostRange). IsLostOpened o r) (IsLostIn slot_read) (λ r is. range_in r is names.checkpoint) o.lost.items opened.each);
        rising = subst (λ (x : List LostRange). AllPairs Follows x) (sym same) opened.rising;
      }

  -- it is written in neither the first format, nor in a specified store in the fourth
  third_or_fourth : (b : Bool) → (if b then format.Third else format.Fourth) ≡ format.First → ⊥
  third_or_fourth true e = cc
  third_or_fourth false e = cc

  third_only : (f : Format) → f ≡ format.Third → f ≢ format.Fourth
  third_only f third fourth = cc

  -- a store of this shape can have it
  pub suits_so : AreLostOpened o o.lost.items → Suits n.shape (c.number.0 % 2) (newest_format slot_read) slot_read
  suits_so opened = record {
    number = record { few = fits.few; parity = refl };
    log = record { some = fits.some; upwards = fits.upwards; on_disk = end_on_disk };
    begin = record { some = fits.some_begin; before_scan = fits.before_scan; whole = λ specified. (let one = fits.whole specified in (one, third_only (newest_format slot_read) (third_format slot_read one))) };
    checkpoint = record { few = fit; area = low_area c.parts.checkpoint.area; own_area = λ first. absurd (third_or_fourth (c.parts.begin.0 == 1) first); no_newer = fits.no_newer; in_window = fits.in_window };
    sessions = many n.shape c.points;
    lost = lost_so opened fits.lost;
  }
