-- What an image shows of a record, by the words that stand for it, or by the opened bytes.
use Rattle.std.proofs.Common.{◌≡◌, ℕ, ◌+◌, ◌*◌, ◌<◌, ◌≤◌, ◌%◌, ◌^◌, ◌∙◌, inr, sym, ap, subst, arith, false, List, [], ◌∷◌, ◌++◌, length}
use Rattle.std.specs.Int.{to_le_bytes, w64}
use Rattle.fkv_base.specs.declared.shapes.Shape.{Shape}
use Rattle.fkv_marks.proofs.Shown.{mark_low}
use Rattle.fkv_disk.specs.Bytes.{bytes_at}
use Rattle.fkv_disk.specs.Calls.{Call, MayLeave}
use Rattle.law_commit.specs.Below.fkv_flush.GuardFlushed.{IsSynced}
use Rattle.law_commit.specs.Below.fkv_ops.Values.{value_of}
use Rattle.fkv_plane.specs.declared.places.RecordWord.{RecordWord}
use Rattle.fkv_plane.specs.declared.places.RecordWord.TheVariants as rec
use Rattle.fkv_record.proofs.Shown.{from_lower}
use Rattle.fkv_record.specs.Begin.{from_or_none}
use Rattle.fkv_record.specs.Layout.{record_bytes}
use Rattle.fkv_record.specs.Numbers.{spelled}
use Rattle.fkv_record.specs.Places.{area_place, record_place}
use Rattle.law_opening.specs.Below.fkv_scan.Log as scan
use Rattle.law_opening.proofs.OfChanges.OfDevice.Words.{value_fits}
use Rattle.law_opening.specs.Changes.Fits.{CellFits}
use Rattle.law_order.proofs.OfImages.Ranges.{range_same}
use Rattle.law_order.specs.Images.Records.{ShowsGivenUp}
use Rattle.law_order.proofs.OfImages.Words.{low_bytes, low_word}
use Rattle.law_order.proofs.OfServed.Floors.{cut_again}
use Rattle.law_log.specs.Chains.{Cell}
use Rattle.law_opening.specs.Log.Records.{IsCellOf, cell_of}
use Rattle.law_commit.specs.Below.law_paper.Paper.Images.{ShowsCell, ShowsDropped}
use Rattle.law_commit.specs.Below.law_refine.Records.Headers.{IsGivenUp, IsHeaderOf}

-- the image has the three words in the place of the record
abbrev pub HasWords : scan.Log → ℕ → (RecordWord → ℕ) → Type 0
HasWords image a words = bytes_at image.image (record_place image.shape a) 24 ≡ spelled (words rec.Header ∷ words rec.Key ∷ words rec.Value ∷ [])

pub shows_words : (from : ℕ) (image : scan.Log) (a : ℕ) (words : RecordWord → ℕ) (cell : Cell) → HasWords image a words → IsHeaderOf cell false (words rec.Header) → words rec.Key ≡ cell.key → value_of (words rec.Value) ≡ cell.value
    → CellFits cell → ShowsCell from image a cell
unfolding record_bytes
shows_words from image a words cell there is key value fits = record {
  held = record {
    header = is.header;
    key = record { 0 = words rec.Key };
    value = words rec.Value;
    key_fits = subst (λ (n : ℕ). n < 2 ^ 64) (sym key) fits.0;
    value_fits = value_fits (words rec.Value) cell.value value fits.1;
  };
  stands = sym (there ∙ ap (λ (h : ℕ). spelled (h ∷ words rec.Key ∷ words rec.Value ∷ [])) is.spells);
  valid = is.bit;
  its_key = key;
  its_value = value;
  leads = ap (from_or_none image.begin) is.leads;
  low = (let same = is.its_mark in let under = mark_low cell.version in omega (arith, same, under));
  same = λ high. is.its_mark;
}

-- the bytes of a record go by what eight bytes hold of each of its words
low_spelled : (header key value : ℕ) → spelled (header ∷ key % 2 ^ 64 ∷ value % 2 ^ 64 ∷ []) ≡ spelled (header ∷ key ∷ value ∷ [])
low_spelled header key value =
    ap (λ (bytes : List ℕ). to_le_bytes w64 header ++ (bytes ++ (to_le_bytes w64 (value % 2 ^ 64) ++ []))) (low_bytes key)
    ∙ ap (λ (bytes : List ℕ). to_le_bytes w64 header ++ (to_le_bytes w64 key ++ (bytes ++ []))) (low_bytes value)

pub shows_given_up : (image : scan.Log) (a : ℕ) (words : RecordWord → ℕ) (cell : Cell) → HasWords image a words → IsGivenUp a cell (words rec.Header) → ShowsGivenUp image a cell
unfolding record_bytes
shows_given_up image a words cell there gives =
    let is = gives.header in
    record {
      held = record {
        header = is.header;
        key = record { 0 = words rec.Key % 2 ^ 64 };
        value = words rec.Value % 2 ^ 64;
        key_fits = low_word (words rec.Key);
        value_fits = low_word (words rec.Value);
      };
      stands = ap (λ (h : ℕ). spelled (h ∷ words rec.Key % 2 ^ 64 ∷ words rec.Value % 2 ^ 64 ∷ [])) (sym is.spells) ∙ low_spelled (words rec.Header) (words rec.Key) (words rec.Value) ∙ sym there;
      invalid = is.bit;
      same = is.its_mark;
      leads = is.leads;
      falls = gives.falls;
    }

-- so recovery passes over it, if it is of the version after the commit's at most
pub passes_over : (image : scan.Log) (a : ℕ) (cell : Cell) → ShowsGivenUp image a cell → cell.version ≤ image.version + 1 → ShowsDropped image a cell
passes_over image a cell its young =
    let low = its.falls in
    let leads = its.leads in
    let lower = from_lower image.begin (let x = its.held in x.header.previous.0) in
    record { held = its.held; stands = its.stands; invalid = its.invalid; falls = omega (arith, low, leads, lower); same = its.same; young = young }

-- a record that counted stands as it stood, in an image whose log doesn't begin earlier
pub shows_counted : (from : ℕ) (was image : scan.Log) (a : ℕ) (cell : Cell) → was.begin ≤ image.begin → a < from → image.shape ≡ was.shape → bytes_at image.image (record_place was.shape a) 24 ≡ bytes_at was.image (record_place was.shape a) 24
    → IsCellOf was a cell → ShowsCell from image a cell
shows_counted from was image a cell up low shape same its =
    let x = its.held in
    let cell_is : cell ≡ cell_of was x = its.its in
    let counts = its.counts in
    let old = counts.old_enough in
    let version : cell.version ≡ was.version = ap (λ (c : Cell). c.version) cell_is in
    record {
      held = x;
      stands = counts.valid.stands ∙ (sym same ∙ ap (λ (s : Shape). bytes_at image.image (record_place s a) 24) (sym shape));
      valid = counts.valid.valid;
      its_key = sym (ap (λ (c : Cell). c.key) cell_is);
      its_value = sym (ap (λ (c : Cell). c.value) cell_is);
      leads = cut_again was.begin image.begin x.header.previous.0 up ∙ sym (ap (λ (c : Cell). from_or_none image.begin c.previous) cell_is);
      low = omega (arith, old, version);
      same = λ high. absurd (omega (arith, low, high));
    }

-- ---- what stood before the opening
placed_from : (base a i : ℕ) → base + 24 * a ≤ i → base + 24 * 0 ≤ i
placed_from base a i from = omega (arith, from)

placed_to : (base a start i : ℕ) → a < start → i < base + 24 * a + 24 → i < base + 24 * start
placed_to base a start i low to = omega (arith, low, to)

pub old_bytes : (shape : Shape) (bytes image : List ℕ) (calls : List Call) (words : ℕ → RecordWord → ℕ) (start flushed a : ℕ) → IsSynced shape bytes calls words start flushed → MayLeave bytes calls image → a < start
    → record_place shape a + 24 ≤ length bytes → bytes_at image (record_place shape a) 24 ≡ bytes_at bytes (record_place shape a) 24
old_bytes shape bytes image calls words start flushed a synced left low within = range_same image bytes (record_place shape a) 24 (λ i from to.
    synced.earlier image (inr left) i (placed_from (area_place shape 2) a i from) (placed_to (area_place shape 2) a start i low to) (omega (arith, to, within)))
