-- Which images recovery answers alike.
use Rattle.std.specs.Prelude.{◌≡◌, ◌⊎◌, ℕ, ◌+◌, ◌*◌, ◌<◌, ◌≤◌, List}
use Rattle.fkv_base.specs.declared.faults.Fault.{Fault}
use Rattle.fkv_disk.specs.Bytes.{bytes_at}
use Rattle.fkv_record.specs.declared.triples.Triple.{Triple}
use Rattle.fkv_record.specs.Places.{area_place, record_place}
use Rattle.fkv_scan.specs.Scan.{HasScan}
use Rattle.fkv_chains.specs.Chains.{IsChainFault}
use Rattle.fkv_newest.specs.declared.newest_slots.Newest.{Newest}
use Rattle.fkv_newest.specs.Newest.{IsNewestOf, ShowSame}
use Rattle.fkv_opening.specs.Faults.{log_of, HasCheckpoint}

-- Behind a newest slot two images have the same triples of its checkpoint, and the same records (headers, keys and values) from its log's begin to below its
-- log's end.
pub record ShareLog (n : Newest) (image other : List ℕ) : Type 0 where
  pub triples : (i : ℕ) → i < n.slot.triples → bytes_at image (area_place n.shape n.slot.area + 16 * i) 16 ≡ bytes_at other (area_place n.shape n.slot.area + 16 * i) 16
  pub records : (a : ℕ) → n.slot.begin.0 ≤ a → a < n.slot.end.0 → bytes_at image (record_place n.shape a) 24 ≡ bytes_at other (record_place n.shape a) 24

-- Two images agree on what recovery reads: they show the first two stages the same (the block of the shape, what the open slots name, the bytes of the newest
-- slot), and share the log behind that slot.
pub record Agree (image other : List ℕ) : Type 0 where
  pub front : ShowSame image other
  pub behind : (n : Newest) → IsNewestOf image n → ShareLog n image other

-- a fault of the chains of an image, in which no earlier stage finds one
pub record IsOfChains (image : List ℕ) (fault : Fault) : Type 0 where
  pub newest : Newest
  pub triples : List Triple
  pub checkpoint : HasCheckpoint image newest triples
  pub scan : HasScan (log_of image newest triples)
  pub found : IsChainFault (log_of image newest triples) fault

-- Of one image, or of two, these are one fault; or both are of the chains, where several may stand, of which any one may be named.
abbrev pub AreOne : List ℕ → Fault → List ℕ → Fault → Type 0
AreOne image fault other found = (fault ≡ found) ⊎ (IsOfChains image fault × IsOfChains other found)
