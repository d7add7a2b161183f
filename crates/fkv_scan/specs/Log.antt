-- What a scan goes by.
use Rattle.std.specs.Prelude.{◌≡◌, ℕ, ◌+◌, ◌*◌, ◌^◌, ◌<◌, ◌≤◌, List, slice_get, Some}
use Rattle.fkv_base.specs.declared.shapes.Shape.{Shape}
use Rattle.fkv_marks.specs.Window.{oldest as oldest_of}
use Rattle.fkv_words.specs.Home.{bucket_of, tag_of}
use Rattle.fkv_record.specs.declared.lost_ranges.LostRange.{LostRange}
use Rattle.fkv_record.specs.declared.manifest_slots.ManifestSlot.{ManifestSlot}
use Rattle.fkv_record.specs.declared.records.Record.{Record}
use Rattle.fkv_record.specs.declared.triples.Triple.{Triple}

-- An image, its shape, the number of its newest commit, the oldest version that a record of the scan may have, the addresses at which the log begins, the scan
-- starts and the commit's log ends, which records are lost, and the triples of the commit's checkpoint.
pub record Log : Type 0 where
  pub image : List ℕ
  pub shape : Shape
  pub version : ℕ
  pub oldest : ℕ
  pub begin : ℕ
  pub start : ℕ
  pub tail : ℕ
  pub lost : List LostRange
  pub triples : List Triple

-- what a scan goes by where the newest slot says this
abbrev pub log_in : List ℕ → Shape → ManifestSlot → List Triple → Log
log_in image its_shape slot its_triples = record {
  image = image;
  shape = its_shape;
  version = slot.number;
  oldest = oldest_of its_shape.class slot.checkpoint;
  begin = slot.begin.0;
  start = slot.first.0;
  tail = slot.end.0;
  lost = slot.lost.ranges.items;
  triples = its_triples;
}

-- A home, a bucket and a tag below 2^15, as one number: homes are ordered by bucket and then by tag.
abbrev pub home : ℕ → ℕ → ℕ
home bucket tag = bucket * 2 ^ 15 + tag

-- the home of a triple
abbrev pub triple_home : Triple → ℕ
triple_home triple = home triple.bucket triple.tag

-- the home of a record, by its key, in an index of 2^bits buckets
unfoldable pub record_home : ℕ → Record → ℕ
record_home bits x = home (bucket_of x.key bits) (tag_of x.key bits)

-- a home has a triple with this address, from the log's begin on: a triple below it is none
pub record HasTriple (log : Log) (its_home addr : ℕ) : Type 0 where
  pub place : ℕ
  pub triple : Triple
  pub stands : slice_get log.triples place ≡ Some triple
  pub same : triple_home triple ≡ its_home
  pub address : (let t = triple in t.addr.0 ≡ addr)
  pub in_log : log.begin ≤ addr

-- a home has no triple
abbrev pub HasNoTriple : Log → ℕ → Type 0
HasNoTriple log its_home = (addr : ℕ) → HasTriple log its_home addr → ⊥

-- no home has two triples
abbrev pub AreApart : List Triple → Type 0
AreApart triples = (i j : ℕ) (x y : Triple) → slice_get triples i ≡ Some x → slice_get triples j ≡ Some y → triple_home x ≡ triple_home y → i ≡ j

-- all triples lead below the log's end
abbrev pub AreBelow : ℕ → List Triple → Type 0
AreBelow tail triples = (i : ℕ) (x : Triple) → slice_get triples i ≡ Some x → x.addr.0 < tail
