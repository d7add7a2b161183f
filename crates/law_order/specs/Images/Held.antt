-- The triples in the area that the newest slot of an image names.
use Rattle.std.specs.Prelude.{◌≡◌, ◌⊎◌, ℕ, ◌*◌, ◌^◌, ◌<◌, List, slice_get, Some}
use Rattle.fkv_disk.specs.Bytes.{bytes_at}
use Rattle.law_opening.specs.Below.fkv_newest.TheNewest.{Newest}
use Rattle.law_opening.specs.Below.fkv_opening.Faults.{HasCheckpoint}
use Rattle.law_opening.specs.Below.fkv_opening.Opened.{IsStoreOf}
use Rattle.law_opening.specs.Below.fkv_opening.TheOpened.{Opened}
use Rattle.fkv_record.specs.Places.{area_place}
use Rattle.fkv_record.specs.declared.triples.Triple.{Triple}
use Rattle.law_opening.specs.Below.fkv_scan.Log.{AreApart}
use Rattle.law_commit.specs.Below.fkv_world.World.{Event, Now}
use Rattle.law_commit.specs.BegunCommits.{BegunCommit}
use Rattle.law_order.specs.Images.Named.{IsMadeBy, begun_so_far}
use Rattle.law_order.specs.Images.Read.{ReadsBack}
use Rattle.law_log.specs.Trace.{IsIn}

-- the bytes of the area, as far as the slot counts triples
abbrev pub area_bytes : List ℕ → Newest → List ℕ
area_bytes image n = bytes_at image (area_place n.shape (let s = n.slot in s.area)) (16 * (let s = n.slot in s.triples))

-- each of these is of a bucket of the index and leads below the commit's end, and no two are of one home
pub record SuitSlot (n : Newest) (triples : List Triple) : Type 0 where
  pub in_index : (i : ℕ) (x : Triple) → slice_get triples i ≡ Some x → x.bucket < 2 ^ n.shape.bucket_bits
  pub in_log : (i : ℕ) (x : Triple) → slice_get triples i ≡ Some x → (let s = n.slot in x.addr.0 < s.end.0)
  pub apart : AreApart triples

-- They are those that a full commit of this life has written; or the store was opened with them, and they are the slot's.
pub record HoldsTriples (o : Opened) (n : Now) (bytes : List ℕ) (events : List Event) (store : IsStoreOf bytes o) (image : List ℕ) : Type 0 where
  pub read : ReadsBack o n bytes events store image
  pub held : (let r = read in let names = r.names in let named = names.named in let c = named.commit in
      ((d : BegunCommit) × IsIn d (begun_so_far n bytes events) × IsMadeBy d c.parts.checkpoint (area_bytes image r.newest)) ⊎ HasCheckpoint image r.newest store.triples)
