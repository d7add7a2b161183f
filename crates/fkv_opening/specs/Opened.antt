-- What an opened store is, against its image.
use Rattle.std.specs.Prelude.{◌≡◌, ℕ, List}
use Rattle.std.specs.Option.{is_some}
use Rattle.fkv_record.specs.declared.triples.Triple.{Triple}
use Rattle.fkv_newest.specs.declared.newest_slots.Newest.{Newest}
use Rattle.fkv_opening.specs.declared.opened_store.Opened.{Opened}
use Rattle.fkv_opening.specs.Entries.{AreEntries}
use Rattle.fkv_opening.specs.Faults.{HasCheckpoint, IsSound, log_of}
use Rattle.fkv_opening.specs.Lost.{AreInHand}
use Rattle.fkv_opening.specs.Warm.{IsWarm}

-- what the newest slot tells of the store: its commit, the gates, and the checkpoint that the commit uses
pub record Tells (n : Newest) (opened : Opened) : Type 0 where
  pub shape : opened.shape ≡ n.shape
  pub number : opened.number.0 ≡ n.slot.number
  pub begin : opened.begin ≡ n.slot.begin
  pub tail : opened.tail ≡ n.slot.end
  pub points : opened.points.items ≡ n.slot.points.serials.items
  pub gate_0 : opened.gates.0 ≡ is_some n.open_numbers.0
  pub gate_1 : opened.gates.1 ≡ is_some n.open_numbers.1
  pub checkpoint : opened.checkpoint.number.0 ≡ n.slot.checkpoint
  pub first : opened.checkpoint.first ≡ n.slot.first
  pub triples : opened.checkpoint.triples ≡ n.slot.triples
  pub area : opened.checkpoint.area ≡ n.slot.area

-- An image holds a store, and this is it: no stage finds a fault, the newest slot tells the store, the entries and the lost ranges in hand are those of
-- the log behind the checkpoint, and memory has of its records what it is to have.
pub record IsStoreOf (image : List ℕ) (opened : Opened) : Type 0 where
  pub newest : Newest
  pub triples : List Triple
  pub checkpoint : HasCheckpoint image newest triples
  pub sound : IsSound (log_of image newest triples)
  pub tells : Tells newest opened
  pub entries : AreEntries (log_of image newest triples) opened.entries.items
  pub lost : AreInHand (log_of image newest triples) opened.lost.items
  pub warm : IsWarm image opened
