-- What a renewed store is.
use Rattle.std.specs.Prelude.{◌≡◌, ◌≢◌, ℕ, ◌+◌, true, false, List, [], All, length, map}
use Rattle.std.specs.List.Sorted.{IsStrictlyIncreasing}
use Rattle.fkv_base.specs.declared.faults.Fault.{Fault}
use Rattle.fkv_base.specs.declared.numbers.Key.{Key}
use Rattle.fkv_base.specs.declared.numbers.Serial.{Serial}
use Rattle.fkv_base.specs.declared.numbers.Value.{Value}
use Rattle.fkv_base.specs.declared.shapes.Shape.{Shape}
use Rattle.fkv_creating.specs.Long.{IsLong}
use Rattle.fkv_newest.specs.declared.newest_slots.Newest.{Newest}
use Rattle.fkv_newest.specs.Newest.{IsNewestOf}
use Rattle.fkv_opening.specs.declared.opened_store.Opened.{Opened}
use Rattle.fkv_opening.specs.Faults.{IsFaultOf}
use Rattle.fkv_opening.specs.Opened.{IsStoreOf}
use Rattle.fkv_pairs.specs.Pairs.{ArePairs, absent_word, log_of_store}
use Rattle.fkv_scan.specs.Log.{Log}
use Rattle.fkv_renewing.specs.Images.{IsRenewed}
use Rattle.fkv_renewing.specs.Room.{point_at}

-- The pairs of some store, as `content` gives them: keys ascend, and no value is the word of a deleted key.
pub record AreSomePairs (pairs : List (Key × Value)) : Type 0 where
  pub ascending : IsStrictlyIncreasing (map (λ pair. pair.0.0) pairs)
  pub present : All (λ pair. pair.1.0 ≢ absent_word) pairs

-- An opened store of this shape is the renewed one: commit 1 is its newest and its checkpoint's, which has no triples; its log has one record for each pair; each
-- session has its point; no record is lost; the gate of slot 1 alone is open; and its pairs are these.
pub record IsRenewedStore (shape : Shape) (points : List Serial) (pairs : List (Key × Value)) (log : Log) (store : Opened) : Type 0 where
  pub its_shape : store.shape ≡ shape
  pub number : store.number.0 ≡ 1
  pub begin : store.begin.0 ≡ 1
  pub tail : store.tail.0 ≡ length pairs + 1
  pub its_points : (session : ℕ) → point_at store.points.items session ≡ point_at points session
  pub gate_0 : store.gates.0 ≡ false
  pub gate_1 : store.gates.1 ≡ true
  pub checkpoint : store.checkpoint.number.0 ≡ 1
  pub first : store.checkpoint.first.0 ≡ 1
  pub triples : store.checkpoint.triples ≡ 0
  pub area : store.checkpoint.area ≡ 1
  pub lost : store.lost.items ≡ []
  pub its_pairs : ArePairs log pairs

-- An image is as a renewal leaves one: its newest slot is that of a renewed store, and it is long; recovery finds no fault in it, and each store that it holds is
-- the renewed one. So `recover` answers that one, or is refused by the device or for want of memory, and `content` then gives the pairs.
pub record IsRenewal (shape : Shape) (points : List Serial) (pairs : List (Key × Value)) (image : List ℕ) : Type 0 where
  pub newest : Newest
  pub is_renewed : IsRenewed shape points pairs newest
  pub told : IsNewestOf image newest
  pub long : IsLong image newest.shape newest.slot
  pub faultless : (fault : Fault) → IsFaultOf image fault → ⊥
  pub holds : (opened : Opened) (store : IsStoreOf image opened) → IsRenewedStore shape points pairs (log_of_store image opened store) opened
