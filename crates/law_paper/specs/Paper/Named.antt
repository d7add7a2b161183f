-- What recovery makes of an image whose newest slot names a commit.
use Rattle.std.specs.Prelude.{◌≡◌, ◌↔◌, ℕ, List, Some}
use Rattle.fkv_base.specs.declared.faults.Fault.{Fault}
use Rattle.fkv_base.specs.declared.numbers.Key.{Key}
use Rattle.fkv_base.specs.declared.numbers.Value.{Value}
use Rattle.fkv_newest.specs.declared.newest_slots.Newest.{Newest}
use Rattle.fkv_opening.specs.Faults.{IsFaultOf}
use Rattle.fkv_opening.specs.Opened.{IsStoreOf}
use Rattle.fkv_opening.specs.declared.opened_store.Opened.{Opened}
use Rattle.law_log.specs.Ghosts.{Log, shown_upto}
use Rattle.fkv_pairs.specs.Pairs.{HasValue, log_of_store}

-- The store is of the commit that the slot names, with its points. Each key has the value that the log shows of versions up to the commit's.
pub record IsOfCommit (home : ℕ → ℕ) (bytes : List ℕ) (n : Newest) (g : Log) (r : Opened) (store : IsStoreOf bytes r) : Type 0 where
  pub shape : r.shape ≡ n.shape
  pub number : r.number.0 ≡ n.slot.number
  pub points : r.points.items ≡ n.slot.points.serials.items
  pub values : (key : Key) (value : Value) → (shown_upto home g n.slot.number key.0 ≡ Some value.0) ↔ HasValue (log_of_store bytes r store) key value

-- An image holds a store.
pub record HoldsStore (bytes : List ℕ) : Type 0 where
  pub opened : Opened
  pub is : IsStoreOf bytes opened

-- The image has no fault and holds a store. Any store that it holds is of that commit.
pub record HoldsCommit (home : ℕ → ℕ) (bytes : List ℕ) (n : Newest) (g : Log) : Type 0 where
  pub faultless : (fault : Fault) → IsFaultOf bytes fault → ⊥
  pub store : HoldsStore bytes
  pub each : (r : Opened) (store : IsStoreOf bytes r) → IsOfCommit home bytes n g r store
