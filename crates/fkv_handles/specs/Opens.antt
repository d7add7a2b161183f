-- How the handles of a store begin that was opened from its image.
use Rattle.std.specs.Prelude.{◌≡◌, ◌⊎◌, ℕ, true, List, [], length, Option, Some, slice_get}
use Rattle.atomic_table.specs.Seated.{TableId}
use Rattle.fkv_base.specs.declared.faults.Fault.{Fault}
use Rattle.fkv_base.specs.declared.faults.Fault.TheVariants.{Memory}
use Rattle.fkv_opening.specs.declared.opened_store.Opened.{Opened}
use Rattle.fkv_opening.specs.Faults.{IsFaultOf}
use Rattle.fkv_opening.specs.Opened.{IsStoreOf}
use Rattle.fkv_posted.specs.declared.posted.Posted.{Posted}
use Rattle.fkv_session.specs.declared.answers.Finished.{Finished}
use Rattle.fkv_spread.specs.declared.keys.Keys.{Keys}
use Rattle.fkv_threads.specs.Below.fkv_world.Runs.{World}
use Rattle.fkv_handles.specs.declared.stores.Recovered.{Recovered}
use Rattle.fkv_handles.specs.declared.stores.Store.{Store}
use Rattle.fkv_handles.specs.Handles.{Opening, Sitting, Watch, store_is_open, store_keeper, store_keys, store_sessions}
use Rattle.fkv_threads.specs.Begun.{IsFirstWatch, IsOverStore}
use Rattle.fkv_warming.specs.Warmed.{warm_from}

-- what the opened store tells
pub record IsRecovered (opened : Opened) (told : Recovered) : Type 0 where
  pub shape : told.shape ≡ opened.shape
  pub number : told.number ≡ opened.number
  pub points : told.points.items ≡ opened.points.items
  pub entries : told.entries ≡ length opened.entries.items

-- at each place a session of that number sits at the table, which has seen nothing
abbrev pub AreFirst : Opening → TableId → List (Option Sitting) → Type 0
AreFirst key table places = (i : ℕ) (its : Option Sitting) → slice_get places i ≡ Some its
    → (finished : List Finished) × (its ≡ Some (record { key = key; table = table; number = i; seen = []; finished = finished }))

-- memory was refused, or the image has this fault
abbrev pub IsOpeningRefused : List ℕ → Fault → Type 0
IsOpeningRefused bytes fault = (fault ≡ Memory) ⊎ IsFaultOf bytes fault

module _ (at : Opening → World) where
  -- The handles are those of a table over the store that the image defines, with its newest records in memory, at most so many.
  pub record IsOpenedFrom (bytes : List ℕ) (keys : Keys) (most : ℕ) (store : Store) (told : Recovered) : Type 0 where
    pub opened : Opened
    pub is_store : IsStoreOf bytes opened
    pub warm : opened.warm.0 ≡ warm_from opened most
    pub recovered : IsRecovered opened told
    pub key : Opening
    pub table : TableId
    pub over : IsOverStore at key opened bytes
    pub count : length (store_sessions store) ≡ opened.shape.sessions
    pub sessions : AreFirst key table (store_sessions store)
    pub keeper : Watch
    pub has_keeper : store_keeper store ≡ Some keeper
    pub device : Posted
    pub first : IsFirstWatch key table device keeper
    pub laid : store_keys store ≡ keys
    pub is_open : store_is_open store ≡ true
