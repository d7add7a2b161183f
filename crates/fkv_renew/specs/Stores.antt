-- The store that an image holds, with its pairs, or why none is read of it; and how its keys come to lie.
use Rattle.std.specs.Prelude.{◌≡◌, ℕ, List}
use Rattle.fkv_base.specs.declared.faults.Fault.{Fault}
use Rattle.fkv_base.specs.declared.faults.Fault.TheVariants.{Damaged, Device, Memory, NotAStore}
use Rattle.fkv_opening.specs.Faults.{IsFaultOf}
use Rattle.fkv_opening.specs.Opened.{IsStoreOf}
use Rattle.fkv_pairs.specs.Pairs.{ArePairs, log_of_store}
use Rattle.fkv_renewing.specs.Laid.{AreLaid}
use Rattle.fkv_spread.specs.declared.keys.Keys.{Keys}
use Rattle.fkv_renew.specs.declared.stores.Store.{Store}

abbrev pub IsHeld : List ℕ → Store → Type 0
IsHeld image store = (held : IsStoreOf image store.opened) × ArePairs (log_of_store image store.opened held) store.pairs.items

-- the image has this fault, if its device is honest; or the device failed, or memory was refused
abbrev pub IsUnread : Type 0 → List ℕ → Fault → Type 0
IsUnread honest image NotAStore = honest → IsFaultOf image NotAStore
IsUnread honest image (Damaged part place) = honest → IsFaultOf image (Damaged part place)
IsUnread honest image Device = Unit {0}
IsUnread honest image Memory = Unit {0}
IsUnread honest image other = ⊥

-- the same store, its pairs as they come to lie
pub record IsLaid (keys : Keys) (store laid : Store) : Type 0 where
  pub opened : laid.opened ≡ store.opened
  pub pairs : AreLaid keys store.pairs.items laid.pairs.items
