-- What recovery finds in an image.
use Rattle.std.specs.Prelude.{ℕ, List}
use Rattle.fkv_base.specs.declared.faults.Fault.TheVariants.{NotAStore, Damaged as damaged}
use Rattle.fkv_opening.specs.Faults.{IsFaultOf}
use Rattle.fkv_opening.specs.Opened.{IsStoreOf}
use Rattle.fkv_looking.specs.declared.recovered.Recovered.{Recovered}
use Rattle.fkv_looking.specs.declared.recovered.Recovered.TheVariants.{NoStore, Damaged, Store}

-- no store, this damage, or this store
abbrev pub IsRecovered : List ℕ → Recovered → Type 0
IsRecovered image NoStore = IsFaultOf image NotAStore
IsRecovered image (Damaged part place) = IsFaultOf image (damaged part place)
IsRecovered image (Store opened) = IsStoreOf image opened
