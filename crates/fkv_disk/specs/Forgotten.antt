-- What is left of a life once it is told from its newest sync on.
use Rattle.std.specs.Prelude.{List, [], ◌∷◌, ℕ, true, false}
use Rattle.fkv_disk.specs.Calls.{Call, Write, Sync, reads_as}

-- the calls since the newest sync that succeeded; all of them where there was none
abbrev pub since_sync : List Call → List Call
since_sync [] = []
since_sync (Write at bytes done ∷ before) = Write at bytes done ∷ since_sync before
since_sync (Sync true ∷ before) = []
since_sync (Sync false ∷ before) = Sync false ∷ since_sync before

-- what was read at that sync
abbrev pub synced_bytes : List ℕ → List Call → List ℕ
synced_bytes opening [] = opening
synced_bytes opening (Write at bytes done ∷ before) = synced_bytes opening before
synced_bytes opening (Sync true ∷ before) = reads_as opening before
synced_bytes opening (Sync false ∷ before) = synced_bytes opening before
