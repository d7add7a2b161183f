-- A device's calls as they were made, and what a device says of itself once such calls have come.
use Rattle.std.specs.Prelude.{◌≡◌, ℕ, zero, suc, ◌+◌, List, [], ◌∷◌, Bool, true, false}
use Rattle.fkv_disk.specs.Calls.{Call, Write, Sync}
use Rattle.fkv_disk.specs.Device.{after}

-- a read; a write, with where, what and whether it came through; a sync, with whether it came through
pub data Kind : Type 0 where
  Reading : Kind
  Writing : (at : ℕ) → (bytes : List ℕ) → (done : Bool) → Kind
  Syncing : (done : Bool) → Kind

-- What a device says of itself once some calls have come: whether something holds that it was made to tell, and the
-- bytes that it was opened with and its writes and syncs since, the newest first, as a crash takes them.
pub record Foretold : Type 0 where
  pub holds : Bool
  pub opening : List ℕ
  pub calls : List Call

-- of a device that says nothing of itself
abbrev pub nothing : Foretold
nothing = record { holds = false; opening = []; calls = [] }

-- What is said of the calls to come, the next one first, is said of those after this call.
abbrev pub after_kind : Kind → (List Kind → Foretold) → List Kind → Foretold
after_kind kind says = λ later. says (kind ∷ later)

-- the same after n reads
abbrev pub after_reads : ℕ → (List Kind → Foretold) → List Kind → Foretold
after_reads zero says = says
after_reads (suc n) says = after_reads n (after_kind Reading says)

-- The record of calls, the newest first, once those to come have come. A read leaves nothing in it, nor does a call that failed.
abbrev pub noted : List Kind → List Call → List Call
noted [] calls = calls
noted (Reading ∷ later) calls = noted later calls
noted (Writing at bytes true ∷ later) calls = noted later (Write at bytes true ∷ calls)
noted (Writing at bytes false ∷ later) calls = noted later calls
noted (Syncing true ∷ later) calls = noted later (Sync true ∷ calls)
noted (Syncing false ∷ later) calls = noted later calls

-- Reads were asked of the device, so many, and nothing else.
pub record OnlyReads {D : Type 0} (refuses : D → ℕ → Bool) (expects : D → List Kind → Foretold) (old new : D) : Type 0 where
  pub reads : ℕ
  pub counted : refuses new ≡ after reads (refuses old)
  pub kinds : expects new ≡ after_reads reads (expects old)

-- One sync was asked of the device, then so many reads, and nothing else.
pub record OneSyncThenReads {D : Type 0} (refuses : D → ℕ → Bool) (expects : D → List Kind → Foretold) (old new : D) : Type 0 where
  pub synced : Bool
  pub reads : ℕ
  pub counted : refuses new ≡ after (1 + reads) (refuses old)
  pub kinds : expects new ≡ after_reads reads (after_kind (Syncing synced) (expects old))
