-- What came of a call of the device, as C tells it.
use Rattle.std.specs.Prelude.{◌-◌, ◌++◌, ℕ, zero, suc, nat_eq, if◌then◌else◌, List, length, take, replicate, Option, Some, None}
use Rattle.fkv_disk.specs.Asks.{AskedCall, Reads, Writes, Syncs}
use Rattle.fkv_posted.specs.declared.outcomes.Told.{Told}
use Rattle.fkv_posted.specs.declared.outcomes.Told.TheVariants.{Failed, Piece, Read, Synced, Written}
pub use Rattle.fkv_disk.specs.Asks.{asked_call}

-- the first so many, and zeros where there are fewer
abbrev pub first_bytes : ℕ → List ℕ → List ℕ
first_bytes n bytes = take n bytes ++ replicate (n - length bytes) 0

-- a read gave these bytes: of records in a row, or of one
abbrev pub read_told : ℕ → ℕ → List ℕ → Told
read_told at count bytes = if nat_eq count 768 then Piece at (first_bytes 768 bytes) else Read at (first_bytes 24 bytes)

abbrev pub done_of : Option AskedCall → List ℕ → Told
done_of (Some (Reads at count)) bytes = read_told at count bytes
done_of (Some (Writes at written)) bytes = Written
done_of (Some Syncs) bytes = Synced
done_of None bytes = Failed

-- it has failed where the number isn't 0
abbrev pub outcome_of : Option AskedCall → ℕ → List ℕ → Told
outcome_of ask zero bytes = done_of ask bytes
outcome_of ask (suc n) bytes = Failed
