-- The entries that the scan tells of.
use Rattle.std.specs.Prelude.{◌≡◌, ℕ, ◌<◌, ◌^◌, ◌/◌, ◌&&◌, nat_lt, Bool, true, false, cond, Option, Some, None, List, [], ◌∷◌}
use Rattle.fkv_base.specs.declared.numbers.Addr.{Addr}
use Rattle.fkv_scan.specs.declared.home_scans.HomeScan.{HomeScan}
use Rattle.fkv_entries.specs.declared.home_entries.HomeEntry.{HomeEntry}
use Rattle.fkv_opening.specs.Entries.{place_of}

-- an address, or else this number
abbrev pub addr_or : Option Addr → ℕ → ℕ
addr_or None n = n
addr_or (Some a) n = a.0

-- where the entry of a home points: to the newest record that counts, or else to where the chain goes on below the start; 0 where it doesn't go on
unfoldable pub addr_told : HomeScan → ℕ
addr_told s = addr_or s.newest (addr_or s.below 0)

-- what an entry can point to
abbrev pub is_addr : ℕ → Bool
is_addr a = nat_lt 0 a && nat_lt a (2 ^ 48)

-- whether a home has an entry: one that can point there, in a bucket of an index of 2^bits
abbrev pub has_entry : ℕ → ℕ → HomeScan → Bool
has_entry bits its_home s = is_addr (addr_told s) && nat_lt (its_home / 2 ^ 15) (2 ^ bits)

-- the entry of a home, or none
abbrev pub told_of : ℕ → ℕ → HomeScan → Option HomeEntry → Type 0
told_of bits its_home s None = has_entry bits its_home s ≡ false
told_of bits its_home s (Some x) = (has_entry bits its_home s ≡ true) × (place_of x ≡ (its_home, addr_told s)) × (x.bucket < 2 ^ bits)

-- the homes that have an entry, each with its address
abbrev pub listed : ℕ → List (ℕ × HomeScan) → List (ℕ × ℕ)
listed bits [] = []
listed bits (e ∷ es) = cond (has_entry bits e.0 e.1) ((e.0, addr_told e.1) ∷ listed bits es) (listed bits es)
